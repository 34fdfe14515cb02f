-- Laws of replies to the calls that look at a disk.
use mathlib.Core.Path.{◌≡◌, ap}
use Rattle.store.specs.Answer.{Word}
use Rattle.inspect.specs.Groups.{GroupsTold}
use Rattle.inspect.specs.Outcomes.{WalkTold}
use Rattle.luppaneth.specs.Looks.{groups_reply, outcomes_reply, of_groups_reply, of_outcomes_reply}
use Rattle.luppaneth.proofs.Replies.{word_back}

-- nothing that is told is lost in a reply
pub groups_back : (t : GroupsTold) → of_groups_reply (groups_reply t) ≡ t
groups_back t = ap (λ (w : Word). record { says = w; end = t.end; csn = t.csn }) (word_back t.says)

pub outcomes_back : (t : WalkTold) → of_outcomes_reply (outcomes_reply t) ≡ t
outcomes_back t = ap (λ (w : Word). record { says = w; groups = t.groups }) (word_back t.says)
