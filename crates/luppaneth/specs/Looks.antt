-- What the calls that look at a disk answer with, as numbers.
use Rattle.inspect.specs.Groups.{GroupsTold}
use Rattle.inspect.specs.Outcomes.{WalkTold}
use Rattle.luppaneth.specs.declared.looks.GroupsReply.{GroupsReply}
use Rattle.luppaneth.specs.declared.looks.OutcomesReply.{OutcomesReply}
use Rattle.luppaneth.specs.Reply.{answer_of, number_of, word_of}

-- all that is told of the first groups, each field of it
abbrev pub groups_reply : GroupsTold → GroupsReply
groups_reply t = record { answer = answer_of t.says; number = number_of t.says; csn = t.csn; end = t.end }

-- of the walk over the log
abbrev pub outcomes_reply : WalkTold → OutcomesReply
outcomes_reply t = record { answer = answer_of t.says; number = number_of t.says; groups = t.groups }

-- back: what a host reads in them. That it is what was told: `groups_back`, `outcomes_back` (proofs/Looking.antt)
abbrev pub of_groups_reply : GroupsReply → GroupsTold
of_groups_reply r = record { says = word_of r.answer r.number; end = r.end; csn = r.csn }

abbrev pub of_outcomes_reply : OutcomesReply → WalkTold
of_outcomes_reply r = record { says = word_of r.answer r.number; groups = r.groups }
