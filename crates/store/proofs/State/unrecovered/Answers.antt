use Rattle.store.specs.State.{unrecovered}
use Rattle.store.proofs.State.unrecovered.Goals as goal

pub returns : goal.returns
unfolding unrecovered
returns c = rw c.empty-t.ensures
