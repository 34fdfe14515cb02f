use Rattle.std.proofs.Common.{◌≡◌, ◌-◌}
use Rattle.transaction.specs.Lists.{up_from}
use Rattle.store.specs.State.{tx_at, slot_in, slot_of}
use Rattle.store.specs.Extents.{bare_state}
use Rattle.store.proofs.extents.StateExtents.find.Given as goal

abbrev pub invariant-loop-i : goal.invariant-loop-i
invariant-loop-i l = let s = bare_state l.fn.self in slot_of s l.id.0 ≡ slot_in l.id.0 l.i (up_from (tx_at s) (l.n - l.i) l.i)
