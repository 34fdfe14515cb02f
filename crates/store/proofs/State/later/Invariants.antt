use Rattle.std.proofs.Common.{◌≡◌, length}
use Rattle.store.specs.Extents.{with_extents, Taken}
use Rattle.store.proofs.State.later.Given as goal

abbrev pub invariant-loop-i : goal.invariant-loop-i
invariant-loop-i l = (l.seen ≡ with_extents l.self l.seen.txs) × (length l.seen.txs ≡ 8) × Taken l.self l.seen.txs l.i
