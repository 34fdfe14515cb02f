use Rattle.std.proofs.Common.{ℕ, ◌+◌, ◌*◌, ◌≡◌, ◌≤◌, drop}
use Rattle.std.specs.Fn.{FnReturnsAt}
use Rattle.transaction.specs.declared.Tx.{Tx}
use Rattle.transaction.specs.Lists.{sum_of}
use Rattle.report.proofs.line.counted.Given as goal

-- the sum so far, which with that of the rest is that of all
abbrev pub invariant-loop-t : goal.invariant-loop-t
invariant-loop-t g l =
    (l.sum ≤ 255 * l.t-index)
    × ((count : Tx → ℕ) → ((t : Tx) (r : ℕ) → FnReturnsAt g.F.Fn l.count t r → r ≡ count t) → sum_of count l.txs ≡ l.sum + sum_of count (drop l.t-index l.txs))
