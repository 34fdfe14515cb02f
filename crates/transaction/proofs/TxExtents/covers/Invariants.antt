-- What is left to look at is covered exactly if the whole is.
use Rattle.std.proofs.Common.{◌≡◌, ◌-◌}
use Rattle.transaction.specs.View.{used_by, bare_tx}
use Rattle.transaction.specs.Rules.{covered}
use Rattle.transaction.proofs.TxExtents.covers.Given as goal

abbrev pub invariant-loop-at : goal.invariant-loop-at
invariant-loop-at l = covered (used_by (bare_tx l.self)) l.addr l.len ≡ covered (used_by (bare_tx l.self)) l.at (l.end - l.at)

abbrev pub decreases-loop-at : goal.decreases-loop-at
decreases-loop-at l = l.end - l.at
