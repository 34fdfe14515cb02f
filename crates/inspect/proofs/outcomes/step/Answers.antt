use Rattle.std.proofs.Common.{ℕ, arith, ap}
use Rattle.redolog.specs.declared.TxId.{TxId}
use Rattle.inspect.proofs.Walking.{end_in, end_within}
use Rattle.inspect.proofs.outcomes.step.Goals as goal
use Rattle.inspect.proofs.outcomes.step.Goals.{in-Aborted, in-Committed}

-- the group ends within what was read of the log
pub overflow_add-result : goal.overflow_add-result
overflow_add-result c =
    let h = end_within _ _ _ c.in-Ok.group c.in-Ok.ensures in
    let end : TxId × ℕ × ℕ × ℕ → ℕ = λ x. x.2 in
    elim c.match-group.branch [
      | in-Aborted w ↦ omega (arith, h, ap end_in w.in-Aborted.is, ap end w.outcome-is)
      | in-Committed w ↦ omega (arith, h, ap end_in w.in-Committed.is, ap end w.outcome-is)
    ]
