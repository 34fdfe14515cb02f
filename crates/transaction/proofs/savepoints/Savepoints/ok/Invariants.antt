use Rattle.std.proofs.Common.{◌≡◌, ◌-◌}
use Rattle.transaction.specs.Lists.{up_from}
use Rattle.transaction.specs.View.{savepoint_at, savepoints_in}
use Rattle.transaction.specs.Rules.{names_ok, savepoints_ok}
use Rattle.transaction.proofs.savepoints.Savepoints.ok.Given as goal

abbrev pub invariant-loop-i : goal.invariant-loop-i
invariant-loop-i l = savepoints_ok l.writes (savepoints_in l.self) ≡ names_ok l.writes (up_from (savepoint_at l.self) (l.n - l.i) l.i)
