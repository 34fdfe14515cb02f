use Rattle.std.proofs.Common.{◌≡◌, length}
use Rattle.report.specs.Record.{ids_from}
use Rattle.report.proofs.Ids.{laid_from}
use Rattle.report.proofs.record.ids_of.Given as goal

abbrev pub invariant-loop-i : goal.invariant-loop-i
invariant-loop-i l = (length l.ids ≡ 20) × (ids_from l.b 20 24 ≡ laid_from l.b l.ids l.i)
