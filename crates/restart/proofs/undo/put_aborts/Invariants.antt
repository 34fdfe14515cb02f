use Rattle.std.proofs.Common.{◌≡◌}
use Rattle.restart.specs.Turns.{aborts_laid}
use Rattle.restart.proofs.undo.put_aborts.Given as goal

abbrev pub invariant-loop-i : goal.invariant-loop-i
invariant-loop-i l = l.tail ≡ aborts_laid l.ids l.i l.initial.tail
