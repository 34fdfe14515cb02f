use Rattle.std.proofs.Common.{◌≡◌}
use Rattle.restart.specs.Turns.{best_of}
use Rattle.restart.proofs.undo.highest.Given as goal

abbrev pub invariant-loop-i : goal.invariant-loop-i
invariant-loop-i l = record { at = l.best; top = l.top } ≡ best_of l.txs l.found l.fn.last l.i
