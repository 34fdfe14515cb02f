use Rattle.std.proofs.Common.{◌≡◌, List, ◌++◌, length}
use Rattle.recovery.specs.Transaction.{Tx}
use Rattle.image.specs.Heads.{image_by}
use Rattle.restart.proofs.Undos.{Undid}
use Rattle.restart.proofs.Select.{left_by}
use Rattle.restart.proofs.undo.undo_left.Given as goal

abbrev pub invariant-loop-i : goal.invariant-loop-i
invariant-loop-i l =
    record {
      endings : length l.found ≡ 8;
      done : List Tx;
      split : left_by (image_by l.fn.h l.s) l.initial.found l.fn.p.csn.0 ≡ done ++ left_by (image_by l.fn.h l.s) l.found l.fn.p.csn.0;
      undid : Undid done l.initial.memory l.memory l.ids l.count;
    }

abbrev pub decreases-loop-i : goal.decreases-loop-i
decreases-loop-i l = length (left_by (image_by l.fn.h l.s) l.found l.fn.p.csn.0)
