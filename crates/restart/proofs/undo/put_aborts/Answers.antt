use Rattle.std.proofs.Common.{refl, arith}
use Rattle.restart.proofs.Undos.{laid_none, laid_more}
use Rattle.restart.proofs.undo.put_aborts.Goals as goal

pub loop-i-init : goal.loop-i-init
loop-i-init c = laid_none _ _

pub loop-i-preserved : goal.loop-i-preserved
loop-i-preserved c =
    let a = c.args in
    let l = c.loop-i in
    laid_more a.ids.now l.i _ a.tail.now _ _ (omega arith) refl l.invariant c.put_abort.ensures
