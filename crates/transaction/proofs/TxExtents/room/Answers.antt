use Rattle.std.proofs.Common.{arith}
use Rattle.transaction.specs.View.{ranges_of}
use Rattle.transaction.proofs.RangeLaws.{size_bound}
use Rattle.transaction.proofs.TxExtents.room.Goals as goal

pub overflow_add-result : goal.overflow_add-result
overflow_add-result c =
    omega (arith, size_bound (ranges_of c.args.self.redo) (c.requires c.if-self-ne-RUNNING.false), c.size.ensures)
