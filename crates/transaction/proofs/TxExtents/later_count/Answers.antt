use Rattle.std.proofs.Common.{arith, length-drop}
use Rattle.transaction.specs.View.{range_at, ranges_of, bare_tx}
use Rattle.transaction.specs.Rules.{stood_at}
use Rattle.transaction.proofs.Lists.{length_up}
use Rattle.transaction.proofs.SavepointLaws.{few_savepoints, stood_within}
use Rattle.transaction.proofs.TxExtents.later_count.Goals as goal

pub stood-n-requires : goal.stood-n-requires
stood-n-requires c = few_savepoints c.args.self.extras.savepoints _ c.requires

pub overflow_sub-result : goal.overflow_sub-result
overflow_sub-result c =
    omega (arith, c.stood-n.ensures, stood_within c.args.self.extras.savepoints c.args.self.undo.count c.args.name c.requires)

pub returns : goal.returns
returns c =
    let r = c.args.self.undo in
    let e = length-drop (stood_at c.args.name (bare_tx c.args.self)) (ranges_of r) in
    omega (arith, c.stood-n.ensures, e, length_up (range_at r) r.count 0)
