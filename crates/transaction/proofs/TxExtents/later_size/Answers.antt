use Rattle.std.proofs.Common.{arith}
use Rattle.transaction.proofs.SavepointLaws.{few_savepoints, stood_within}
use Rattle.transaction.proofs.TxExtents.later_size.Goals as goal

pub stood-n-requires : goal.stood-n-requires
stood-n-requires c = few_savepoints c.args.self.extras.savepoints _ c.requires.1

pub size-requires : goal.size-requires
size-requires c =
    let within = stood_within c.args.self.extras.savepoints c.args.self.undo.count c.args.name c.requires.1 in
    (c.requires.0, omega (arith, c.stood-n.ensures, within))
