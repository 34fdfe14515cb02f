use Rattle.std.proofs.Common.{◌≡◌, length, arith}
use Rattle.transaction.proofs.RangeLaws.{counted, ranged}
use Rattle.transaction.proofs.Writes.{sized}
use Rattle.transaction.proofs.Tx.put_group.Goals as goal

pub put_group-requires-clause-n_in_bounds : goal.put_group-requires-clause-n_in_bounds
put_group-requires-clause-n_in_bounds c =
    let n = counted c.args.self.redo.ranges c.requires.0 in
    (omega (arith, c.well_formed), omega (arith, c.well_formed), omega (arith, c.well_formed))

pub put_group-requires-clause-by_index : goal.put_group-requires-clause-by_index
put_group-requires-clause-by_index c k h = (ranged c.args.self.redo.ranges c.requires.0 k h).1

pub put_group-requires-clause-n_in_bounds_2 : goal.put_group-requires-clause-n_in_bounds_2
put_group-requires-clause-n_in_bounds_2 c =
    let r = c.args.self.redo in
    let few : length r.bytes ≡ 512 = omega (arith, c.well_formed) in
    let e = sized r few (counted r.ranges c.requires.0) (λ j h. (ranged r.ranges c.requires.0 j h).1) in
    omega (arith, e, c.requires.1)
