use native.Mathlib.Omega.{arith}
use Rattle.inspect.proofs.Walking.{middle_within, below_middle, above_middle}
use Rattle.inspect.proofs.outcomes.find.Goals as goal

pub loop-low-preserved-then-here-id-2 : goal.loop-low-preserved-then-here-id-2
loop-low-preserved-then-here-id-2 c =
    let l = c.loop-low in
    let m = middle_within l.low l.high c.loop-low-test.true in
    (omega (arith, m.1), l.invariant.1, below_middle c.args.ids.now c.args.id c.requires _ (omega (arith, m.1, l.invariant.1)) c.if-here-id-2.true, l.invariant.3)

pub loop-low-preserved : goal.loop-low-preserved
loop-low-preserved c =
    let l = c.loop-low in
    let m = middle_within l.low l.high c.loop-low-test.true in (
      m.0,
      omega (arith, m.1, l.invariant.1),
      l.invariant.2,
      above_middle c.args.ids.now c.args.id c.requires _ (omega (arith, m.1, l.invariant.1)) (omega (arith, c.if-here-id-2.false, c.if-here-id.false)),
    )
