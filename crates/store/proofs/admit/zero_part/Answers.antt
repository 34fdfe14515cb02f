use Rattle.std.proofs.Common.{◌∙◌}
use Rattle.store.proofs.Zeros.{zeros_turn}
use Rattle.store.proofs.admit.zero_part.Goals as goal

pub loop-b-preserved : goal.loop-b-preserved
loop-b-preserved c = c.loop-b.invariant ∙ zeros_turn c.args.s.now c.loop-b.seen c.loop-b.b-index c.loop-b-test.true
