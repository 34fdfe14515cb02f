use Rattle.std.proofs.Common.{◌≡◌, ◌&&◌, drop, eqb}
use Rattle.store.specs.Rules.{all_zero}
use Rattle.store.proofs.admit.zero_part.Given as goal

abbrev pub invariant-loop-b : goal.invariant-loop-b
invariant-loop-b l = all_zero l.s ≡ (eqb l.seen 0 && all_zero (drop l.b-index l.s))
