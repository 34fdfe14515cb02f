use Rattle.std.proofs.Common.{◌≡◌, ◌*◌, drop}
use Rattle.store.specs.Rules.{all_zero}
use Rattle.store.proofs.admit.all_zero.Given as goal

abbrev pub invariant-loop-part : goal.invariant-loop-part
invariant-loop-part l = all_zero l.s ≡ all_zero (drop (l.part-index * 512) l.s)
