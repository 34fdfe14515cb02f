use Prim.Native.Nat.{◌-◌, ◌≤◌}
use mathlib.Core.Path.{◌≡◌}
use lib.ListN.{length}
use Rattle.inspect.proofs.Walking.{walks_from}
use Rattle.inspect.proofs.outcomes.walk_log.Given as goal

abbrev pub invariant-loop-group : goal.invariant-loop-group
invariant-loop-group l = record {
  within : l.w.at ≤ length l.log;
  groups : l.w.groups ≤ l.w.at;
  beside : length l.out ≡ length l.ids;
  same : walks_from l.ids l.log l.initial.w l.initial.out ≡ walks_from l.ids l.log l.w l.out;
}

abbrev pub decreases-loop-group : goal.decreases-loop-group
decreases-loop-group l = length l.log - l.w.at
