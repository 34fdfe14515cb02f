use Rattle.std.proofs.Common.{length, ◌-◌, ◌≡◌, ◌≤◌, drop}
use Rattle.inspect.specs.Outcomes.{rising}
use Rattle.inspect.proofs.outcomes.is_rising.Given as goal

-- up to this id the list rises
abbrev pub invariant-loop-at : goal.invariant-loop-at
invariant-loop-at l = record { within : l.at ≤ length l.ids; same : rising l.ids ≡ rising (drop l.at l.ids) }

abbrev pub decreases-loop-at : goal.decreases-loop-at
decreases-loop-at l = length l.ids - l.at
