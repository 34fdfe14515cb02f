use Rattle.std.proofs.Common.{◌≡◌, ◌≤◌, ◌-◌, length, drop}
use Rattle.redolog.specs.Found.{found_number, or_one}
use Rattle.redolog.proofs.found.found_number.Given as goal

abbrev pub invariant-loop-record : goal.invariant-loop-record
invariant-loop-record l = record { within : l.at ≤ length l.s; same : or_one (found_number l.s) ≡ or_one (found_number (drop l.at l.s)) }

abbrev pub decreases-loop-record : goal.decreases-loop-record
decreases-loop-record l = length l.s - l.at
