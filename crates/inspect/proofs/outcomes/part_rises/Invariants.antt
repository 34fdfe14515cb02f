use Rattle.std.proofs.Common.{◌≡◌, take}
use Rattle.inspect.specs.Outcomes.{rising}
use Rattle.inspect.proofs.outcomes.part_rises.Given as goal

-- the first i ids are compared
abbrev pub invariant-loop-i : goal.invariant-loop-i
invariant-loop-i l = l.rises ≡ rising (take l.i l.part)
