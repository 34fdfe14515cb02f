use Rattle.std.proofs.Common.{drop, ◌≡◌, ◌<◌}
use Rattle.report.specs.Adler.{sums}
use Rattle.report.proofs.line.adler.Given as goal

-- the sums so far, of which the rest makes those of the whole
abbrev pub invariant-loop-x : goal.invariant-loop-x
invariant-loop-x l = (l.a < 65521) × (l.b < 65521) × (sums (record { s1 = 1; s2 = 0 }) l.s ≡ sums (record { s1 = l.a; s2 = l.b }) (drop l.x-index l.s))
