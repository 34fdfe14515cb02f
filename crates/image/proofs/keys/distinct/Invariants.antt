use Rattle.std.proofs.Common.{◌≡◌, map, drop}
use Rattle.image.specs.Keys.{outline_by}
use Rattle.image.specs.Rules.{distinct}
use Rattle.image.proofs.keys.distinct.Given as goal

abbrev pub invariant-loop-i : goal.invariant-loop-i
invariant-loop-i l = distinct (map outline_by l.txs) ≡ distinct (map outline_by (drop l.i l.txs))
