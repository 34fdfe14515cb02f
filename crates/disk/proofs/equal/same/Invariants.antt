use Rattle.std.proofs.Common.{length, ◌≡◌}
use mathlib.Core.Bool.{◌&&◌}
use lib.Dec.{eqb}
use Rattle.disk.specs.Equal.{same_bytes}
use Rattle.disk.proofs.equal.same.Given as goal

-- no byte before these differs, if and only if `seen` is 0
abbrev pub invariant-loop-x : goal.invariant-loop-x
invariant-loop-x l = record {
  beside : length l.x-iterator.a.rest.now ≡ length l.x-iterator.b.rest.now;
  same : same_bytes l.a l.b ≡ eqb l.seen 0 && same_bytes l.x-iterator.a.rest.now l.x-iterator.b.rest.now;
}
