use Rattle.std.proofs.Common.{List, ℕ, length, ◌≡◌, arith, sym, ap, ◌∙◌}
use mathlib.Core.Bool.{Bool, ◌&&◌, and-true}
use mathlib.Core.Logic.{⊎_elim}
use mathlib.Core.Path.{ap₂}
use lib.Dec.{eqb}
use Rattle.disk.specs.Equal.{same_bytes}
use Rattle.disk.proofs.Bytes.{same_turn, same_end}
use Rattle.disk.proofs.equal.same.Goals as goal

pub loop-x-preserved : goal.loop-x-preserved
loop-x-preserved c =
    let l = c.loop-x in
    let q = c.in-Some.ensures.steps in
    record {
      beside = omega (arith, ap length q.0, ap length q.1, l.invariant.beside);
      same = l.invariant.same
          ∙ ap₂ (λ (xs ys : List ℕ). eqb l.seen 0 && same_bytes xs ys) q.0 q.1
          ∙ same_turn l.seen c.in-Some.x.now c.in-Some.y.now c.next.new.self.a.rest.now c.next.new.self.b.rest.now;
    }

pub returns : goal.returns
returns c =
    let l = c.loop-x in
    let z : length l.x-iterator.a.rest.now ≡ 0 =
    ⊎_elim (λ w. w.1.0) (λ w. omega (arith, w.1.0, l.invariant.beside)) c.in-None.ensures.steps in
    sym (l.invariant.same ∙ ap (λ (b : Bool). eqb l.seen 0 && b) (same_end _ _ l.invariant.beside z) ∙ and-true _)
