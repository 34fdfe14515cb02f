use Rattle.std.proofs.Common.{◌≡◌, ℕ, min, length, List, take, true, false, sym, ap, ◌∙◌, arith}
use mathlib.Core.Bool.{◌&&◌}
use native.Mathlib.Decide.{dec_le}
use lib.Pointwise.{pointwise}
use lib.Dec.{eqb}
use lib.Seq.{take_all}
use borrow.Author.Tests.{ne_eqb}
use Rattle.transaction.specs.declared.ranges.Ranges.{Ranges}
use Rattle.transaction.specs.Lists.{up_from}
use Rattle.transaction.specs.View.{range_at, ranges_of}
use Rattle.transaction.specs.Rules.{same_ranges}
use Rattle.transaction.proofs.Lists.{length_up}
use Rattle.transaction.proofs.RangeLaws.{unequal}
use Rattle.transaction.proofs.Pairs.{at_place, same_pairs}
use Rattle.transaction.proofs.ranges.Ranges.same_ranges.Goals as goal
use Rattle.transaction.proofs.ranges.Ranges.same_ranges.Goals.{then-self-other, else-self-other}

-- as many of an array as it has
few : (xs : List ℕ) (n k : ℕ) → length xs ≡ 16 → n ≡ min 16 k → take n xs ≡ take k xs
few xs n k h e =
    elim (dec_le 16 k) [
      | yes l ↦ take_all n xs (omega (arith, l)) ∙ sym (take_all k xs (omega (arith, l)))
      | no l ↦ let q : n ≡ k = omega (arith, l) in ap (λ (j : ℕ). take j xs) q
    ]

same : (r q : Ranges) (n : ℕ) → length r.addr ≡ 16 → length r.len ≡ 16 → length q.addr ≡ 16 → length q.len ≡ 16
    → n ≡ min 16 r.count → r.count ≡ q.count
    → pointwise eqb (take n r.addr) (take n q.addr) && pointwise eqb (take n r.len) (take n q.len) ≡ same_ranges (ranges_of r) (ranges_of q)
same r q n a b c d e f =
    rw (few r.addr n r.count a e, few q.addr n r.count c e, few r.len n r.count b e, few q.len n r.count d e)
    (same_pairs r.addr r.len q.addr q.len r.count (omega arith) (omega arith) (omega arith)
    ∙ ap (λ (k : ℕ). same_ranges (ranges_of r) (up_from (at_place q.addr q.len) k 0)) f)

-- the counts differ
other : (r q : Ranges) → (r.count ≡ q.count → ⊥) → same_ranges (ranges_of r) (ranges_of q) ≡ false
other r q h = unequal (ranges_of r) (ranges_of q) (λ e. h (sym (length_up (range_at r) _ 0) ∙ e ∙ length_up (range_at q) _ 0))

pub returns-then-eq : goal.returns-then-eq
returns-then-eq c =
    let r = c.args.self in
    let q = c.args.other in
    elim c.if-self-other.branch [
      | then-self-other w ↦
          let s = same r q c.min-n.result (omega (arith, c.well_formed)) (omega (arith, c.well_formed)) (omega (arith, c.well_formed))
          (omega (arith, c.well_formed)) c.min-n.ensures w.if-self-other.true in
          let e : pointwise eqb (take c.min-n.result r.addr) (take c.min-n.result q.addr) ≡ true = cc in
          c.eq-then-eq.ensures ∙ (rw e at s)
      | else-self-other w ↦ let e = ne_eqb _ _ w.if-self-other.false in cc
    ]

pub returns-else-eq : goal.returns-else-eq
returns-else-eq c =
    let r = c.args.self in
    let q = c.args.other in
    elim c.if-self-other.branch [
      | then-self-other w ↦
          let s = same r q c.min-n.result (omega (arith, c.well_formed)) (omega (arith, c.well_formed)) (omega (arith, c.well_formed))
          (omega (arith, c.well_formed)) c.min-n.ensures w.if-self-other.true in
          let e : pointwise eqb (take c.min-n.result r.addr) (take c.min-n.result q.addr) ≡ false = cc in
          c.if-eq.false ∙ (rw e at s)
      | else-self-other w ↦ c.if-eq.false ∙ sym (other r q w.if-self-other.false)
    ]
