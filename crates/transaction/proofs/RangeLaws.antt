-- Laws of the range rule, and of ranges compared one by one.
use Prim.Native.Nat.{ℕ, suc, ◌+◌, ◌*◌, ◌≤◌, ◌<◌}
use native.Mathlib.Omega.{arith}
use mathlib.Core.Bool.{Bool, true, false, ◌&&◌}
use mathlib.Core.List.{List, [], ◌∷◌}
use mathlib.Core.Path.{◌≡◌, refl, sym, ap}
use lib.ListN.{length, get_or}
use lib.Dec.{leb, eqb}
use borrow.Author.Tests.{leb-true, le-leb, lt-leb, eqb-true}
use Rattle.redolog.specs.Record.{in_range}
use Rattle.redolog.proofs.Basics.{and_left, and_right}
use Rattle.transaction.specs.declared.ranges.Ranges.{Ranges}
use Rattle.transaction.specs.Lists.{every}
use Rattle.transaction.specs.View.{Range, range, range_at, ranges_of}
use Rattle.transaction.specs.Rules.{range_ok, records_ok, ranges_size, same_range, same_ranges}
use Rattle.transaction.proofs.Lists.{length_up, every_at}

-- what the range rule says of a length and an address
pub in_range_lem : (a n : ℕ) → in_range a n ≡ true → (1 ≤ n) × (n ≤ 32) × (a + n ≤ 4096)
in_range_lem a n e =
    let f = and_left (leb 1 n && leb n 32) (leb (a + n) 4096) e in (
      leb-true 1 n (and_left (leb 1 n) (leb n 32) f),
      leb-true n 32 (and_right (leb 1 n) (leb n 32) f),
      leb-true (a + n) 4096
          (and_right (leb 1 n && leb n 32) _ e),
    )

module _ (r : Ranges) where
  pub few : r.count ≤ 16 → records_ok (ranges_of r) ≡ every range_ok (ranges_of r)
  few h = rw (length_up (range_at r) r.count 0, le-leb _ _ h)

  pub many : 16 < r.count → records_ok (ranges_of r) ≡ false
  many h = rw (length_up (range_at r) r.count 0, lt-leb _ _ h)

  module _ (e : records_ok (ranges_of r) ≡ true) where
    pub counted : r.count ≤ 16
    counted =
        let h = leb-true (length (ranges_of r)) 16 (and_left (leb (length (ranges_of r)) 16) _ e) in
        omega (arith, length_up (range_at r) r.count 0)

    pub ranged : (j : ℕ) → j < r.count → (1 ≤ get_or r.len j 0) × (get_or r.len j 0 ≤ 32) × (get_or r.addr j 0 + get_or r.len j 0 ≤ 4096)
    ranged j h =
        in_range_lem _ _
        (every_at (range_at r) range_ok r.count 0 (and_right (leb (length (ranges_of r)) 16) _ e) j (omega arith) (omega arith))

sum_bound : (rs : List Range) → every range_ok rs ≡ true → ranges_size rs ≤ 39 * length rs
sum_bound [] e = omega arith
sum_bound (range a n ∷ rs) e =
    let h = in_range_lem a n (and_left (in_range a n) (every range_ok rs) e) in
    let t = sum_bound rs (and_right (in_range a n) (every range_ok rs) e) in
    omega arith

pub size_bound : (rs : List Range) → records_ok rs ≡ true → ranges_size rs ≤ 624
size_bound rs e =
    let h = leb-true (length rs) 16 (and_left (leb (length rs) 16) (every range_ok rs) e) in
    let t = sum_bound rs (and_right (leb (length rs) 16) (every range_ok rs) e) in
    omega arith

-- ---- ranges compared

pub unequal : (rs qs : List Range) → (length rs ≡ length qs → ⊥) → same_ranges rs qs ≡ false
unequal [] [] h = absurd (h refl)
unequal [] (q ∷ qs) h = refl
unequal (r ∷ rs) [] h = refl
unequal (r ∷ rs) (q ∷ qs) h = go (same_range r q) (unequal rs qs (λ e. h (ap suc e)))
  where
    go : (b : Bool) → same_ranges rs qs ≡ false → b && same_ranges rs qs ≡ false
    go true e = e
    go false e = refl

pub equal_ranges : (rs qs : List Range) → same_ranges rs qs ≡ true → rs ≡ qs
equal_ranges [] [] e = refl
equal_ranges [] (q ∷ qs) e = let z : true ≡ false = sym e in cc
equal_ranges (r ∷ rs) [] e = let z : true ≡ false = sym e in cc
equal_ranges (range a n ∷ rs) (range b m ∷ qs) e =
    let h = and_left (same_range (range a n) (range b m)) (same_ranges rs qs) e in
    let i : a ≡ b = eqb-true a b (and_left (eqb a b) (eqb n m) h) in
    let j : n ≡ m = eqb-true n m (and_right (eqb a b) (eqb n m) h) in
    let k : rs ≡ qs = equal_ranges rs qs (and_right (same_range (range a n) (range b m)) (same_ranges rs qs) e) in
    cc
