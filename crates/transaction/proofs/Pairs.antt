-- The ranges as a walk over both arrays gives them, pairs of an address and a length. Past the arrays' end a range is empty: it meets nothing, no walk goes
-- on in it, and all of these are the same.
use Prim.Native.Nat.{ℕ, zero, suc, ◌+◌, ◌-◌, ◌≤◌}
use native.Mathlib.Omega.{arith}
use mathlib.Core.Bool.{Bool, true, false, ◌&&◌, ◌||◌}
use mathlib.Core.List.{List, [], ◌∷◌}
use mathlib.Core.Path.{◌≡◌, refl, sym, ap, ap₂, ◌∙◌}
use lib.ListN.{length, get_or, take, drop}
use lib.Dec.{eqb}
use lib.Pointwise.{pointwise}
use Rattle.std.proofs.lemmas.Bool.Decides.{nat_tests}
use denote.Ref.{Bor}
use Rattle.std.proofs.Common.{Iter}
use Rattle.std.specs.declared.iter.Take.{Take}
use Rattle.std.specs.declared.iter.Zip.{Zip}
use Rattle.std.proofs.iter.Yields.{fronts}
use Rattle.std.proofs.lemmas.Iterator.{YieldsList, YieldsList-from_slice, YieldsList-from_take, YieldsList-from_zip, zips}
use Rattle.std.specs.Iterator.Adapters.{take_source, take_count, take_steps, zip_first, zip_second}
use Rattle.std.specs.Slice.Iter.{iter_rest}
use Rattle.std.specs.List.{fold, list_all, list_any, sum_by, zip}
use Rattle.std.proofs.lemmas.List.Sums.{sum_by-cons}
use Rattle.recovery.specs.Lists.{any}
use Rattle.transaction.specs.declared.ranges.Ranges.{Ranges}
use Rattle.transaction.specs.Lists.{up_from, every}
use Rattle.transaction.specs.View.{Range, range}
use Rattle.transaction.specs.Rules.{same_ranges, meets, onward, reach, ranges_size}

abbrev pub at_place : List ℕ → List ℕ → ℕ → Range
at_place xs ns i = range (get_or xs i 0) (get_or ns i 0)

-- what is asked of a range, asked of a pair
abbrev pub on_pair : {A : Type 0} → (Range → A) → ℕ × ℕ → A
on_pair p x = p (range x.0 x.1)

-- places counted from one on are those of the rest
up_shift : {A : Type 0} (f : ℕ → A) (k i : ℕ) → up_from f k (suc i) ≡ up_from (λ j. f (suc j)) k i
up_shift f zero i = refl
up_shift f (suc k) i = ap (λ (xs : List _). f (suc i) ∷ xs) (up_shift f k (suc i))

-- an iterator over both arrays gives as many pairs as there are ranges, as far as the arrays go
pub pairs_given : (r : Ranges) (s : Take (Zip (Iter ℕ) (Iter ℕ))) → iter_rest (zip_first (take_source s)) ≡ r.addr
    → iter_rest (zip_second (take_source s)) ≡ r.len → take_count s ≡ r.count
    → YieldsList (take_steps (zips fronts fronts)) (λ (p : Bor ℕ × Bor ℕ). (p.0.now, p.1.now)) s (take r.count (zip r.addr r.len))
pairs_given r s a n c = YieldsList-from_take r.count (YieldsList-from_zip (YieldsList-from_slice r.addr a) (YieldsList-from_slice r.len n)) c

-- ---- every range passes a test

pub every_pairs : (p : Range → Bool) (xs ns : List ℕ) (k : ℕ) → length xs ≡ length ns → k ≤ length xs
    → list_all (on_pair p) (take k (zip xs ns)) ≡ every p (up_from (at_place xs ns) k 0)
every_pairs p xs ns zero h l = refl
every_pairs p [] ns (suc k) h l = absurd (omega arith)
every_pairs p (x ∷ xs) [] (suc k) h l = absurd (omega arith)
every_pairs p (x ∷ xs) (n ∷ ns) (suc k) h l =
    ap (λ (b : Bool). p (range x n) && b)
    (every_pairs p xs ns k (omega arith) (omega arith) ∙ sym (ap (every p) (up_shift (at_place (x ∷ xs) (n ∷ ns)) k 0)))

-- ---- one passes a test that an empty range fails

none_there : (p : Range → Bool) → p (range 0 0) ≡ false → (k i : ℕ) → any p (up_from (at_place [] []) k i) ≡ false
none_there p e zero i = refl
none_there p e (suc k) i = rw e (none_there p e k (suc i))

pub any_pairs : (p : Range → Bool) → p (range 0 0) ≡ false → (xs ns : List ℕ) (k : ℕ) → length xs ≡ length ns
    → list_any (on_pair p) (take k (zip xs ns)) ≡ any p (up_from (at_place xs ns) k 0)
any_pairs p e [] [] zero h = refl
any_pairs p e [] [] (suc k) h = sym (none_there p e (suc k) 0)
any_pairs p e [] (n ∷ ns) k h = absurd (omega arith)
any_pairs p e (x ∷ xs) [] k h = absurd (omega arith)
any_pairs p e (x ∷ xs) (n ∷ ns) zero h = refl
any_pairs p e (x ∷ xs) (n ∷ ns) (suc k) h =
    ap (λ (b : Bool). p (range x n) || b)
    (any_pairs p e xs ns k (omega arith) ∙ sym (ap (any p) (up_shift (at_place (x ∷ xs) (n ∷ ns)) k 0)))

pub empty_meets : (a n : ℕ) → meets a n (range 0 0) ≡ false
empty_meets a n = grind (arith, nat_tests)

-- ---- how far a walk comes

empty_onward : (at : ℕ) → onward at (range 0 0) ≡ at
empty_onward at = grind (arith, nat_tests)

none_onward : (k i at : ℕ) → reach at (up_from (at_place [] []) k i) ≡ at
none_onward zero i at = refl
none_onward (suc k) i at = ap (λ (a : ℕ). reach a (up_from (at_place [] []) k (suc i))) (empty_onward at) ∙ none_onward k (suc i) at

pub reach_pairs : (xs ns : List ℕ) (k at : ℕ) → length xs ≡ length ns
    → fold (λ (a : ℕ) (x : ℕ × ℕ). onward a (range x.0 x.1)) at (take k (zip xs ns)) ≡ reach at (up_from (at_place xs ns) k 0)
reach_pairs [] [] zero at h = refl
reach_pairs [] [] (suc k) at h = sym (none_onward (suc k) 0 at)
reach_pairs [] (n ∷ ns) k at h = absurd (omega arith)
reach_pairs (x ∷ xs) [] k at h = absurd (omega arith)
reach_pairs (x ∷ xs) (n ∷ ns) zero at h = refl
reach_pairs (x ∷ xs) (n ∷ ns) (suc k) at h =
    reach_pairs xs ns k (onward at (range x n)) (omega arith)
    ∙ sym (ap (reach (onward at (range x n))) (up_shift (at_place (x ∷ xs) (n ∷ ns)) k 0))

-- ---- ranges compared

and_turn : (a b c d : Bool) → (a && b) && (c && d) ≡ (a && c) && (b && d)
and_turn false b c d = refl
and_turn true false false d = refl
and_turn true false true d = refl
and_turn true true c d = refl

same_none : (k i : ℕ) → same_ranges (up_from (at_place [] []) k i) (up_from (at_place [] []) k i) ≡ true
same_none zero i = refl
same_none (suc k) i = same_none k (suc i)

pub same_pairs : (xs ns ys ms : List ℕ) (k : ℕ) → length xs ≡ length ns → length ys ≡ length xs → length ms ≡ length xs
    → pointwise eqb (take k xs) (take k ys) && pointwise eqb (take k ns) (take k ms)
    ≡ same_ranges (up_from (at_place xs ns) k 0) (up_from (at_place ys ms) k 0)
same_pairs [] [] [] [] zero h g l = refl
same_pairs [] [] [] [] (suc k) h g l = sym (same_none (suc k) 0)
same_pairs [] [] [] (m ∷ ms) k h g l = absurd (omega arith)
same_pairs [] [] (y ∷ ys) ms k h g l = absurd (omega arith)
same_pairs [] (n ∷ ns) ys ms k h g l = absurd (omega arith)
same_pairs (x ∷ xs) [] ys ms k h g l = absurd (omega arith)
same_pairs (x ∷ xs) (n ∷ ns) [] ms k h g l = absurd (omega arith)
same_pairs (x ∷ xs) (n ∷ ns) (y ∷ ys) [] k h g l = absurd (omega arith)
same_pairs (x ∷ xs) (n ∷ ns) (y ∷ ys) (m ∷ ms) zero h g l = refl
same_pairs (x ∷ xs) (n ∷ ns) (y ∷ ys) (m ∷ ms) (suc k) h g l =
    let f = up_shift (at_place (x ∷ xs) (n ∷ ns)) k 0 in
    let e = up_shift (at_place (y ∷ ys) (m ∷ ms)) k 0 in
    and_turn (eqb x y) (pointwise eqb (take k xs) (take k ys)) (eqb n m) (pointwise eqb (take k ns) (take k ms))
    ∙ ap (λ (b : Bool). (eqb x y && eqb n m) && b)
    (same_pairs xs ns ys ms k (omega arith) (omega arith) (omega arith) ∙ sym (ap₂ (λ (rs qs : List Range). same_ranges rs qs) f e))

-- ---- their size

sum_pairs : (xs ns : List ℕ) (k : ℕ) → length xs ≡ length ns → k ≤ length ns
    → sum_by (λ (n : ℕ). 7 + n) (take k ns) ≡ ranges_size (up_from (at_place xs ns) k 0)
sum_pairs xs ns zero h l = refl
sum_pairs xs [] (suc k) h l = absurd (omega arith)
sum_pairs [] (n ∷ ns) (suc k) h l = absurd (omega arith)
sum_pairs (x ∷ xs) (n ∷ ns) (suc k) h l =
    sum_by-cons (λ (j : ℕ). 7 + j) n (take k ns)
    ∙ ap (λ (s : ℕ). 7 + n + s)
    (sum_pairs xs ns k (omega arith) (omega arith) ∙ sym (ap ranges_size (up_shift (at_place (x ∷ xs) (n ∷ ns)) k 0)))

pub size_pairs : (xs ns : List ℕ) (i k : ℕ) → length xs ≡ length ns → k ≤ length ns
    → sum_by (λ (n : ℕ). 7 + n) (take (k - i) (drop i ns)) ≡ ranges_size (drop i (up_from (at_place xs ns) k 0))
size_pairs xs ns zero k h l = let e : k - 0 ≡ k = omega arith in ap (λ (j : ℕ). sum_by (λ (n : ℕ). 7 + n) (take j ns)) e ∙ sum_pairs xs ns k h l
size_pairs xs ns (suc i) zero h l = let e : 0 - suc i ≡ 0 = omega arith in ap (λ (j : ℕ). sum_by (λ (n : ℕ). 7 + n) (take j (drop (suc i) ns))) e
size_pairs xs [] (suc i) (suc k) h l = absurd (omega arith)
size_pairs [] (n ∷ ns) (suc i) (suc k) h l = absurd (omega arith)
size_pairs (x ∷ xs) (n ∷ ns) (suc i) (suc k) h l =
    let e : suc k - suc i ≡ k - i = omega arith in
    ap (λ (j : ℕ). sum_by (λ (m : ℕ). 7 + m) (take j (drop i ns))) e
    ∙ size_pairs xs ns i k (omega arith) (omega arith)
    ∙ sym (ap (λ (rs : List Range). ranges_size (drop i rs)) (up_shift (at_place (x ∷ xs) (n ∷ ns)) k 0))

-- a part's is no larger
pub size_rest : (i : ℕ) (rs : List Range) → ranges_size (drop i rs) ≤ ranges_size rs
size_rest zero rs = omega arith
size_rest (suc i) [] = omega arith
size_rest (suc i) (r ∷ rs) = omega (arith, size_rest i rs)
