-- The ids of a record, by cases and one more at a time.
use Prim.Native.Nat.{ℕ, suc, ◌+◌, ◌*◌, ◌-◌, ◌≤◌, ◌<◌, min}
use native.Mathlib.Omega.{arith}
use mathlib.Core.Bool.{Bool, true, false, cond}
use mathlib.Core.List.{List}
use mathlib.Core.Path.{◌≡◌, refl, ap, ap₂, ◌∙◌}
use lib.ListN.{length, get_or, set, take, replicate}
use lib.Seq.{sets, length-take-le}
use lib.Dec.{eqb}
use borrow.Author.Tests.{eq-eqb, ne_eqb}
use Rattle.redolog.specs.Number.{be16}
use Rattle.report.specs.Record.{ids_count, ids_from, ids_of}

pub ids_none : (b : List ℕ) → (length b ≡ 64 → ⊥) → replicate 20 0 ≡ ids_of b
unfolding ids_of
ids_none b n = rw (ne_eqb (length b) 64 n)

pub ids_is : (b : List ℕ) → length b ≡ 64 → ids_of b ≡ ids_from b 20 24
unfolding ids_of
ids_is b l = rw (eq-eqb (length b) 64 l)

-- those from the i-th on, into their places
abbrev pub laid_from : List ℕ → List ℕ → ℕ → List ℕ
laid_from b ids i = sets ids i (ids_from b (20 - i) (24 + 2 * i))

pub laid_start : (b : List ℕ) → laid_from b (replicate 20 0) 0 ≡ ids_from b 20 24
laid_start b = refl

pub laid_more : (b ids : List ℕ) (i : ℕ) → i < 20 → laid_from b ids i ≡ laid_from b (set ids i (be16 b (24 + 2 * i))) (i + 1)
laid_more b ids i h =
    let n : 20 - i ≡ suc (20 - (i + 1)) = omega arith in
    let at : 24 + 2 * i + 2 ≡ 24 + 2 * (i + 1) = omega arith in
    let s : suc i ≡ i + 1 = omega arith in
    ap (λ (k : ℕ). sets ids i (ids_from b k (24 + 2 * i))) n
    ∙ ap₂ (λ (j p : ℕ). sets (set ids i (be16 b (24 + 2 * i))) j (ids_from b (20 - (i + 1)) p)) s at

pub laid_end : (b ids : List ℕ) (i : ℕ) → i ≡ 20 → laid_from b ids i ≡ ids
laid_end b ids i e = ap (laid_from b ids) e

pub count_few : (b : List ℕ) → ids_count b ≤ 20
unfolding ids_count
count_few b = go (eqb (length b) 64)
  where
    go : (c : Bool) → cond c (min (get_or b 1 0) 20) 0 ≤ 20
    go true = omega arith
    go false = omega arith

pub ids_length : (b : List ℕ) → length (ids_of b) ≡ 20
unfolding ids_of
ids_length b = go (eqb (length b) 64)
  where
    go : (c : Bool) → length (cond c (ids_from b 20 24) (replicate 20 0)) ≡ 20
    go true = refl
    go false = refl

-- so as many as are counted can be taken
pub ids_taken : (b : List ℕ) → length (take (ids_count b) (ids_of b)) ≡ ids_count b
ids_taken b = length-take-le (ids_count b) (ids_of b) (omega (arith, count_few b, ids_length b))
