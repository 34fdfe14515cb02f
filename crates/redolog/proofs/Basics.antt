-- Small laws of Bools, lists and parts of slices.
use Prim.Native.Nat.{ℕ, suc, ◌-◌, ◌≤◌, ◌<◌}
use native.Mathlib.Decide.{dec_lt}
use native.Mathlib.Omega.{arith}
use mathlib.Core.Bool.{Bool, true, false, ◌&&◌}
use mathlib.Core.List.{List}
use mathlib.Core.Path.{◌≡◌, refl, sym, ap, ◌∙◌}
use lib.ListN.{length, get_or, take, drop, get_or-eq_default, length-drop}
use lib.Seq.{take_all}

-- two constructors are never equal: `clash (cc)`
pub clash : {A : Type 0} → ◌≡◌ {A = ℕ} 0 1 → A
clash z = absurd (omega arith)

pub and_left : (a b : Bool) → a && b ≡ true → a ≡ true
and_left true b e = refl
and_left false b e = e

pub and_right : (a b : Bool) → a && b ≡ true → b ≡ true
and_right true b e = e
and_right false b e = clash (cc)

pub and_both : (a b : Bool) → a ≡ true → b ≡ true → a && b ≡ true
and_both a b p q = rw p q

-- a byte that is not 0 lies within the list
pub nonzero_within : (s : List ℕ) (i n : ℕ) → get_or s i 0 ≡ suc n → i < length s
nonzero_within s i n e =
    elim (dec_lt i (length s)) [
      | yes p ↦ p
      | no q ↦ absurd (omega (arith, q, e, get_or-eq_default s 0 {n = i} (omega (arith, q))))
    ]

-- the part of a slice from a place on, `&s[at..]`
pub from : (s : List ℕ) (at : ℕ) → take (length s - at) (drop at s) ≡ drop at s
from s at = take_all (length s - at) (drop at s) (simp length-drop (omega arith))

-- what was read there
pub read_from : {A : Type 0} (f : List ℕ → A) (s : List ℕ) (at : ℕ) (x y : A) → x ≡ f (take (length s - at) (drop at s)) → x ≡ y → f (drop at s) ≡ y
read_from f s at x y e i = sym (ap f (from s at)) ∙ sym e ∙ i

-- all that a turn of a reader's loop asks, from the place at of s on to the place next: it lies within s, less is left, and what the code
-- answers from there is the same
pub record Turned {A : Type 0} (s : List ℕ) (at next : ℕ) (here there : A) : Type 0 where
  pub within : next ≤ length s
  pub less : length s - next < length s - at
  pub same : here ≡ there
