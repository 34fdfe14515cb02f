-- Laws of `same_bytes`.
use Prim.Native.Nat.{ℕ}
use native.Mathlib.Omega.{arith}
use mathlib.Core.Bool.{Bool, true, false, ◌&&◌, and_assoc}
use mathlib.Core.List.{List, [], ◌∷◌}
use mathlib.Core.Path.{◌≡◌, refl, sym, ap₂}
use lib.Bits.{bit_or, bit_xor, xor_self, xor_add_and, and_le_l, and_le_r}
use lib.ListN.{length}
use lib.Dec.{eqb}
use borrow.Author.Tests.{eq-eqb, ne_eqb, eqb-true, eqb-false}
use Rattle.redolog.proofs.Basics.{clash, and_left, and_right}
use Rattle.store.proofs.Zeros.{or_is_zero}
use Rattle.disk.specs.Equal.{same_bytes}

xor_is_zero : (x y : ℕ) → eqb (bit_xor x y) 0 ≡ eqb x y
xor_is_zero x y = go (eqb x y) refl
  where
    go : (b : Bool) → eqb x y ≡ b → eqb (bit_xor x y) 0 ≡ b
    go true e = let same : x ≡ y = eqb-true x y e in rw (same, xor_self y) refl
    go false e =
        ne_eqb (bit_xor x y) 0 (λ (z : bit_xor x y ≡ 0). eqb-false x y e (omega (arith, z, xor_add_and x y, and_le_l x y, and_le_r x y)))

pub same_turn : (seen x y : ℕ) (xs ys : List ℕ)
    → eqb seen 0 && same_bytes (x ∷ xs) (y ∷ ys) ≡ eqb (bit_or seen (bit_xor x y)) 0 && same_bytes xs ys
same_turn seen x y xs ys = rw (or_is_zero seen (bit_xor x y), xor_is_zero x y) (sym (and_assoc (eqb seen 0) (eqb x y) (same_bytes xs ys)))

pub same_end : (xs ys : List ℕ) → length xs ≡ length ys → length xs ≡ 0 → same_bytes xs ys ≡ true
same_end [] [] e h = refl
same_end [] (y ∷ ys) e h = absurd (omega arith)
same_end (x ∷ xs) ys e h = absurd (omega arith)

-- the test says what it should
pub same_equal : (a b : List ℕ) → same_bytes a b ≡ true → a ≡ b
same_equal [] [] e = refl
same_equal [] (y ∷ ys) e = clash (cc)
same_equal (x ∷ xs) [] e = clash (cc)
same_equal (x ∷ xs) (y ∷ ys) e =
    ap₂ ◌∷◌ (eqb-true x y (and_left (eqb x y) (same_bytes xs ys) e)) (same_equal xs ys (and_right (eqb x y) (same_bytes xs ys) e))

pub same_self : (a : List ℕ) → same_bytes a a ≡ true
same_self [] = refl
same_self (x ∷ xs) = rw (eq-eqb x x refl) (same_self xs)
