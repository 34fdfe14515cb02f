-- Zeros, and zeros behind others; an or of bytes is 0 exactly if all are.
use Prim.Native.Nat.{ℕ, zero, suc, ◌+◌, ◌*◌, ◌<◌}
use native.Mathlib.Omega.{arith}
use native.Mathlib.Numerals.{add-one}
use mathlib.Core.Bool.{Bool, true, false, ◌&&◌, and_assoc}
use mathlib.Core.List.{List, [], ◌∷◌, ◌++◌}
use mathlib.Core.Path.{◌≡◌, refl, sym, ap, ap₂, ◌∙◌}
use lib.Bits.{bit_or, or_add_and, and_le_r, or_zero_l}
use lib.ListN.{length, get_or, take, drop, replicate, take-append-drop}
use lib.Seq.{drop-cons, drop-drop}
use Rattle.std.specs.Simd.{first_chunks}
use lib.Dec.{eqb}
use borrow.Author.Tests.{ne_eqb, eqb-true, eqb-false}
use Rattle.redolog.proofs.Basics.{and_left, and_right}
use Rattle.store.specs.Rules.{all_zero}

pub zeros_pass : (n : ℕ) → all_zero (replicate n 0) ≡ true
zeros_pass zero = refl
zeros_pass (suc n) = zeros_pass n

pub zeros_behind : (l : List ℕ) (n : ℕ) → all_zero (l ++ replicate n 0) ≡ all_zero l
zeros_behind [] n = zeros_pass n
zeros_behind (x ∷ l) n = ap (λ (b : Bool). eqb x 0 && b) (zeros_behind l n)

zeros_append : (l m : List ℕ) → all_zero (l ++ m) ≡ all_zero l && all_zero m
zeros_append [] m = refl
zeros_append (x ∷ l) m = ap (λ (b : Bool). eqb x 0 && b) (zeros_append l m) ∙ sym (and_assoc (eqb x 0) (all_zero l) (all_zero m))

-- a part of n bytes, and what comes after it
pub zeros_part : (at n m : ℕ) (s : List ℕ) → m ≡ n → all_zero (drop at s) ≡ all_zero (take m (drop at s)) && all_zero (drop (at + n) s)
zeros_part at n m s e =
    ap all_zero (sym (take-append-drop n (drop at s)))
    ∙ zeros_append (take n (drop at s)) (drop n (drop at s))
    ∙ ap₂ (λ (k : ℕ) (l : List ℕ). all_zero (take k (drop at s)) && all_zero l) (sym e) (drop-drop n at s)

chunk_at : (n k i : ℕ) (s : List ℕ) → i < k → get_or (first_chunks n k s) i [] ≡ take n (drop (i * n) s)
chunk_at n zero i s h = absurd (omega arith)
chunk_at n (suc k) zero s h = let e : 0 ≡ 0 * n = omega arith in ap (λ (m : ℕ). take n (drop m s)) e
chunk_at n (suc k) (suc i) s h =
    let e : n + i * n ≡ suc i * n = omega arith in
    chunk_at n k i (drop n s) (omega (arith, h)) ∙ ap (take n) (drop-drop (i * n) n s) ∙ ap (λ (m : ℕ). take n (drop m s)) e

-- of parts of n bytes, part i and what comes after it
pub zeros_chunk : (n k i : ℕ) (s : List ℕ) → i < k → all_zero (drop (i * n) s) ≡ all_zero (get_or (first_chunks n k s) i []) && all_zero (drop ((i + 1) * n) s)
zeros_chunk n k i s h =
    let e : i * n + n ≡ (i + 1) * n = omega arith in
    zeros_part (i * n) n n s refl
    ∙ ap₂ (λ (l m : List ℕ). all_zero l && all_zero m) (sym (chunk_at n k i s h)) (ap (λ (m : ℕ). drop m s) e)

-- zeros are as many zeros
pub zeros_all : (l : List ℕ) → all_zero l ≡ true → l ≡ replicate (length l) 0
zeros_all [] e = refl
zeros_all (x ∷ l) e =
    ap₂ (λ (y : ℕ) (r : List ℕ). y ∷ r) (eqb-true x 0 (and_left (eqb x 0) (all_zero l) e)) (zeros_all l (and_right (eqb x 0) (all_zero l) e))

pub or_is_zero : (a b : ℕ) → eqb (bit_or a b) 0 ≡ eqb a 0 && eqb b 0
or_is_zero a b = go (eqb a 0) (eqb b 0) refl refl
  where
    some_one : (bit_or a b ≡ 0 → ⊥) → eqb (bit_or a b) 0 ≡ false
    some_one h = ne_eqb _ _ h

    go : (x y : Bool) → eqb a 0 ≡ x → eqb b 0 ≡ y → eqb (bit_or a b) 0 ≡ x && y
    go true y p q = let e : a ≡ 0 = eqb-true a 0 p in rw (e, or_zero_l b) q
    go false y p q = some_one (λ e. eqb-false a 0 p (omega (arith, e, or_add_and a b, and_le_r a b)))

pub zeros_turn : (s : List ℕ) (seen i : ℕ) → i < length s
    → eqb seen 0 && all_zero (drop i s) ≡ eqb (bit_or seen (get_or s i 0)) 0 && all_zero (drop (i + 1) s)
zeros_turn s seen i h =
    rw (drop-cons s i 0 h, or_is_zero seen (get_or s i 0), add-one i) (sym (and_assoc (eqb seen 0) (eqb (get_or s i 0) 0) (all_zero (drop (suc i) s))))
