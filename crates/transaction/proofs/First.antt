-- The first of the places of an array that passes a test.
use Prim.Native.Nat.{ℕ, zero, suc, ◌+◌, ◌-◌, ◌≤◌, ◌<◌}
use native.Mathlib.Decide.{dec_lt}
use native.Mathlib.Numerals.{add-one}
use native.Mathlib.Omega.{arith}
use mathlib.Core.Bool.{Bool, true, false, cond, ◌||◌}
use mathlib.Core.Path.{◌≡◌, refl, sym, ap, ◌∙◌}
use Rattle.recovery.specs.Lists.{any}
use Rattle.recovery.proofs.Bool.{opposed}
use Rattle.transaction.specs.Lists.{up_from, first_in}
use Rattle.transaction.proofs.Lists.{up_turn}

-- of k elements from place i on: j is the first place, or past the last, and found says whether one passes
pub record First {A : Type 0} (f : ℕ → A) (p : A → Bool) (i k j : ℕ) (found : Bool) : Type 0 where
  pub low : i ≤ j
  pub high : j ≤ i + k
  pub listed : j < i + k → found ≡ true
  pub unlisted : j ≡ i + k → found ≡ false
  pub there : j < i + k → p (f j) ≡ true
  pub before : (x : ℕ) → i ≤ x → x < j → p (f x) ≡ false

module _ {A : Type 0} (f : ℕ → A) (p : A → Bool) where
  -- ---- a turn of the loop that looks for it

  module _ (n i : ℕ) (h : i < n) where
    turn : first_in p i (up_from f (n - i) i) ≡ cond (p (f i)) i (first_in p (i + 1) (up_from f (n - (i + 1)) (i + 1)))
    turn =
        ap (first_in p i) (up_turn f n i h)
        ∙ ap (λ (j : ℕ). cond (p (f i)) i (first_in p j (up_from f (n - (i + 1)) (i + 1)))) (sym (add-one i))

    pub first_hit : p (f i) ≡ true → first_in p i (up_from f (n - i) i) ≡ i
    first_hit e = turn ∙ rw e

    pub first_miss : p (f i) ≡ false → first_in p i (up_from f (n - i) i) ≡ first_in p (i + 1) (up_from f (n - (i + 1)) (i + 1))
    first_miss e = turn ∙ rw e

  -- ---- what is known of it

  pub first : (k i : ℕ) → First f p i k (first_in p i (up_from f k i)) (any p (up_from f k i))
  first zero i =
      record {
        low = omega arith;
        high = omega arith;
        listed = λ h. absurd (omega arith);
        unlisted = λ h. refl;
        there = λ h. absurd (omega arith);
        before = λ x a b. absurd (omega arith);
      }
  first (suc k) i = go (p (f i)) refl (first k (suc i))
    where
      at_or_after : (x d : ℕ) → x - i ≡ d → i ≤ x → p (f i) ≡ false → (suc i ≤ x → p (f x) ≡ false) → p (f x) ≡ false
      at_or_after x zero q a e later = let z : x ≡ i = omega arith in rw z e
      at_or_after x (suc d) q a e later = later (omega arith)

      go : (b : Bool) → p (f i) ≡ b → {j : ℕ} {found : Bool} → First f p (suc i) k j found → First f p i (suc k) (cond b i j) (b || found)
      go true e later =
          record {
            low = omega arith;
            high = omega arith;
            listed = λ h. refl;
            unlisted = λ h. absurd (omega arith);
            there = λ h. e;
            before = λ x a b. absurd (omega arith);
          }
      go false e later =
          record {
            low = omega (arith, later.low);
            high = omega (arith, later.high);
            listed = λ h. later.listed (omega arith);
            unlisted = λ h. later.unlisted (omega arith);
            there = λ h. later.there (omega arith);
            before = λ x a b. at_or_after x (x - i) refl a e (λ h. later.before x h b);
          }

  -- the place of one that is there is one that counts
  pub first_within : (k i : ℕ) → any p (up_from f k i) ≡ true → first_in p i (up_from f k i) < i + k
  first_within k i e =
      let x = first k i in
      elim (dec_lt (first_in p i (up_from f k i)) (i + k)) [ yes q ↦ q | no q ↦ absurd (opposed e (x.unlisted (omega (arith, q, x.high)))) ]
