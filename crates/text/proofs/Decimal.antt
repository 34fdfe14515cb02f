-- Laws of `decimal`.
use Prim.Native.Nat.{ℕ, zero, suc, ◌+◌, ◌*◌, ◌/◌, ◌%◌, ◌≤◌, ◌<◌}
use native.Mathlib.Decide.{dec_lt}
use native.Mathlib.Omega.{arith}
use mathlib.Core.Bool.{Bool, true, false}
use mathlib.Core.List.{List, [], ◌∷◌, ◌++◌}
use mathlib.Core.Path.{◌≡◌, refl, ap, ◌∙◌}
use lib.ListN.{length, length-append}
use lib.Dec.{ltb}
use borrow.Author.Tests.{lt-ltb, le-ltb, ltb-false}
use Rattle.text.specs.{spelled, decimal}

abbrev chosen : ℕ → ℕ → Bool → List ℕ
chosen k n b = elim b [ true ↦ (48 + n) ∷ [] | false ↦ spelled k (n / 10) ++ ((48 + n % 10) ∷ []) ]

spelled_by : (k n : ℕ) (b : Bool) → ltb n 10 ≡ b → spelled (suc k) n ≡ chosen k n b
spelled_by k n b e = ap (chosen k n) e

-- any number above n is enough digits for n
spelled_enough : (k m n : ℕ) → n < k → n < m → spelled k n ≡ spelled m n
spelled_enough zero m n p q = absurd (omega arith)
spelled_enough (suc k) zero n p q = absurd (omega arith)
spelled_enough (suc k) (suc m) n p q = go (ltb n 10) refl (λ h. spelled_enough k m (n / 10) (omega arith) (omega arith))
  where
    go : (b : Bool) → ltb n 10 ≡ b → (10 ≤ n → spelled k (n / 10) ≡ spelled m (n / 10)) → chosen k n b ≡ chosen m n b
    go true e ih = refl
    go false e ih = ap (λ (l : List ℕ). l ++ ((48 + n % 10) ∷ [])) (ih (ltb-false n 10 e))

pub decimal_one : (n : ℕ) → n < 10 → decimal n ≡ (48 + n) ∷ []
unfolding decimal
decimal_one n h = spelled_by n n true (lt-ltb n 10 h)

pub decimal_more : (n : ℕ) → 10 ≤ n → decimal n ≡ decimal (n / 10) ++ ((48 + n % 10) ∷ [])
unfolding decimal
decimal_more n h =
    spelled_by n n false (le-ltb n 10 h)
    ∙ ap (λ (l : List ℕ). l ++ ((48 + n % 10) ∷ [])) (spelled_enough n (suc (n / 10)) (n / 10) (omega arith) (omega arith))

pub length_more : (n : ℕ) → 10 ≤ n → length (decimal n) ≡ length (decimal (n / 10)) + 1
length_more n h = ap length (decimal_more n h) ∙ length-append (decimal (n / 10)) ((48 + n % 10) ∷ [])

-- 10 to the power of k + 1
abbrev pub power_of_ten : ℕ → ℕ
power_of_ten zero = 10
power_of_ten (suc k) = 10 * power_of_ten k

pub decimal_short : (k n : ℕ) → n < power_of_ten k → length (decimal n) ≤ suc k
decimal_short zero n h = omega (arith, ap length (decimal_one n h))
decimal_short (suc k) n h = go (dec_lt n 10) (decimal_short k (n / 10) (omega arith))
  where
    go : Dec (n < 10) → length (decimal (n / 10)) ≤ suc k → length (decimal n) ≤ suc (suc k)
    go (yes p) i = omega (arith, ap length (decimal_one n p))
    go (no q) i = omega (arith, length_more n (omega (arith, q)))
