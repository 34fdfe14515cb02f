-- The law of `whole`: one turn, and the rest by `whole` again. It holds where each turn goes on with a shorter list only.
use Prim.Native.Nat.{ℕ, zero, suc, ◌<◌}
use native.Mathlib.Omega.{arith}
use mathlib.Core.List.{List}
use mathlib.Core.Path.{◌≡◌}
use lib.ListN.{length}
use Rattle.redolog.specs.Reader.{run, whole}

-- F reads the same whatever it goes on with, as long as that agrees on shorter lists
abbrev pub Shrinks : {S B : Type 0} → ((S → List ℕ → B) → S → List ℕ → B) → Type 0
Shrinks {S} {B} F =
    (k l : S → List ℕ → B) (a : S) (s : List ℕ) → ((b : S) (t : List ℕ) → length t < length s → k b t ≡ l b t) → F k a s ≡ F l a s

module _ {S B : Type 0} (F : (S → List ℕ → B) → S → List ℕ → B) (d : B) (shrinks : Shrinks F) where
  enough : (m n : ℕ) (a : S) (s : List ℕ) → length s < m → length s < n → run F d m a s ≡ run F d n a s
  unfolding run
  enough zero n a s p q = absurd (omega arith)
  enough (suc m) zero a s p q = absurd (omega arith)
  enough (suc m) (suc n) a s p q = shrinks (run F d m) (run F d n) a s (λ b t r. enough m n b t (omega arith) (omega arith))

  pub step : (a : S) (s : List ℕ) → whole F d a s ≡ F (whole F d) a s
  unfolding run whole
  step a s = shrinks (run F d (length s)) (whole F d) a s (λ b t r. enough (length s) (suc (length t)) b t (omega arith) (omega arith))
