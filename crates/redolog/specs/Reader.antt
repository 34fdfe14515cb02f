-- A reader that goes on with what is left of a list, as long as something stands at its front. `F rest a s` reads at the front of s in
-- the state a, and calls `rest` with the next state on what follows. `whole` gives it turns enough: `step` (proofs/Reader.antt) says
-- `whole F d a s ≡ F (whole F d) a s` where each turn goes on with a shorter list, and d is never reached.
use Rattle.std.specs.Prelude.{ℕ, zero, suc, List, length}

module _ {S B : Type 0} (F : (S → List ℕ → B) → S → List ℕ → B) (d : B) where
  unfoldable pub run : ℕ → S → List ℕ → B
  run zero a s = d
  run (suc n) a s = F (run n) a s

  unfoldable pub whole : S → List ℕ → B
  whole a s = run (suc (length s)) a s
