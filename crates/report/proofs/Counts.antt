-- Sums over the transactions listed: the slots past the last of an array hold none.
use Rattle.std.proofs.Common.{ℕ, zero, suc, ◌+◌, ◌≡◌, ◌∙◌, List, [], ◌∷◌, refl, sym, ap, get_or, take}
use Rattle.transaction.specs.declared.Tx.{Tx}
use Rattle.transaction.specs.Lists.{up_from, sum_of}
use Rattle.transaction.specs.Flat.{no_tx}

-- the transaction in slot i, as `tx_at`
abbrev slot_at : List Tx → ℕ → Tx
slot_at xs i = get_or xs i no_tx

module _ (f : Tx → ℕ) (none : f no_tx ≡ 0) where
  sum_none : (n i : ℕ) → sum_of f (up_from (slot_at []) n i) ≡ 0
  sum_none zero i = refl
  sum_none (suc n) i = ap (λ (k : ℕ). f no_tx + k) (sum_none n (suc i)) ∙ ap (λ (k : ℕ). k + 0) none

  sum_shift : (x : Tx) (xs : List Tx) (n i : ℕ) → sum_of f (up_from (slot_at (x ∷ xs)) n (suc i)) ≡ sum_of f (up_from (slot_at xs) n i)
  sum_shift x xs zero i = refl
  sum_shift x xs (suc n) i = ap (λ (k : ℕ). f (slot_at xs i) + k) (sum_shift x xs n (suc i))

  pub sum_listed : (xs : List Tx) (n : ℕ) → sum_of f (take n xs) ≡ sum_of f (up_from (slot_at xs) n 0)
  sum_listed xs zero = refl
  sum_listed [] (suc n) = sym (sum_none (suc n) 0)
  sum_listed (x ∷ xs) (suc n) = ap (λ (k : ℕ). f x + k) (sum_listed xs n ∙ sym (sum_shift x xs n 0))
