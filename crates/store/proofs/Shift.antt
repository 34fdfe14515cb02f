-- Moving the elements after a place down by one.
use Rattle.std.proofs.Common.{ℕ, suc, ◌+◌, ◌-◌, ◌≤◌, ◌<◌, ◌≡◌, List, ◌∷◌, ◌++◌, length, take, drop, set, get_or, arith, ap, ap₂, ◌∙◌}
use Rattle.std.proofs.Common.{append_assoc, length-append, length-drop, length-take-le, drop-cons}
use Rattle.std.specs.List.{copy_within}
use Rattle.std.proofs.lemmas.List.{set_at}

module _ {A : Type 0} (ts : List A) (i n : ℕ) (h : i < n) (k : n ≤ length ts) where
  front : List A
  front = take i ts ++ take (n - 1 - i) (drop (i + 1) ts)

  front_length : length front ≡ n - 1
  unfolding front
  front_length =
      let a : length (take i ts) ≡ i = length-take-le i ts (omega arith) in
      let b : length (take (n - 1 - i) (drop (i + 1) ts)) ≡ n - 1 - i = length-take-le (n - 1 - i) (drop (i + 1) ts) (rw length-drop (omega arith)) in
      length-append (take i ts) (take (n - 1 - i) (drop (i + 1) ts)) ∙ omega arith

  -- of n elements, those after place i moved down by one, and the last place given another
  pub moved_down : (d v : A) → set (copy_within ts (i + 1) n i) (n - 1) v ≡ take i ts ++ (take (n - 1 - i) (drop (i + 1) ts) ++ (v ∷ drop n ts))
  unfolding front
  moved_down d v =
      let a : n - (i + 1) ≡ n - 1 - i = omega arith in
      let b : i + (n - (i + 1)) ≡ n - 1 = omega arith in
      let e : suc (n - 1) ≡ n = omega arith in
      ap₂ (λ (x y : ℕ). set (take i ts ++ take x (drop (i + 1) ts) ++ drop y ts) (n - 1) v) a b
      ∙ ap (λ (r : List A). set (front ++ r) (n - 1) v) (drop-cons ts (n - 1) d (omega arith))
      ∙ set_at front (get_or ts (n - 1) d) (drop (suc (n - 1)) ts) v (n - 1) front_length
      ∙ append_assoc (take i ts) (take (n - 1 - i) (drop (i + 1) ts)) (v ∷ drop (suc (n - 1)) ts)
      ∙ ap (λ (m : ℕ). take i ts ++ (take (n - 1 - i) (drop (i + 1) ts) ++ (v ∷ drop m ts))) e
