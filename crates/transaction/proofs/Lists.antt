-- Laws of lists over the places of an array: a turn of a loop that counts up, its end, and one place of many.
use Prim.Native.Nat.{ℕ, zero, suc, ◌+◌, ◌-◌, ◌≤◌, ◌<◌}
use native.Mathlib.Numerals.{add-one}
use native.Mathlib.Omega.{arith}
use mathlib.Core.Bool.{Bool, true, false, ◌&&◌, ◌||◌}
use mathlib.Core.List.{List, [], ◌∷◌, ◌++◌}
use mathlib.Core.Path.{◌≡◌, refl, sym, ap, ap₂, ◌∙◌, subst}
use lib.ListN.{length, drop}
use lib.Dec.{eqb}
use borrow.Author.Tests.{eqb-true, eqb-false}
use Rattle.recovery.specs.Lists.{All, nil, cons, any}
use Rattle.recovery.proofs.Bool.{or_left, or_right}
use Rattle.redolog.proofs.Basics.{and_left, and_right}
use Rattle.transaction.specs.Lists.{up_from, every, sum_of}

module _ {A : Type 0} (f : ℕ → A) where
  pub length_up : (k i : ℕ) → length (up_from f k i) ≡ k
  length_up zero i = refl
  length_up (suc k) i = ap suc (length_up k (suc i))

  pub up_snoc : (k i : ℕ) → up_from f (suc k) i ≡ up_from f k i ++ (f (i + k) ∷ [])
  up_snoc zero i = let e : i ≡ i + 0 = omega arith in ap (λ (j : ℕ). f j ∷ []) e
  up_snoc (suc k) i =
      let e : suc i + k ≡ i + suc k = omega arith in
      ap (λ (xs : List A). f i ∷ xs) (up_snoc k (suc i)) ∙ ap (λ (j : ℕ). f i ∷ (up_from f k (suc i) ++ (f j ∷ []))) e

  -- from a place on
  pub drop_up : (n k i : ℕ) → drop n (up_from f k i) ≡ up_from f (k - n) (i + n)
  drop_up zero k i = let a : k ≡ k - 0 = omega arith in let b : i ≡ i + 0 = omega arith in ap₂ (up_from f) a b
  drop_up (suc n) zero i = let a : 0 ≡ 0 - suc n = omega arith in ap (λ (j : ℕ). up_from f j (i + suc n)) a
  drop_up (suc n) (suc k) i =
      let a : k - n ≡ suc k - suc n = omega arith in
      let b : suc i + n ≡ i + suc n = omega arith in
      drop_up n k (suc i) ∙ ap₂ (up_from f) a b

  pub up_same : (g : ℕ → A) (k i : ℕ) → ((j : ℕ) → i ≤ j → j < i + k → f j ≡ g j) → up_from f k i ≡ up_from g k i
  up_same g zero i h = refl
  up_same g (suc k) i h =
      ap (λ (x : A). x ∷ up_from f k (suc i)) (h i (omega arith) (omega arith))
      ∙ ap (λ (xs : List A). g i ∷ xs) (up_same g k (suc i) (λ j a b. h j (omega arith) (omega arith)))

  pub all_at : {p : A → Type 0} (k i : ℕ) → All p (up_from f k i) → (j : ℕ) → i ≤ j → j < i + k → p (f j)
  all_at zero i h j a b = absurd (omega arith)
  all_at {p} (suc k) i (cons h hs) j a b = go (eqb j i) refl (λ l. all_at k (suc i) hs j l (omega arith))
    where
      go : (t : Bool) → eqb j i ≡ t → (suc i ≤ j → p (f j)) → p (f j)
      go true q later = subst (λ (x : ℕ). p (f x)) (sym (eqb-true j i q)) h
      go false q later = let d = eqb-false j i q in later (omega (arith, d))

  pub all_up : {p : A → Type 0} (k i : ℕ) → ((j : ℕ) → i ≤ j → j < i + k → p (f j)) → All p (up_from f k i)
  all_up zero i h = nil
  all_up (suc k) i h = cons (h i (omega arith) (omega arith)) (all_up k (suc i) (λ j a b. h j (omega arith) (omega arith)))

  pub every_at : (p : A → Bool) (k i : ℕ) → every p (up_from f k i) ≡ true → (j : ℕ) → i ≤ j → j < i + k → p (f j) ≡ true
  every_at p zero i e j a b = absurd (omega arith)
  every_at p (suc k) i e j a b = go (j - i) refl (λ h. every_at p k (suc i) (and_right (p (f i)) _ e) j h (omega arith))
    where
      go : (d : ℕ) → j - i ≡ d → (i < j → p (f j) ≡ true) → p (f j) ≡ true
      go zero q later = let z : j ≡ i = omega arith in rw z (and_left (p (f i)) _ e)
      go (suc d) q later = later (omega arith)

  pub up_done : (n i : ℕ) → n ≤ i → up_from f (n - i) i ≡ []
  up_done n i h = let e : n - i ≡ 0 = omega arith in rw e

  module _ (n i : ℕ) (h : i < n) where
    pub up_turn : up_from f (n - i) i ≡ f i ∷ up_from f (n - (i + 1)) (i + 1)
    up_turn =
        let e : n - i ≡ suc (n - (i + 1)) = omega arith in
        ap (λ (k : ℕ). up_from f k i) e ∙ ap (λ (j : ℕ). f i ∷ up_from f (n - (i + 1)) j) (sym (add-one i))

    pub every_bad : (p : A → Bool) → p (f i) ≡ false → every p (up_from f (n - i) i) ≡ false
    every_bad p e = ap (every p) up_turn ∙ rw e

    pub every_good : (p : A → Bool) → p (f i) ≡ true → every p (up_from f (n - i) i) ≡ every p (up_from f (n - (i + 1)) (i + 1))
    every_good p e = ap (every p) up_turn ∙ rw e

    pub any_hit : (p : A → Bool) → p (f i) ≡ true → any p (up_from f (n - i) i) ≡ true
    any_hit p e = ap (any p) up_turn ∙ rw e

    pub any_miss : (p : A → Bool) → p (f i) ≡ false → any p (up_from f (n - i) i) ≡ any p (up_from f (n - (i + 1)) (i + 1))
    any_miss p e = ap (any p) up_turn ∙ rw e

    pub sum_turn : (g : A → ℕ) → sum_of g (up_from f (n - i) i) ≡ g (f i) + sum_of g (up_from f (n - (i + 1)) (i + 1))
    sum_turn g = ap (sum_of g) up_turn

pub any_same : {A B : Type 0} (p : A → Bool) (q : B → Bool) (f : ℕ → A) (g : ℕ → B) (k i : ℕ) → ((x : ℕ) → i ≤ x → x < i + k → p (f x) ≡ q (g x))
    → any p (up_from f k i) ≡ any q (up_from g k i)
any_same p q f g zero i h = refl
any_same p q f g (suc k) i h = ap₂ (λ (a b : Bool). a || b) (h i (omega arith) (omega arith))
    (any_same p q f g k (suc i) (λ x a b. h x (omega arith) (omega arith)))

-- what passes one test passes no stronger one
pub any_weaker : {A : Type 0} (p q : A → Bool) (xs : List A) → ((x : A) → q x ≡ false → p x ≡ false) → any q xs ≡ false → any p xs ≡ false
any_weaker p q [] h e = refl
any_weaker p q (x ∷ xs) h e = rw (h x (or_left (q x) (any q xs) e)) (any_weaker p q xs h (or_right (q x) (any q xs) e))

pub every_same : {A B : Type 0} (p : A → Bool) (q : B → Bool) (f : ℕ → A) (g : ℕ → B) (k i : ℕ) → ((x : ℕ) → i ≤ x → x < i + k → p (f x) ≡ q (g x))
    → every p (up_from f k i) ≡ every q (up_from g k i)
every_same p q f g zero i h = refl
every_same p q f g (suc k) i h = ap₂ (λ (a b : Bool). a && b) (h i (omega arith) (omega arith))
    (every_same p q f g k (suc i) (λ x a b. h x (omega arith) (omega arith)))

pub sum_same : {A B : Type 0} (p : A → ℕ) (q : B → ℕ) (f : ℕ → A) (g : ℕ → B) (k i : ℕ) → ((x : ℕ) → i ≤ x → x < i + k → p (f x) ≡ q (g x))
    → sum_of p (up_from f k i) ≡ sum_of q (up_from g k i)
sum_same p q f g zero i h = refl
sum_same p q f g (suc k) i h = ap₂ (λ (a b : ℕ). a + b) (h i (omega arith) (omega arith))
    (sum_same p q f g k (suc i) (λ x a b. h x (omega arith) (omega arith)))
