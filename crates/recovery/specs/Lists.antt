-- Lists and options, as the definitions of this crate need them.
use Rattle.std.specs.Prelude.{ℕ, Bool, false, cond, ◌||◌, List, [], ◌∷◌, eqb}
use Rattle.std.proofs.Math.Option.{Option, none, some}

-- every element has the property
pub data All {A : Type 0} (p : A → Type 0) : List A → Type 0 where
  nil : All p []
  cons : {x : A} {xs : List A} → p x → All p xs → All p (x ∷ xs)

-- some element passes the test
abbrev pub any : {A : Type 0} → (A → Bool) → List A → Bool
any p [] = false
any p (x ∷ xs) = p x || any p xs

-- the elements that pass the test, in order
abbrev pub filter : {A : Type 0} → (A → Bool) → List A → List A
filter p [] = []
filter p (x ∷ xs) = cond (p x) (x ∷ filter p xs) (filter p xs)

-- the first of the two that says something
abbrev pub or_else : {A : Type 0} → Option A → Option A → Option A
or_else none y = y
or_else (some a) y = some a

-- the number is in the list
abbrev pub has : ℕ → List ℕ → Bool
has i js = any (λ j. eqb i j) js
