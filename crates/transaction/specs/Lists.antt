-- Lists over the places of an array, and tests and sums over them.
use Rattle.std.specs.Prelude.{ℕ, zero, suc, ◌+◌, Bool, true, cond, ◌&&◌, List, [], ◌∷◌}

-- f i, f (i + 1) and on, n of them
abbrev pub up_from : {A : Type 0} → (ℕ → A) → ℕ → ℕ → List A
up_from f zero i = []
up_from f (suc n) i = f i ∷ up_from f n (suc i)

-- every element passes the test
abbrev pub every : {A : Type 0} → (A → Bool) → List A → Bool
every p [] = true
every p (x ∷ xs) = p x && every p xs

-- the place of the first element that passes, of those from place i on; past the last if none does
abbrev pub first_in : {A : Type 0} → (A → Bool) → ℕ → List A → ℕ
first_in p i [] = i
first_in p i (x ∷ xs) = cond (p x) i (first_in p (suc i) xs)

abbrev pub sum_of : {A : Type 0} → (A → ℕ) → List A → ℕ
sum_of f [] = 0
sum_of f (x ∷ xs) = f x + sum_of f xs
