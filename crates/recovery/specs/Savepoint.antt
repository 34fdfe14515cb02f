-- Savepoints (document 02: marks) of a transaction: names, each with how many of its writes stood when it was set.
use Rattle.std.specs.Prelude.{ℕ, cond, List, [], ◌∷◌, eqb}
use Rattle.std.proofs.Math.Option.{Option, none, some}

pub record Savepoint : Type 0 where
  pub name : ℕ
  pub count : ℕ

-- "setting a name again moves it"
abbrev pub set_name : ℕ → ℕ → List Savepoint → List Savepoint
set_name name count [] = record { name = name; count = count } ∷ []
set_name name count (p ∷ ps) = cond (eqb name p.name) (record { name = name; count = count } ∷ ps) (p ∷ set_name name count ps)

-- how many writes stood; none if the name is not set
abbrev pub count_at : ℕ → List Savepoint → Option ℕ
count_at name [] = none
count_at name (p ∷ ps) = cond (eqb name p.name) (some p.count) (count_at name ps)
