-- "Stores enough" for a restart. It answers cut "if that number is below what the call needs", and step 6 needs one store for every log place
-- from the end found on.
use Rattle.std.specs.Prelude.{ℕ, ◌-◌, ◌≤◌, List}
use Rattle.disk.specs.Examine.{examine_of}

abbrev pub Enough : ℕ → List ℕ → Type 0
Enough allowed disk = 16384 - (examine_of disk).result.end ≤ allowed
