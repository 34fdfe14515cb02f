-- "Two disks are equal in meaning exactly if restart, given stores enough, refuses neither and leaves the same memory".
use Rattle.std.specs.Prelude.{ℕ, Bool, true, false, ◌&&◌, List, [], ◌∷◌, length, eqb}
use Rattle.layout.specs.Parts.{disk_ok}
use Rattle.disk.specs.Examine.{examine_of}

abbrev pub same_bytes : List ℕ → List ℕ → Bool
same_bytes [] [] = true
same_bytes [] (y ∷ ys) = false
same_bytes (x ∷ xs) [] = false
same_bytes (x ∷ xs) (y ∷ ys) = eqb x y && same_bytes xs ys

-- restart doesn't refuse it
abbrev pub accepted : List ℕ → Bool
accepted disk = disk_ok (length disk) && eqb (examine_of disk).result.number 0

unfoldable pub equal_of : List ℕ → List ℕ → Bool
equal_of a b = accepted a && accepted b && same_bytes (examine_of a).memory (examine_of b).memory
