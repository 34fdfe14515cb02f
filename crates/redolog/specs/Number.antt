-- Numbers on disk: unsigned, highest byte first.
use Rattle.std.specs.Prelude.{ℕ, ◌+◌, ◌*◌, ◌/◌, ◌%◌, List, [], ◌∷◌, ◌++◌, get_or}

-- the number in the 2 or 4 bytes at place i of a list; past the list's end stand zeros
abbrev pub be16 : List ℕ → ℕ → ℕ
be16 s i = get_or s i 0 * 256 + get_or s (i + 1) 0

abbrev pub be32 : List ℕ → ℕ → ℕ
be32 s i = be16 s i * 65536 + be16 s (i + 2)

abbrev pub bytes16 : ℕ → List ℕ
bytes16 n = n / 256 ∷ n % 256 ∷ []

abbrev pub bytes32 : ℕ → List ℕ
bytes32 n = bytes16 (n / 65536) ++ bytes16 (n % 65536)
