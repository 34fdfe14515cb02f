-- Records in flat arrays, as the code holds them, seen as a list of writes.
use Rattle.std.specs.Prelude.{ℕ, zero, suc, ◌*◌, List, [], ◌∷◌, get_or, take, drop}
use Rattle.layout.specs.{max_write}
use Rattle.recovery.specs.Group.{Write}

-- the i-th record: an address, a length, and that many of the 32 bytes that are set aside for it
abbrev pub write_at : List ℕ → List ℕ → List ℕ → ℕ → Write
write_at addr len bytes i = record { addr = get_or addr i 0; bytes = take (get_or len i 0) (drop (i * max_write) bytes) }

-- k of them, from the i-th on
abbrev pub writes_from : List ℕ → List ℕ → List ℕ → ℕ → ℕ → List Write
writes_from addr len bytes zero i = []
writes_from addr len bytes (suc k) i = write_at addr len bytes i ∷ writes_from addr len bytes k (suc i)
