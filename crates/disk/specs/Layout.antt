-- The log from a place of it on (the disk's parts: layout, specs/Parts.antt), and the lengths of what is lent.
use Rattle.std.specs.Prelude.{ℕ, Bool, ◌&&◌, List, length, drop, eqb}
use Rattle.layout.specs.{memory_len, tail_len, disk_len}
use Rattle.layout.specs.Parts.{log_part}

-- the log from a place of it on
abbrev pub log_from : ℕ → List ℕ → List ℕ
log_from at disk = drop at (log_part disk)

-- each lent buffer has its length
abbrev pub lengths_ok : List ℕ → List ℕ → List ℕ → Bool
lengths_ok disk memory tail = eqb (length disk) disk_len && eqb (length memory) memory_len && eqb (length tail) tail_len
