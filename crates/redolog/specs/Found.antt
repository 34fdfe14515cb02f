-- A log whose first commit number is "as found" (document 02, A.9): "where the pointer isn't 0, demand 3 and the office's list take an old log's first
-- commit number as found".
use Rattle.std.specs.Prelude.{ℕ, List, drop}
use Rattle.std.proofs.Math.Option.{Option, none, some}
use Rattle.recovery.specs.Group.{Group}
use Rattle.redolog.specs.Record.{Record, redo, commit, abort, size, read_record}
use Rattle.redolog.specs.Reader.{whole}
use Rattle.redolog.specs.Log.{read_log_with}

-- what is found where this record stands at the front of s: a commit's number, or what is found behind it
abbrev pub on_record : (List ℕ → Option ℕ) → List ℕ → Option Record → Option ℕ
on_record rest s none = none
on_record rest s (some (redo id w)) = rest (drop (size (redo id w)) s)
on_record rest s (some (commit id csn)) = some csn
on_record rest s (some (abort id)) = rest (drop (size (abort id)) s)

-- x, the state that `whole` hands on, is not used
abbrev pub found_step : (ℕ → List ℕ → Option ℕ) → ℕ → List ℕ → Option ℕ
found_step rest x s = on_record (rest x) s (read_record s)

-- The number of the first commit record, of records read one after the other from the front of s on. Where these break off or mix ids before it, no
-- whole group with a commit stands there under any number, so that looking ahead this loosely is enough: `found_any` (proofs/FoundLaws.antt).
unfoldable pub found_number : List ℕ → Option ℕ
found_number s = whole found_step none 0 s

-- without a commit any number does: 1
abbrev pub or_one : Option ℕ → ℕ
or_one none = 1
or_one (some n) = n

-- the groups of the log that starts at the front of s, its first commit number as found
unfoldable pub read_found : List ℕ → List Group
read_found s = read_log_with (or_one (found_number s)) s
