-- The three log records: what each is on disk, when it is well formed, and which one stands at the front of a list of bytes.
use Rattle.std.specs.Prelude.{ℕ, ◌+◌, Bool, true, false, cond, not, ◌&&◌, List, [], ◌∷◌, ◌++◌, length, get_or, take, drop, leb, eqb, Result, Ok, Err}
use Rattle.std.proofs.Math.Option.{Option, none, some}
use Rattle.layout.specs.{memory_len, kind_redo, kind_commit, kind_abort, redo_len, commit_len, abort_len, max_write}
use Rattle.recovery.specs.Group.{Write}
use Rattle.redolog.specs.Number.{be16, be32, bytes16, bytes32}
use Rattle.redolog.specs.declared.record.Record.{Record as Head}
use Rattle.redolog.specs.declared.record.Record.TheVariants.{Redo, Commit, Abort}
use Rattle.redolog.specs.declared.stop.Stop.{Stop}

-- redo: id, address and new bytes; commit: id, commit number; abort: id
pub data Record : Type 0 where
  redo : ℕ → Write → Record
  commit : ℕ → ℕ → Record
  abort : ℕ → Record

-- "redo: 1, id (2 bytes), address (2), length (1), the new bytes, 1"; "commit: 2, id (2), commit number (4), 2"; "abort: 3, id (2), 3"
abbrev pub encode : Record → List ℕ
encode (redo id w) = kind_redo ∷ (bytes16 id ++ (bytes16 w.addr ++ (length w.bytes ∷ (w.bytes ++ (kind_redo ∷ [])))))
encode (commit id csn) = kind_commit ∷ (bytes16 id ++ (bytes32 csn ++ (kind_commit ∷ [])))
encode (abort id) = kind_abort ∷ (bytes16 id ++ (kind_abort ∷ []))

abbrev pub size : Record → ℕ
size (redo id w) = redo_len + length w.bytes
size (commit id csn) = commit_len
size (abort id) = abort_len

-- the range rule: "the length is 1 to 32 and address + length ≤ 4,096"
abbrev pub in_range : ℕ → ℕ → Bool
in_range addr n = leb 1 n && leb n max_write && leb (addr + n) memory_len

-- "its id isn't 0 and, for redo," the range rule; that first and last byte agree is in `encode` and in the readers
abbrev pub well_formed : Record → Bool
well_formed (redo id w) = not (eqb id 0) && in_range w.addr (length w.bytes)
well_formed (commit id csn) = not (eqb id 0)
well_formed (abort id) = not (eqb id 0)

-- r where the test holds
abbrev pub keep : Bool → Record → Option Record
keep true r = some r
keep false r = none

-- Of the three below: the rest of a record of this kind and id. Past the end of s stand zeros, and a record's last byte is not zero: so a
-- record whose last byte agrees lies within s.
unfoldable pub read_redo : ℕ → List ℕ → Option Record
read_redo id s =
    keep
    (eqb (get_or s (6 + get_or s 5 0) 0) kind_redo && in_range (be16 s 3) (get_or s 5 0))
    (redo id (record { addr = be16 s 3; bytes = take (get_or s 5 0) (drop 6 s) }))

unfoldable pub read_commit : ℕ → List ℕ → Option Record
read_commit id s = keep (eqb (get_or s 7 0) kind_commit) (commit id (be32 s 3))

unfoldable pub read_abort : ℕ → List ℕ → Option Record
read_abort id s = keep (eqb (get_or s 3 0) kind_abort) (abort id)

abbrev pub read_kind : ℕ → ℕ → List ℕ → Option Record
read_kind kind id s =
    cond (eqb kind kind_redo) (read_redo id s) (cond (eqb kind kind_commit) (read_commit id s) (cond (eqb kind kind_abort) (read_abort id s) none))

-- the well-formed record at the front of s, if there is one
unfoldable pub read_record : List ℕ → Option Record
read_record s = cond (eqb (be16 s 1) 0) none (read_kind (get_or s 0 0) (be16 s 1) s)

-- what the code answers of a record: its numbers, and of a redo how many bytes it has; of none, why none stands there
abbrev pub head_of : Stop → Option Record → Result Head Stop
head_of why none = Err why
head_of why (some (redo id w)) = Ok (Redo (record { 0 = id }) w.addr (length w.bytes))
head_of why (some (commit id csn)) = Ok (Commit (record { 0 = csn }) (record { 0 = id }))
head_of why (some (abort id)) = Ok (Abort (record { 0 = id }))
