-- The rules of one transaction: those of an image, for numbers 2 and 4, and those of a state alone, for number 2. Held bytes, cover, log room and
-- savepoints.
use Rattle.std.specs.Prelude.{ℕ, ◌+◌, Bool, true, false, cond, not, ◌&&◌, ◌||◌, List, [], ◌∷◌, length, drop, eqb, leb, ltb}
use Rattle.std.proofs.Math.Option.{Option, none, some}
use Rattle.layout.specs.{redo_len, commit_len, max_records, max_savepoints, status_running, status_committing}
use Rattle.recovery.specs.Lists.{any}
use Rattle.recovery.specs.Savepoint.{Savepoint, count_at}
use Rattle.redolog.specs.Record.{in_range}
use Rattle.transaction.specs.declared.savepoints.Savepoints.{Savepoints}
use Rattle.transaction.specs.declared.Tx.{Tx}
use Rattle.transaction.specs.Lists.{up_from, every, first_in, sum_of}
use Rattle.transaction.specs.View.{Range, range, ranges_of, reads_of, savepoints_in, savepoints_of, written_by, used_by, Outline, outline}

-- ---- the image's part

abbrev pub range_ok : Range → Bool
range_ok (range a n) = in_range a n

-- "at most 16 undo records each, their ranges as for redo"
abbrev pub records_ok : List Range → Bool
records_ok rs = leb (length rs) max_records && every range_ok rs

-- "ids .. from 1 to the last given; status 1 or 2; a running one's number is 0, a committing one's from 1 to the last assigned"
unfoldable pub head_ok : ℕ → ℕ → ℕ → ℕ → ℕ → Bool
head_ok last assigned id status csn =
    leb 1 id && (leb id last && cond (eqb status status_running) (eqb csn 0) (eqb status status_committing && (leb 1 csn && leb csn assigned)))

abbrev pub outline_ok : ℕ → ℕ → Outline → Bool
outline_ok last assigned (outline id status csn undo) = head_ok last assigned id status csn && records_ok undo

-- "ids distinct", commit numbers "no two alike": a transaction has this id, or this number where it is one
abbrev pub alike : ℕ → ℕ → Outline → Bool
alike id csn (outline j status m undo) = eqb id j || (not (eqb csn 0) && eqb csn m)

-- ---- the state's part

abbrev pub same_range : Range → Range → Bool
same_range (range a n) (range b m) = eqb a b && eqb n m

abbrev pub same_ranges : List Range → List Range → Bool
same_ranges [] [] = true
same_ranges [] (q ∷ qs) = false
same_ranges (r ∷ rs) [] = false
same_ranges (r ∷ rs) (q ∷ qs) = same_range r q && same_ranges rs qs

-- not "a running transaction whose redo records differ from its undo records in count or ranges"
abbrev pub redo_ok : Tx → Bool
redo_ok t = not (eqb t.status status_running) || same_ranges (ranges_of t.undo.ranges) (ranges_of t.redo.ranges)

-- a savepoint has this name; the name is set
abbrev pub has_name : ℕ → Savepoint → Bool
has_name name p = eqb name p.name

abbrev pub is_set : ℕ → List Savepoint → Bool
is_set name ps = any (has_name name) ps

-- of a transaction with so many writes not "name 0 or twice, or a count above the writes" (document 02, A.7)
abbrev pub names_ok : ℕ → List Savepoint → Bool
names_ok writes [] = true
names_ok writes (p ∷ ps) = not (eqb p.name 0) && (leb p.count writes && (not (is_set p.name ps) && names_ok writes ps))

-- "Up to four marks"
unfoldable pub savepoints_ok : ℕ → List Savepoint → Bool
savepoints_ok writes ps = leb (length ps) max_savepoints && names_ok writes ps

-- Document 02, A.2: at most 16 read ranges, none "outside 8's limits"; of what requests add to a transaction not "any of it on a committing one"
abbrev pub extras_ok : Tx → Bool
extras_ok t =
    cond (eqb t.status status_running) (records_ok (reads_of t) && savepoints_ok t.undo.ranges.count (savepoints_of t))
    (eqb t.extras.reads.count 0 && eqb t.extras.savepoints.count 0)

-- what number 2 asks of a transaction beyond the image rules, a conjunct for each thing asked
unfoldable pub state_ok : Tx → Bool
state_ok t = redo_ok t && extras_ok t

-- ---- held bytes

-- the n bytes from a on and those of a record have one in common
abbrev pub meets : ℕ → ℕ → Range → Bool
meets a n (range b m) = ltb b (a + n) && ltb a (b + m)

-- what bytes are wanted for
abbrev pub reading : Bool
reading = false

abbrev pub writing : Bool
writing = true

-- "A byte is held while a running transaction has an undo record over it"; where it has read one, it "holds it against others' writes" (document
-- 02, A.2)
abbrev pub held_from : Bool → Tx → List Range
held_from false t = written_by t
held_from true t = used_by t

-- one of the n bytes from a on, against the transaction of this id
unfoldable pub held_against : Bool → ℕ → ℕ → ℕ → Tx → Bool
held_against wanted id a n t = not (eqb id t.id.0) && (eqb t.status status_running && any (meets a n) (held_from wanted t))

-- ---- cover

-- a byte lies in a range
abbrev pub has_byte : ℕ → Range → Bool
has_byte b (range a n) = leb a b && ltb b (a + n)

-- "each of its bytes lies in a range that the transaction has read or written": byte by byte, over all of these ranges
abbrev pub covered : List Range → ℕ → ℕ → Bool
covered rs a n = every (λ b. any (has_byte b) rs) (up_from (λ b. b) n a)

-- How far the bytes from a place on lie in these ranges, each looked at once, in order: past a range's end where the place reached lies in it.
abbrev pub onward : ℕ → Range → ℕ
onward at (range a n) = cond (has_byte at (range a n)) (a + n) at

abbrev pub reach : ℕ → List Range → ℕ
reach at [] = at
reach at (r ∷ rs) = reach (onward at r) rs

-- ---- log room

-- a redo record's bytes
abbrev pub range_size : Range → ℕ
range_size (range a n) = redo_len + n

abbrev pub ranges_size : List Range → ℕ
ranges_size rs = sum_of range_size rs

-- "for each running transaction its redo bytes + 8"
abbrev pub room_of : Tx → ℕ
room_of t = cond (eqb t.status status_running) (ranges_size (ranges_of t.redo.ranges) + commit_len) 0

-- ---- savepoints (document 02, A.7: marks)

-- the place where a name is set, or, if it is not, the next one
abbrev pub place_of : Savepoints → ℕ → ℕ
place_of p name = first_in (has_name name) 0 (savepoints_in p)

-- "setting a fifth name or the name 0"
unfoldable pub name_refused : ℕ → List Savepoint → Bool
name_refused name ps = eqb name 0 || (not (is_set name ps) && eqb (length ps) max_savepoints)

-- how many writes stood when the name was set; 0 if it is not
abbrev pub or_zero : Option ℕ → ℕ
or_zero none = 0
or_zero (some n) = n

abbrev pub stood_at : ℕ → Tx → ℕ
stood_at name t = or_zero (count_at name (savepoints_of t))

-- the ranges of "every later write"
abbrev pub later_ranges : ℕ → Tx → List Range
later_ranges name t = drop (stood_at name t) (written_by t)
