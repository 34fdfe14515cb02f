-- The numbers that refuse a call, in checking order, each under its stated condition alone.
use Rattle.std.specs.Prelude.{ℕ, ◌+◌, ◌-◌, ◌/◌, Bool, not, cond, ◌&&◌, ◌||◌, List, [], ◌∷◌, ◌++◌, length, eqb, ltb}
use Rattle.layout.specs.{memory_len, page_len, tail_len, log_len, max_txs, max_records, max_write, redo_len, commit_len, status_running, status_committing}
use Rattle.recovery.specs.Lists.{any}
use Rattle.transaction.specs.declared.Tx.{Tx}
use Rattle.transaction.specs.View.{savepoints_of}
use Rattle.transaction.specs.Rules.{reading, writing, held_against, ranges_size, is_set, name_refused, later_ranges}
use Rattle.store.specs.declared.State.{State}
use Rattle.store.specs.State.{tx_at, txs_of, has_id, slot_of}
use Rattle.store.specs.Rules.{unfit}

-- a number and the condition under which it refuses
pub data Check : Type 0 where
  check : ℕ → Bool → Check

-- the first number of the list whose condition holds; 0 if none does
abbrev pub first_number : List Check → ℕ
first_number [] = 0
first_number (check n b ∷ cs) = cond b n (first_number cs)

-- the transaction of an id that is listed
abbrev pub tx_of : State → ℕ → Tx
tx_of s id = tx_at s (slot_of s id)

-- "1. All calls: a lent buffer hasn't its length." "2. Calls handed a state: .." (lent: the length of the lent memory)
abbrev pub shared_checks : State → ℕ → List ℕ → List Check
shared_checks s lent tail = check 1 (not (eqb lent memory_len && eqb (length tail) tail_len)) ∷ check 2 (unfit s tail) ∷ []

-- the number that refuses a call whose own checks these are
abbrev pub number_by : State → ℕ → List ℕ → List Check → ℕ
number_by s lent tail cs = first_number (shared_checks s lent tail ++ cs)

-- "6. .. the id isn't in the list."
abbrev pub check6 : State → ℕ → Check
check6 s id = check 6 (not (any (has_id id) (txs_of s)))

-- "7. .. it is committing."
abbrev pub check7 : State → ℕ → Check
check7 s id = check 7 (eqb (tx_of s id).status status_committing)

-- "8. .. length 0 or above 32, or address + length above 4,096."
abbrev pub check8 : ℕ → ℕ → Check
check8 a n = check 8 (eqb n 0 || ltb max_write n || ltb memory_len (a + n))

-- "16, write over two drawers, checked after 8" (document 02, A.5): the last byte of the range lies in a later page than its first
abbrev pub check16 : ℕ → ℕ → Check
check16 a n = check 16 (ltb (a / page_len) ((a + n - 1) / page_len))

-- "9. .. a byte of the range is held by another", against reading or writing it: "Number 9 covers a write over a byte that another has read"
-- (document 02, A.2)
abbrev pub check9 : State → Bool → ℕ → ℕ → ℕ → Check
check9 s wanted id a n = check 9 (any (held_against wanted id a n) (txs_of s))

-- "10. Write: it has 16 undo records."
abbrev pub check10 : State → ℕ → Check
check10 s id = check 10 (eqb (tx_of s id).undo.ranges.count max_records)

-- Begin: "11. .. 8 transactions are listed." "12. .. last id 65,535." "13. .. room used + 8 above 16,384."
abbrev pub begin_checks : ℕ → ℕ → ℕ → List Check
begin_checks count last room = check 11 (eqb count max_txs) ∷ check 12 (eqb last 65535) ∷ check 13 (ltb log_len (room + commit_len)) ∷ []

-- what read and write look at first
abbrev pub range_checks : State → ℕ → ℕ → ℕ → List Check
range_checks s id a n = check6 s id ∷ check7 s id ∷ check8 a n ∷ []

abbrev pub read_checks : State → ℕ → ℕ → ℕ → List Check
read_checks s id a n = range_checks s id a n ++ (check9 s reading id a n ∷ [])

-- "15, for a seventeenth read range, checked after 9 and only for the sister call" (document 02, A.2)
abbrev pub check15 : State → ℕ → Check
check15 s id = check 15 (eqb (tx_of s id).extras.reads.count max_records)

-- read's sister
abbrev pub answer_checks : State → ℕ → ℕ → ℕ → List Check
answer_checks s id a n = read_checks s id a n ++ (check15 s id ∷ [])

-- "13. .. Write: room used + 7 + length above it."
abbrev pub check13 : ℕ → ℕ → Check
check13 room n = check 13 (ltb log_len (room + (redo_len + n)))

abbrev pub write_checks : State → ℕ → ℕ → ℕ → ℕ → List Check
write_checks s room id a n = range_checks s id a n ++ (check16 a n ∷ check9 s writing id a n ∷ check10 s id ∷ check13 room n ∷ [])

-- "19, setting a fifth name or the name 0; .. checked after 7" (document 02, A.7)
abbrev pub check19 : State → ℕ → ℕ → Check
check19 s id name = check 19 (name_refused name (savepoints_of (tx_of s id)))

abbrev pub savepoint_checks : State → ℕ → ℕ → List Check
savepoint_checks s id name = check6 s id ∷ check7 s id ∷ check19 s id name ∷ []

-- "18, going back to a name not set, .. checked after 7"
abbrev pub check18 : State → ℕ → ℕ → Check
check18 s id name = check 18 (not (is_set name (savepoints_of (tx_of s id))))

-- the writes of a return "count towards 10 and 13", "all or none": judged on the totals
abbrev pub return_check10 : State → ℕ → ℕ → Check
return_check10 s id name = check 10 (ltb max_records ((tx_of s id).undo.ranges.count + length (later_ranges name (tx_of s id))))

abbrev pub return_check13 : State → ℕ → ℕ → ℕ → Check
return_check13 s room id name = check 13 (ltb log_len (room + ranges_size (later_ranges name (tx_of s id))))

abbrev pub go_back_checks : State → ℕ → ℕ → ℕ → List Check
go_back_checks s room id name = check6 s id ∷ check7 s id ∷ check18 s id name ∷ return_check10 s id name ∷ return_check13 s room id name ∷ []

-- "12. .. Precommit: last commit number 4,294,967,295."
abbrev pub check12 : State → Check
check12 s = check 12 (eqb s.assigned.0 4294967295)

abbrev pub precommit_checks : State → ℕ → List Check
precommit_checks s id = check6 s id ∷ check7 s id ∷ check12 s ∷ []

abbrev pub abort_checks : State → ℕ → List Check
abort_checks s id = check6 s id ∷ check7 s id ∷ []

-- "14. Settle: running, or its commit number isn't on disk."
abbrev pub check14 : State → ℕ → Check
check14 s id = check 14 (eqb (tx_of s id).status status_running || ltb s.ondisk.0 (tx_of s id).csn.0)

abbrev pub settle_checks : State → ℕ → List Check
settle_checks s id = check6 s id ∷ check14 s id ∷ []
