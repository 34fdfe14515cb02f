-- Restart, steps 3 and 4: from an image's transactions, its last commit number on disk and the log's groups after it.
use Rattle.std.specs.Prelude.{ℕ, not, cond, List, [], ◌∷◌, ◌++◌, map, leb, ltb}
use Rattle.std.proofs.Math.Option.{Option, none, some}
use Rattle.recovery.specs.Group.{Write, Group, committed, aborted, last_csn}
use Rattle.recovery.specs.Lists.{filter, has}
use Rattle.recovery.specs.Transaction.{Tx, running, committing, lookup}
use Rattle.recovery.specs.Replay.{redo_all, undo_all, undo_each}

abbrev pub group_id : Group → ℕ
group_id (committed i n ws) = i
group_id (aborted i) = i

-- Step 3: the ids that the groups mark finished, beside those that are finished already. An id that is not in the image is
-- marked too: it has no undo records, so that this changes nothing.
abbrev pub finished : List Group → List ℕ → List ℕ
finished [] f = f
finished (g ∷ gs) f = finished gs (group_id g ∷ f)

abbrev pub undo_records : Option Tx → List Write
undo_records none = []
undo_records (some t) = t.undo

-- the undo records of an id in the image; none if it is not there
abbrev pub undo_of : ℕ → List Tx → List Write
undo_of i txs = undo_records (lookup i txs)

abbrev pub unfinished : List ℕ → List Tx → List Tx
unfinished f txs = filter (λ t. not (has t.id f)) txs

-- transactions by commit number, highest first
abbrev pub insert_desc : Tx → List Tx → List Tx
insert_desc t [] = t ∷ []
insert_desc t (u ∷ us) = cond (leb u.csn t.csn) (t ∷ u ∷ us) (u ∷ insert_desc t us)

abbrev pub sort_desc : List Tx → List Tx
sort_desc [] = []
sort_desc (t ∷ ts) = insert_desc t (sort_desc ts)

abbrev pub above : ℕ → List Tx → List Tx
above n txs = filter (λ t. ltb n t.csn) txs

-- Step 4's order: the running ones in image order, then the committing ones whose number exceeds the last found, highest first.
unfoldable pub undo_order : List Tx → ℕ → List Tx
undo_order txs last = running txs ++ sort_desc (above last (committing txs))

-- what step 4 undoes
abbrev pub undone : List Tx → ℕ → List Group → List Tx
undone txs csn gs = unfinished (finished gs []) (undo_order txs (last_csn csn gs))

-- the abort records that step 4 adds to the tail
abbrev pub aborts : List Tx → List Group
aborts txs = map (λ t. aborted t.id) txs

module _ {M : Type 0} (lay : Write → M → M) where
  -- Step 3. Commit: do its redo records, mark that id finished. Abort: if the id is in the image and unfinished, undo it and
  -- mark it finished; else nothing.
  abbrev pub forward : List Tx → List Group → List ℕ → M → M
  forward txs [] f m = m
  forward txs (committed i n ws ∷ gs) f m = forward txs gs (i ∷ f) (redo_all lay ws m)
  forward txs (aborted i ∷ gs) f m = forward txs gs (i ∷ f) (cond (has i f) m (undo_all lay (undo_of i txs) m))

  -- the memory after steps 3 and 4
  abbrev pub recover : List Tx → ℕ → List Group → M → M
  recover txs csn gs m = undo_each lay (undone txs csn gs) (forward txs gs [] m)
