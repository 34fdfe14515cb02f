-- Without its reads the ledger with reads is the ledger, whatever it is fed.
use Prim.Native.Nat.{ℕ, zero, suc, ◌-◌}
use mathlib.Core.Path.{◌≡◌, refl, sym, ap, ap₂, ◌∙◌}
use mathlib.Core.Bool.{Bool, true, false, not, cond}
use mathlib.Core.List.{List, [], ◌∷◌, ◌++◌, map, map-append}
use lib.ListN.{length, take, drop, replicate}
use lib.Dec.{eqb, leb}
use Rattle.recovery.specs.Ledger as ledger
use Rattle.recovery.specs.Ledger.{OpenTx, Commit, Entry, entry_size, fitting_entries, committed_in, open_writes, others, committed_memory, of_id}
use Rattle.recovery.specs.Ledger.{add_write, note_savepoint, add_return, enter}
use Rattle.recovery.specs.Ledger.{Event, unchanged, begun, wrote, savepoint_set, went_back, precommitted, rolled_back, flushed, settled, restarted, cut, emptied}
use Rattle.recovery.proofs.Lists.{take_map}
use Rattle.serial.specs.Ledger.{OpenWithReads, EntryWithReads, commit, abort, LedgerWithReads, opens_in, commits_in, plain_entry}
use Rattle.serial.specs.Ledger.{entries_in, without_reads, committed_of, open_tx_of, others_of, lifted, read_by, add_read, noting_read, note_precommitted}
use Rattle.serial.specs.Ledger.{note_rolled_back, note_flushed, note, Fed, event, saw, told_of, feed}

-- ---- open transactions by id

lifted_open : (f : OpenTx → OpenTx) (ss : List OpenWithReads) → opens_in (map (lifted f) ss) ≡ map f (opens_in ss)
lifted_open f [] = refl
lifted_open f (s ∷ ss) = ap (λ (l : List OpenTx). f s.tx ∷ l) (lifted_open f ss)

-- a read leaves a transaction's id and writes
pub read_tx_lem : (i addr : ℕ) (bytes assigned : List ℕ) (s : OpenWithReads) → (noting_read i addr bytes assigned s).tx ≡ s.tx
read_tx_lem i addr bytes assigned s = go (eqb i s.tx.id)
  where
    go : (b : Bool) → (cond b (add_read (read_by addr bytes assigned s) s) s).tx ≡ s.tx
    go true = refl
    go false = refl

noting_read_open : (i addr : ℕ) (bytes assigned : List ℕ) (ss : List OpenWithReads) → opens_in (map (noting_read i addr bytes assigned) ss) ≡ opens_in ss
noting_read_open i addr bytes assigned [] = refl
noting_read_open i addr bytes assigned (s ∷ ss) = ap₂ (λ (t : OpenTx) (l : List OpenTx). t ∷ l) (read_tx_lem i addr bytes assigned s) (noting_read_open i addr bytes assigned ss)

open_writes_lem : (i : ℕ) (ss : List OpenWithReads) → (open_tx_of i ss).tx.writes ≡ open_writes i (opens_in ss)
open_writes_lem i [] = refl
open_writes_lem i (s ∷ ss) = go (eqb i s.tx.id) (open_writes_lem i ss)
  where
    go : (b : Bool) → (open_tx_of i ss).tx.writes ≡ open_writes i (opens_in ss)
        → (cond b s (open_tx_of i ss)).tx.writes ≡ cond b s.tx.writes (open_writes i (opens_in ss))
    go true h = refl
    go false h = h

others_open : (i : ℕ) (ss : List OpenWithReads) → opens_in (others_of i ss) ≡ others i (opens_in ss)
others_open i [] = refl
others_open i (s ∷ ss) = go (not (eqb i s.tx.id)) (others_open i ss)
  where
    go : (b : Bool) → opens_in (others_of i ss) ≡ others i (opens_in ss)
        → opens_in (cond b (s ∷ others_of i ss) (others_of i ss)) ≡ cond b (s.tx ∷ others i (opens_in ss)) (others i (opens_in ss))
    go true h = ap (λ (l : List OpenTx). s.tx ∷ l) h
    go false h = h

-- ---- entries

committed_plain : (es : List EntryWithReads) → commits_in (committed_of es) ≡ committed_in (entries_in es)
committed_plain [] = refl
committed_plain (commit c ∷ es) = ap (λ (l : List Commit). c.commit ∷ l) (committed_plain es)
committed_plain (abort ∷ es) = committed_plain es

aborts_plain : (n : ℕ) → entries_in (replicate n abort) ≡ replicate n ledger.abort
aborts_plain zero = refl
aborts_plain (suc n) = ap (λ (l : List Entry). ledger.abort ∷ l) (aborts_plain n)

drop_plain : (n : ℕ) (es : List EntryWithReads) → entries_in (drop n es) ≡ drop n (entries_in es)
drop_plain zero es = refl
drop_plain (suc n) [] = refl
drop_plain (suc n) (e ∷ es) = drop_plain n es

-- what leaves the ledger's queue are its first entries
fitting_first : (allowed q : ℕ) (es : List Entry)
    → fitting_entries allowed (take q es) ≡ take (length (fitting_entries allowed (take q es))) es
fitting_first allowed zero es = refl
fitting_first allowed (suc q) [] = refl
fitting_first allowed (suc q) (e ∷ es) = go (leb (entry_size e) allowed) (fitting_first (allowed - entry_size e) q es)
  where
    fit : List Entry
    fit = fitting_entries (allowed - entry_size e) (take q es)

    go : (b : Bool) → fit ≡ take (length fit) es → cond b (e ∷ fit) [] ≡ take (length (cond b (e ∷ fit) [])) (e ∷ es)
    go true h = ap (λ (l : List Entry). e ∷ l) h
    go false h = refl

-- ---- what is fed

module _ (k : LedgerWithReads) where
  flushed_plain : (q allowed : ℕ) → without_reads (note_flushed q allowed k) ≡ enter (flushed q allowed) (without_reads k)
  flushed_plain q allowed =
      let fit : List Entry = fitting_entries allowed (take q (entries_in k.queue)) in
      let durables : commits_in (k.durable ++ committed_of (take (length fit) k.queue)) ≡ commits_in k.durable ++ committed_in fit =
      map-append (λ c. c.commit) k.durable (committed_of (take (length fit) k.queue))
      ∙ ap (λ (l : List Commit). commits_in k.durable ++ l)
      (committed_plain (take (length fit) k.queue)
      ∙ ap committed_in (sym (take_map plain_entry (length fit) k.queue) ∙ sym (fitting_first allowed q (entries_in k.queue)))) in
      rw (drop_plain (length fit) k.queue, durables)

  precommitted_plain : (i n : ℕ) → without_reads (note_precommitted i n k) ≡ enter (precommitted i n) (without_reads k)
  precommitted_plain i n =
      rw (others_open i k.active, map-append plain_entry k.queue, map-append (λ c. c.commit) k.assigned, open_writes_lem i k.active)

  rolled_back_plain : (i : ℕ) → without_reads (note_rolled_back i k) ≡ enter (rolled_back i) (without_reads k)
  rolled_back_plain i = rw (others_open i k.active, map-append)

pub note_plain : (e : Event) (k : LedgerWithReads) → without_reads (note e k) ≡ enter e (without_reads k)
note_plain unchanged k = refl
note_plain (begun i) k = rw map-append
note_plain (wrote i w) k = rw (lifted_open (add_write i w) k.active)
note_plain (savepoint_set i name) k = rw (lifted_open (of_id i (note_savepoint name)) k.active)
note_plain (went_back i name) k = rw (lifted_open (of_id i (add_return (committed_memory (without_reads k)) name)) k.active)
note_plain (precommitted i n) k = precommitted_plain k i n
note_plain (rolled_back i) k = rolled_back_plain k i
note_plain (flushed q allowed) k = flushed_plain k q allowed
note_plain (settled i) k = refl
note_plain (restarted undone) k = rw (aborts_plain undone)
note_plain (cut e) k = ap emptied (note_plain e k)

-- fed with reads it is the ledger that is fed no read
pub without_reads_lem : (f : Fed) (k : LedgerWithReads) → without_reads (feed f k) ≡ enter (told_of f) (without_reads k)
without_reads_lem (event e) k = note_plain e k
without_reads_lem (saw i addr bytes) k = rw (noting_read_open i addr bytes _ k.active)
