-- The ledger with reads (document 02, A.4): the ledger, and beside each transaction's writes those of its reads that handed back a part that isn't
-- empty. A transaction's reads go with its entry from the open ones into the queue and to the durable; none is looked up there by id or commit
-- number, since ids, commit numbers and even writes of lost transactions recur. Each rule is the ledger's, for entries that carry reads:
-- without the reads it is the ledger (`without_reads_lem`, proofs/Plain.antt).
use Rattle.std.specs.Prelude.{ℕ, suc, not, cond, List, [], ◌∷◌, ◌++◌, map, length, take, drop, replicate, eqb}
use Rattle.recovery.specs.Group.{Write}
use Rattle.recovery.specs.Lists.{filter}
use Rattle.recovery.specs.Ledger as ledger
use Rattle.recovery.specs.Ledger.{OpenTx, Commit, Entry, Ledger, committed_memory, of_id, add_write, note_savepoint, add_return, fitting_entries, enter_settled}
use Rattle.recovery.specs.Ledger.{Event, unchanged, begun, wrote, savepoint_set, went_back, precommitted, rolled_back, flushed, settled, restarted, cut}

-- A read: its address and the bytes handed back, how many own writes stood, and which transactions were assigned then, by their stamps.
pub record Read : Type 0 where
  pub addr : ℕ
  pub bytes : List ℕ
  pub own : ℕ
  pub assigned : List ℕ

-- an open transaction, with its reads in order
pub record OpenWithReads : Type 0 where
  pub tx : OpenTx
  pub reads : List Read

-- A committed transaction, with its reads. Its stamp: how many were precommitted before it since the opening, lost ones too. No two have the same.
pub record CommitWithReads : Type 0 where
  pub stamp : ℕ
  pub commit : Commit
  pub reads : List Read

pub data EntryWithReads : Type 0 where
  commit : CommitWithReads → EntryWithReads
  abort : EntryWithReads

-- as the ledger; stamps: how many were given
pub record LedgerWithReads : Type 0 where
  pub opening : List ℕ
  pub active : List OpenWithReads
  pub queue : List EntryWithReads
  pub durable : List CommitWithReads
  pub assigned : List CommitWithReads
  pub settled : List Commit
  pub stamps : ℕ

-- all empty at first
abbrev pub no_reads : List ℕ → LedgerWithReads
no_reads opening = record { opening = opening; active = []; queue = []; durable = []; assigned = []; settled = []; stamps = 0 }

-- ---- without the reads

abbrev pub opens_in : List OpenWithReads → List OpenTx
opens_in ss = map (λ s. s.tx) ss

abbrev pub commits_in : List CommitWithReads → List Commit
commits_in cs = map (λ c. c.commit) cs

abbrev pub plain_entry : EntryWithReads → Entry
plain_entry (commit c) = ledger.commit c.commit
plain_entry abort = ledger.abort

abbrev pub entries_in : List EntryWithReads → List Entry
entries_in es = map plain_entry es

-- the ledger
abbrev pub without_reads : LedgerWithReads → Ledger
without_reads k =
    record {
      opening = k.opening;
      active = opens_in k.active;
      queue = entries_in k.queue;
      durable = commits_in k.durable;
      assigned = commits_in k.assigned;
      settled = k.settled;
    }

-- ---- its parts

abbrev pub stamps_of : List CommitWithReads → List ℕ
stamps_of cs = map (λ c. c.stamp) cs

-- the committed ones among entries
abbrev pub committed_of : List EntryWithReads → List CommitWithReads
committed_of [] = []
committed_of (commit c ∷ es) = c ∷ committed_of es
committed_of (abort ∷ es) = committed_of es

-- by id: the open transaction with its reads, the others
abbrev pub open_tx_of : ℕ → List OpenWithReads → OpenWithReads
open_tx_of i [] = record { tx = record { id = i; writes = []; savepoints = [] }; reads = [] }
open_tx_of i (s ∷ ss) = cond (eqb i s.tx.id) s (open_tx_of i ss)

abbrev pub others_of : ℕ → List OpenWithReads → List OpenWithReads
others_of i ss = filter (λ s. not (eqb i s.tx.id)) ss

-- what the ledger changes of an open transaction, with its reads as they were
abbrev pub lifted : (OpenTx → OpenTx) → OpenWithReads → OpenWithReads
lifted f s = record { tx = f s.tx; reads = s.reads }

-- a write goes where the ledger puts it
abbrev pub noting_write : ℕ → Write → OpenWithReads → OpenWithReads
noting_write i w s = lifted (add_write i w) s

-- a read goes last among that id's reads, with the count of that id's writes so far
abbrev pub read_by : ℕ → List ℕ → List ℕ → OpenWithReads → Read
read_by addr bytes assigned s = record { addr = addr; bytes = bytes; own = length s.tx.writes; assigned = assigned }

abbrev pub add_read : Read → OpenWithReads → OpenWithReads
add_read r s = record { tx = s.tx; reads = s.reads ++ (r ∷ []) }

abbrev pub noting_read : ℕ → ℕ → List ℕ → List ℕ → OpenWithReads → OpenWithReads
noting_read i addr bytes assigned s = cond (eqb i s.tx.id) (add_read (read_by addr bytes assigned s) s) s

-- ---- its rules

abbrev pub with_active : List OpenWithReads → LedgerWithReads → LedgerWithReads
with_active ss k = record { opening = k.opening; active = ss; queue = k.queue; durable = k.durable; assigned = k.assigned; settled = k.settled; stamps = k.stamps }

-- Begin: an open transaction without writes and reads.
abbrev pub note_begun : ℕ → LedgerWithReads → LedgerWithReads
note_begun i k = with_active (k.active ++ (record { tx = record { id = i; writes = []; savepoints = [] }; reads = [] } ∷ [])) k

-- Write: it goes last among that id's writes.
abbrev pub note_wrote : ℕ → Write → LedgerWithReads → LedgerWithReads
note_wrote i w k = with_active (map (noting_write i w) k.active) k

-- A savepoint set, and gone back: as in the ledger, for which going back lays what is durable and queued.
abbrev pub note_savepoint_set : ℕ → ℕ → LedgerWithReads → LedgerWithReads
note_savepoint_set i name k = with_active (map (lifted (of_id i (note_savepoint name))) k.active) k

abbrev pub note_went_back : ℕ → ℕ → LedgerWithReads → LedgerWithReads
note_went_back i name k = with_active (map (lifted (of_id i (add_return (committed_memory (without_reads k)) name))) k.active) k

-- A read that handed back these bytes.
abbrev pub note_read : ℕ → ℕ → List ℕ → LedgerWithReads → LedgerWithReads
note_read i addr bytes k = with_active (map (noting_read i addr bytes (stamps_of k.assigned)) k.active) k

-- the open transaction's writes and reads, under the next stamp
abbrev pub entry_for : ℕ → ℕ → LedgerWithReads → CommitWithReads
entry_for i n k =
    let s : OpenWithReads = open_tx_of i k.active in
    record { stamp = k.stamps; commit = record { id = i; csn = n; writes = s.tx.writes }; reads = s.reads }

-- Precommit: they go last in the queue together, and are assigned from now on.
abbrev pub note_precommitted : ℕ → ℕ → LedgerWithReads → LedgerWithReads
note_precommitted i n k =
    record {
      opening = k.opening;
      active = others_of i k.active;
      queue = k.queue ++ (commit (entry_for i n k) ∷ []);
      durable = k.durable;
      assigned = k.assigned ++ (entry_for i n k ∷ []);
      settled = k.settled;
      stamps = suc k.stamps;
    }

-- Abort: writes and reads go; an abort entry goes last in the queue.
abbrev pub note_rolled_back : ℕ → LedgerWithReads → LedgerWithReads
note_rolled_back i k =
    record {
      opening = k.opening;
      active = others_of i k.active;
      queue = k.queue ++ (abort ∷ []);
      durable = k.durable;
      assigned = k.assigned;
      settled = k.settled;
      stamps = k.stamps;
    }

-- the first n entries leave the queue, the committed ones among them to the end of the durable
abbrev pub leaving : ℕ → LedgerWithReads → LedgerWithReads
leaving n k =
    record {
      opening = k.opening;
      active = k.active;
      queue = drop n k.queue;
      durable = k.durable ++ committed_of (take n k.queue);
      assigned = k.assigned;
      settled = k.settled;
      stamps = k.stamps;
    }

-- Flush: as many entries leave as leave the ledger's queue.
abbrev pub note_flushed : ℕ → ℕ → LedgerWithReads → LedgerWithReads
note_flushed q allowed k = leaving (length (fitting_entries allowed (take q (entries_in k.queue)))) k

-- Settle: what the ledger settles.
abbrev pub note_settled : ℕ → LedgerWithReads → LedgerWithReads
note_settled i k =
    record {
      opening = k.opening;
      active = k.active;
      queue = k.queue;
      durable = k.durable;
      assigned = k.assigned;
      settled = (enter_settled i (without_reads k)).settled;
      stamps = k.stamps;
    }

-- Restart, done: the lost ones go with their reads; the durable ones are those assigned. Stamps go on.
abbrev pub note_restarted : ℕ → LedgerWithReads → LedgerWithReads
note_restarted undone k =
    record { opening = k.opening; active = []; queue = replicate undone abort; durable = k.durable; assigned = k.durable; settled = k.settled; stamps = k.stamps }

-- Cut, whatever the call: open transactions and queue are emptied after its step.
abbrev pub note_cut : LedgerWithReads → LedgerWithReads
note_cut k = record { opening = k.opening; active = []; queue = []; durable = k.durable; assigned = k.assigned; settled = k.settled; stamps = k.stamps }

-- what the ledger is fed
abbrev pub note : Event → LedgerWithReads → LedgerWithReads
note unchanged k = k
note (begun i) k = note_begun i k
note (wrote i w) k = note_wrote i w k
note (savepoint_set i name) k = note_savepoint_set i name k
note (went_back i name) k = note_went_back i name k
note (precommitted i n) k = note_precommitted i n k
note (rolled_back i) k = note_rolled_back i k
note (flushed q allowed) k = note_flushed q allowed k
note (settled i) k = note_settled i k
note (restarted undone) k = note_restarted undone k
note (cut e) k = note_cut (note e k)

-- What the ledger with reads is fed of a call: what the ledger is fed; or id, address and bytes of a read whose part isn't empty.
pub data Fed : Type 0 where
  event : Event → Fed
  saw : (id addr : ℕ) (bytes : List ℕ) → Fed

-- what of it the ledger is fed: of a read, nothing
abbrev pub told_of : Fed → Event
told_of (event e) = e
told_of (saw i addr bytes) = unchanged

abbrev pub feed : Fed → LedgerWithReads → LedgerWithReads
feed (event e) k = note e k
feed (saw i addr bytes) k = note_read i addr bytes k
