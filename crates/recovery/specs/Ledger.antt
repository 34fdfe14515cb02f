-- The ledger (document 01: the bench book): kept apart from the store and fed only the calls.
use Rattle.std.specs.Prelude.{ℕ, ◌+◌, ◌-◌, not, cond, List, [], ◌∷◌, ◌++◌, map, reverse, length, take, drop, replicate, eqb, leb}
use Rattle.std.proofs.Math.Option.{Option, none, some}
use Rattle.layout.specs.{commit_len, abort_len}
use Rattle.recovery.specs.Group.{Write, redo_size}
use Rattle.recovery.specs.Lists.{filter, or_else}
use Rattle.recovery.specs.Savepoint.{Savepoint, set_name, count_at}
use Rattle.recovery.specs.Replay.{redo_all, lay_bytes, olds_of}

-- an open transaction (an open sheet): its id, its write set, in order, and its savepoints (marks)
pub record OpenTx : Type 0 where
  pub id : ℕ
  pub writes : List Write
  pub savepoints : List Savepoint

-- a committed transaction (a booking)
pub record Commit : Type 0 where
  pub id : ℕ
  pub csn : ℕ
  pub writes : List Write

-- what is queued: a committed transaction, or an abort entry (a blank)
pub data Entry : Type 0 where
  commit : Commit → Entry
  abort : Entry

-- opening: the starting memory, which no call changes; active: the open transactions; durable: kept; assigned: in force
pub record Ledger : Type 0 where
  pub opening : List ℕ
  pub active : List OpenTx
  pub queue : List Entry
  pub durable : List Commit
  pub assigned : List Commit
  pub settled : List Commit

-- all empty at first
abbrev pub no_ledger : List ℕ → Ledger
no_ledger opening = record { opening = opening; active = []; queue = []; durable = []; assigned = []; settled = [] }

abbrev pub entry_size : Entry → ℕ
entry_size (commit c) = redo_size c.writes + commit_len
entry_size abort = abort_len

-- the first entries, as many as have sizes that, summed from the front, stay within n
abbrev pub fitting_entries : ℕ → List Entry → List Entry
fitting_entries n [] = []
fitting_entries n (e ∷ es) = cond (leb (entry_size e) n) (e ∷ fitting_entries (n - entry_size e) es) []

abbrev pub committed_in : List Entry → List Commit
committed_in [] = []
committed_in (commit c ∷ es) = c ∷ committed_in es
committed_in (abort ∷ es) = committed_in es

-- committed transactions laid over a memory, one after the other, each one's writes in order
abbrev pub lay_commits : List Commit → List ℕ → List ℕ
lay_commits [] m = m
lay_commits (c ∷ cs) m = lay_commits cs (redo_all lay_bytes c.writes m)

-- by id: the write set, the other open transactions, a change of that one, one more write
abbrev pub open_writes : ℕ → List OpenTx → List Write
open_writes i [] = []
open_writes i (s ∷ ss) = cond (eqb i s.id) s.writes (open_writes i ss)

abbrev pub others : ℕ → List OpenTx → List OpenTx
others i ss = filter (λ s. not (eqb i s.id)) ss

abbrev pub of_id : ℕ → (OpenTx → OpenTx) → OpenTx → OpenTx
of_id i f s = cond (eqb i s.id) (f s) s

abbrev pub add_writes : List Write → OpenTx → OpenTx
add_writes ws s = record { id = s.id; writes = s.writes ++ ws; savepoints = s.savepoints }

abbrev pub add_write : ℕ → Write → OpenTx → OpenTx
add_write i w s = of_id i (add_writes (w ∷ [])) s

-- a savepoint "notes how many writes stand on its sheet"
abbrev pub note_savepoint : ℕ → OpenTx → OpenTx
note_savepoint name s = record { id = s.id; writes = s.writes; savepoints = set_name name (length s.writes) s.savepoints }

-- The writes of a return to where n writes stood: of every later one, newest first, the old bytes, "those that the starting memory, the kept, the
-- queue and the sheet's writes before the one taken back leave there". m is what the first three leave. A name not set: none.
abbrev pub taken_back : List ℕ → Option ℕ → List Write → List Write
taken_back m none ws = []
taken_back m (some n) ws = reverse (olds_of (redo_all lay_bytes (take n ws) m) (drop n ws))

abbrev pub add_return : List ℕ → ℕ → OpenTx → OpenTx
add_return m name s = add_writes (taken_back m (count_at name s.savepoints) s.writes) s

-- the latest of an id
abbrev pub latest : ℕ → List Commit → Option Commit
latest i [] = none
latest i (c ∷ cs) = or_else (latest i cs) (cond (eqb i c.id) (some c) none)

abbrev pub to_list : Option Commit → List Commit
to_list none = []
to_list (some c) = c ∷ []

-- What the ledger is fed: a call that was done, with its arguments, begin's id, the commit number that precommit assigned and
-- restart's count of transactions undone; or `cut`, a call that was cut.
-- `unchanged` is a call that is refused or has no rule: a read, its sister, a checkpoint. A checkpoint or restart that was cut is
-- `cut unchanged`: its own step does no more than `cut` does.
pub data Event : Type 0 where
  unchanged : Event
  begun : (id : ℕ) → Event
  wrote : (id : ℕ) → Write → Event
  savepoint_set : (id name : ℕ) → Event
  went_back : (id name : ℕ) → Event
  precommitted : (id csn : ℕ) → Event
  rolled_back : (id : ℕ) → Event
  flushed : (count allowed : ℕ) → Event
  settled : (id : ℕ) → Event
  restarted : (undone : ℕ) → Event
  cut : Event → Event

abbrev pub with_active : List OpenTx → Ledger → Ledger
with_active ss l = record { opening = l.opening; active = ss; queue = l.queue; durable = l.durable; assigned = l.assigned; settled = l.settled }

-- Begin: an empty write set with the id given.
abbrev pub enter_begun : ℕ → Ledger → Ledger
enter_begun i l = with_active (l.active ++ (record { id = i; writes = []; savepoints = [] } ∷ [])) l

-- Write: address and bytes go last in that id's write set.
abbrev pub enter_wrote : ℕ → Write → Ledger → Ledger
enter_wrote i w l = with_active (map (add_write i w) l.active) l

-- A savepoint set (document 02, A.7): it notes how many writes stand in that id's write set.
abbrev pub enter_savepoint_set : ℕ → ℕ → Ledger → Ledger
enter_savepoint_set i name l = with_active (map (of_id i (note_savepoint name)) l.active) l

-- what the opening memory, the durable ones and the queue leave
abbrev pub committed_memory : Ledger → List ℕ
committed_memory l = lay_commits (l.durable ++ committed_in l.queue) l.opening

-- Gone back (document 02, A.7): the writes of the return go last in that id's write set. Its savepoints stay.
abbrev pub enter_went_back : ℕ → ℕ → Ledger → Ledger
enter_went_back i name l = with_active (map (of_id i (add_return (committed_memory l) name)) l.active) l

-- Precommit: the write set goes last in the queue, as a committed transaction with that number; it is assigned from now on.
abbrev pub enter_precommitted : ℕ → ℕ → Ledger → Ledger
enter_precommitted i n l =
    let c : Commit = record { id = i; csn = n; writes = open_writes i l.active } in
    record {
      opening = l.opening;
      active = others i l.active;
      queue = l.queue ++ (commit c ∷ []);
      durable = l.durable;
      assigned = l.assigned ++ (c ∷ []);
      settled = l.settled;
    }

-- Abort: the write set goes; an abort entry goes last in the queue.
abbrev pub enter_rolled_back : ℕ → Ledger → Ledger
enter_rolled_back i l =
    record { opening = l.opening; active = others i l.active; queue = l.queue ++ (abort ∷ []); durable = l.durable; assigned = l.assigned; settled = l.settled }

-- the first entries leave the queue, the committed ones among them to the end of the durable
abbrev pub leave : List Entry → Ledger → Ledger
leave es l =
    record { opening = l.opening; active = l.active; queue = drop (length es) l.queue; durable = l.durable ++ committed_in es; assigned = l.assigned; settled = l.settled }

-- Flush k: take the first k entries, or all if fewer. Those whose sizes, summed from the front, stay within the stores allowed
-- leave the queue.
abbrev pub enter_flushed : ℕ → ℕ → Ledger → Ledger
enter_flushed k allowed l = leave (fitting_entries allowed (take k l.queue)) l

-- Settle: the latest of that id, durable or queued, is settled for good.
abbrev pub enter_settled : ℕ → Ledger → Ledger
enter_settled i l =
    record {
      opening = l.opening;
      active = l.active;
      queue = l.queue;
      durable = l.durable;
      assigned = l.assigned;
      settled = l.settled ++ to_list (latest i (l.durable ++ committed_in l.queue));
    }

-- Restart, done: open transactions and queue are emptied; an abort entry is queued for each transaction undone. The durable ones
-- are those assigned.
abbrev pub enter_restarted : ℕ → Ledger → Ledger
enter_restarted undone l = record { opening = l.opening; active = []; queue = replicate undone abort; durable = l.durable; assigned = l.durable; settled = l.settled }

-- Cut, whatever the call: open transactions and queue are emptied after its step.
abbrev pub emptied : Ledger → Ledger
emptied l = record { opening = l.opening; active = []; queue = []; durable = l.durable; assigned = l.assigned; settled = l.settled }

abbrev pub enter : Event → Ledger → Ledger
enter unchanged l = l
enter (begun i) l = enter_begun i l
enter (wrote i w) l = enter_wrote i w l
enter (savepoint_set i name) l = enter_savepoint_set i name l
enter (went_back i name) l = enter_went_back i name l
enter (precommitted i n) l = enter_precommitted i n l
enter (rolled_back i) l = enter_rolled_back i l
enter (flushed k allowed) l = enter_flushed k allowed l
enter (settled i) l = enter_settled i l
enter (restarted undone) l = enter_restarted undone l
enter (cut e) l = emptied (enter e l)
