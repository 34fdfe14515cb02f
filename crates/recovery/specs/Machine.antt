-- The abstract store: disk and live state without bytes, what each call does to them, and the calls as steps.
use Rattle.std.specs.Prelude.{ℕ, suc, ◌+◌, ◌≤◌, ◌<◌, ◌≡◌, true, false, List, [], ◌∷◌, ◌++◌, map, reverse, length, take, drop, replicate}
use Rattle.std.proofs.Math.Option.{some}
use Rattle.std.proofs.lemmas.List.{length-replicate}
use Rattle.layout.specs.{redo_len, commit_len}
use Rattle.layout.specs.declared.Form.{Form}
use Rattle.layout.specs.declared.Form.TheVariants.{One, Two}
use Rattle.recovery.specs.Group.{Write, Group, committed, aborted, redo_size, groups_size, last_csn, fitting}
use Rattle.recovery.specs.Lists.{All}
use Rattle.recovery.specs.Savepoint.{set_name, count_at}
use Rattle.recovery.specs.Transaction.{Tx, running, lookup, edit, remove, held_by_other, reserved}
use Rattle.recovery.specs.Replay.{undo_all, lay_bytes, old_bytes}
use Rattle.recovery.specs.Restart.{group_id, undone, aborts, recover}
use Rattle.recovery.specs.Ledger.{Event, unchanged, begun, wrote, savepoint_set, went_back, precommitted, rolled_back, flushed, settled, restarted, cut}
use Rattle.recovery.specs.Ledger.{Ledger, no_ledger, enter}

-- What a history opens from: the disk's form, the length of memory, the bytes that the log can take, and an image's memory, last commit
-- number and last id, with no transaction.
pub record Opening : Type 0 where
  pub form : Form
  pub size : ℕ
  pub capacity : ℕ
  pub memory : List ℕ
  pub csn : ℕ
  pub last_id : ℕ
  pub sized : length memory ≡ size

-- a fresh disk: zeros, commit numbers and ids from 1 on
abbrev pub fresh_opening : Form → ℕ → ℕ → Opening
fresh_opening form size capacity =
    record { form = form; size = size; capacity = capacity; memory = replicate size 0; csn = 0; last_id = 0; sized = length-replicate size 0 }

-- what recovery needs of a checkpoint image; csn: the last commit number on disk; last_id: the last id given, the opening's where none was since
pub record Image : Type 0 where
  pub txs : List Tx
  pub memory : List ℕ
  pub csn : ℕ
  pub last_id : ℕ

-- the form; the image in use, and every group stored whole since the opening: those stored before the image was, and those after it
pub record Disk : Type 0 where
  pub form : Form
  pub image : Image
  pub before : List Group
  pub after : List Group

-- "The groups of the log" are two things. History: every group stored whole since the opening. The ledger and the commit numbers go by it.
abbrev pub history_of : Disk → List Group
history_of d = d.before ++ d.after

-- What stands in the log: room, offsets and bytes go by it. First the part before the image's place. In form one the log is never wiped, so that
-- its whole history stands in it; what rests on that cites `form_one` (proofs/Log.antt). In form two a checkpoint goes on in an area that it has
-- cleared (document 02, A.9): "the image naming it with log end 0".
abbrev pub standing_if : Form → List Group → List Group
standing_if One gs = gs
standing_if Two gs = []

unfoldable pub standing_before : Disk → List Group
standing_before d = standing_if d.form d.before

-- from the log's first byte to its end
abbrev pub standing_in : Disk → List Group
standing_in d = standing_before d ++ d.after

-- The commit number that what stands in the log goes on from: the opening's in form one; in form two "numbers going on from its image" (A.9).
abbrev pub number_if : Form → ℕ → ℕ → ℕ
number_if One opening image = opening
number_if Two opening image = image

unfoldable pub number_before : Opening → Disk → ℕ
number_before o d = number_if d.form o.csn d.image.csn

-- csn: the last commit number on disk; last_id: the last id given
pub record Live : Type 0 where
  pub txs : List Tx
  pub memory : List ℕ
  pub tail : List Group
  pub csn : ℕ
  pub last_id : ℕ

-- down: nothing but the disk lasts, the state is unrecovered
pub data System : Type 0 where
  down : Disk → System
  up : Disk → Live → System

abbrev pub disk_of : System → Disk
disk_of (down d) = d
disk_of (up d l) = d

abbrev pub opening_disk : Opening → Disk
opening_disk o =
    record { form = o.form; image = record { txs = []; memory = o.memory; csn = o.csn; last_id = o.last_id }; before = []; after = [] }

-- r is what the list has under its id
abbrev pub Listed : Tx → List Tx → Type 0
Listed r txs = lookup r.id txs ≡ some r

-- Log room used = log end + tail length + for each running transaction its redo bytes + 8.
abbrev pub room_used : Disk → Live → ℕ
room_used d l = groups_size (standing_in d) + groups_size l.tail + reserved (running l.txs)

-- the last commit number assigned
abbrev pub last_assigned : Live → ℕ
last_assigned l = last_csn l.csn l.tail

-- Begin: gives the last id plus 1.
abbrev pub new_tx : ℕ → Tx
new_tx i = record { id = i; committing = false; csn = 0; undo = []; redo = []; savepoints = [] }

abbrev pub after_begin : Live → Live
after_begin l = record { txs = l.txs ++ (new_tx (suc l.last_id) ∷ []); memory = l.memory; tail = l.tail; csn = l.csn; last_id = suc l.last_id }

-- Write of r: adds an undo record with the old bytes and a redo record to the transaction's own lists, then changes memory.
abbrev pub with_write : Write → Write → Tx → Tx
with_write old new t =
    record {
      id = t.id;
      committing = t.committing;
      csn = t.csn;
      undo = t.undo ++ (old ∷ []);
      redo = t.redo ++ (new ∷ []);
      savepoints = t.savepoints;
    }

abbrev pub after_write : Tx → Write → Live → Live
after_write r w l =
    record {
      txs = edit r.id (with_write (old_bytes w l.memory) w) l.txs;
      memory = lay_bytes w l.memory;
      tail = l.tail;
      csn = l.csn;
      last_id = l.last_id;
    }

-- A savepoint of r set (document 02, A.7): the name, with how many writes stand.
abbrev pub with_savepoint : ℕ → Tx → Tx
with_savepoint name t =
    record {
      id = t.id;
      committing = t.committing;
      csn = t.csn;
      undo = t.undo;
      redo = t.redo;
      savepoints = set_name name (length t.redo) t.savepoints;
    }

abbrev pub after_savepoint : Tx → ℕ → Live → Live
after_savepoint r name l =
    record { txs = edit r.id (with_savepoint name) l.txs; memory = l.memory; tail = l.tail; csn = l.csn; last_id = l.last_id }

-- writes of r, one after the other; r is each time what the one before has made of it
abbrev pub after_writes : Tx → List Write → Live → Live
after_writes r [] l = l
after_writes r (w ∷ ws) l = after_writes (with_write (old_bytes w l.memory) w r) ws (after_write r w l)

-- Going back, to where n writes of r stood (document 02, A.7): writes the old bytes of every later one, newest first, as ordinary writes.
abbrev pub after_go_back : Tx → ℕ → Live → Live
after_go_back r n l = after_writes r (reverse (drop n r.undo)) l

-- Precommit of r: assigns the next commit number, appends the group to the tail, marks the transaction committing. Its redo list
-- is emptied, its undo list stays. Its savepoints end.
abbrev pub in_commit : ℕ → Tx → Tx
in_commit n t = record { id = t.id; committing = true; csn = n; undo = t.undo; redo = []; savepoints = [] }

abbrev pub after_precommit : Tx → Live → Live
after_precommit r l =
    let n : ℕ = suc (last_assigned l) in
    record {
      txs = edit r.id (in_commit n) l.txs;
      memory = l.memory;
      tail = l.tail ++ (committed r.id n r.redo ∷ []);
      csn = l.csn;
      last_id = l.last_id;
    }

-- Abort of r: undoes newest first, appends the abort record, drops the transaction.
abbrev pub after_abort : Tx → Live → Live
after_abort r l =
    record {
      txs = remove r.id l.txs;
      memory = undo_all lay_bytes r.undo l.memory;
      tail = l.tail ++ (aborted r.id ∷ []);
      csn = l.csn;
      last_id = l.last_id;
    }

-- groups of the tail stored at the log's end
abbrev pub storing : List Group → Disk → Disk
storing gs d = record { form = d.form; image = d.image; before = d.before; after = d.after ++ gs }

-- Flush k: stores the first k groups of the tail, or all if fewer; the commit number on disk becomes that of the last commit
-- stored, if any.
abbrev pub after_flush : ℕ → Live → Live
after_flush k l = record { txs = l.txs; memory = l.memory; tail = drop k l.tail; csn = last_csn l.csn (take k l.tail); last_id = l.last_id }

-- Settle of r: drops a committing transaction.
abbrev pub after_settle : Tx → Live → Live
after_settle r l = record { txs = remove r.id l.txs; memory = l.memory; tail = l.tail; csn = l.csn; last_id = l.last_id }

-- Checkpoint: the image is the live state, without redo records and savepoints, and the whole history is before it.
abbrev pub without_redo : Tx → Tx
without_redo t = record { id = t.id; committing = t.committing; csn = t.csn; undo = t.undo; redo = []; savepoints = [] }

abbrev pub after_checkpoint : Disk → Live → Disk
after_checkpoint d l =
    record {
      form = d.form;
      image = record { txs = map without_redo l.txs; memory = l.memory; csn = l.csn; last_id = l.last_id };
      before = history_of d;
      after = [];
    }

-- Restart: what it undoes, the memory it leaves, and the live state, up to the last id.
abbrev pub undone_by : Disk → List Tx
undone_by d = undone d.image.txs d.image.csn d.after

abbrev pub recovered : Disk → List ℕ
recovered d = recover lay_bytes d.image.txs d.image.csn d.after d.image.memory

abbrev pub after_restart : Disk → ℕ → Live
after_restart d last_id = record { txs = []; memory = recovered d; tail = aborts (undone_by d); csn = last_csn d.image.csn d.after; last_id = last_id }

-- One call: the system before, what the ledger is told, the system after. A premise is what keeps the call from being refused, so
-- far as recovery depends on it, with its number in document 01.
module _ (o : Opening) where
  pub data Step : System → Event → System → Type 0 where
    -- a refused call, a read or its sister
    stays : (s : System) → Step s unchanged s
    -- number 13
    begins : (d : Disk) (l : Live) → room_used d l + commit_len ≤ o.capacity → Step (up d l) (begun (suc l.last_id)) (up d (after_begin l))
    -- numbers 6, 7, 8, 9 and 13
    writes : (d : Disk) (l : Live) (r : Tx) (w : Write) → Listed r l.txs → r.committing ≡ false → w.addr + length w.bytes ≤ o.size
        → held_by_other r.id w l.txs ≡ false → room_used d l + (redo_len + length w.bytes) ≤ o.capacity
        → Step (up d l) (wrote r.id w) (up d (after_write r w l))
    -- numbers 6 and 7
    sets_savepoint : (d : Disk) (l : Live) (r : Tx) (name : ℕ) → Listed r l.txs → r.committing ≡ false
        → Step (up d l) (savepoint_set r.id name) (up d (after_savepoint r name l))
    -- Numbers 6, 7, 18 and 13, judged on the total. Nothing asks for numbers 8 and 9: the ranges are those of the transaction's own writes.
    goes_back : (d : Disk) (l : Live) (r : Tx) (name n : ℕ) → Listed r l.txs → r.committing ≡ false → count_at name r.savepoints ≡ some n
        → room_used d l + redo_size (drop n r.undo) ≤ o.capacity
        → Step (up d l) (went_back r.id name) (up d (after_go_back r n l))
    -- numbers 6 and 7
    precommits : (d : Disk) (l : Live) (r : Tx) → Listed r l.txs → r.committing ≡ false
        → Step (up d l) (precommitted r.id (suc (last_assigned l))) (up d (after_precommit r l))
    rolls_back : (d : Disk) (l : Live) (r : Tx) → Listed r l.txs → r.committing ≡ false → Step (up d l) (rolled_back r.id) (up d (after_abort r l))
    -- the groups need no more stores than are allowed; or they do, and those that were stored whole stand on disk
    flushes : (d : Disk) (l : Live) (k allowed : ℕ) → groups_size (take k l.tail) ≤ allowed
        → Step (up d l) (flushed k allowed) (up (storing (take k l.tail) d) (after_flush k l))
    flush_is_cut : (d : Disk) (l : Live) (k allowed : ℕ) → allowed < groups_size (take k l.tail)
        → Step (up d l) (cut (flushed k allowed)) (down (storing (fitting allowed (take k l.tail)) d))
    -- numbers 6 and 14
    settles : (d : Disk) (l : Live) (r : Tx) → Listed r l.txs → r.committing ≡ true → r.csn ≤ l.csn
        → Step (up d l) (settled r.id) (up d (after_settle r l))
    -- until its last store, the pointer byte, a checkpoint leaves the old image in use
    checkpoints : (d : Disk) (l : Live) → Step (up d l) unchanged (up (after_checkpoint d l) l)
    checkpoint_is_cut : (d : Disk) (l : Live) → Step (up d l) (cut unchanged) (down d)
    -- from any system: the current may fail between two calls. The last id is at least the image's, each id in the image and in the groups read.
    restarts : (s : System) (last_id : ℕ) → (disk_of s).image.last_id ≤ last_id → All (λ t. t.id ≤ last_id) (disk_of s).image.txs
        → All (λ g. group_id g ≤ last_id) (disk_of s).after
        → Step s (restarted (length (undone_by (disk_of s)))) (up (disk_of s) (after_restart (disk_of s) last_id))
    restart_is_cut : (s : System) → Step s (cut unchanged) (down (disk_of s))

  -- any list of calls, with the ledger that is fed them
  pub data Run : System → Ledger → Type 0 where
    opened : Run (down (opening_disk o)) (no_ledger o.memory)
    next : {s t : System} {k : Ledger} {e : Event} → Run s k → Step s e t → Run t (enter e k)
