-- Savepoints (document 02, A.7: marks) on demand 3's lists: what the undo records of a running transaction have (`UndoRecorded`), and what a return leaves
-- in memory (`ReturnsAsBefore`). That both hold: `undo_recorded`, `returns_as_before` (proofs/Savepoints.antt).
use Rattle.std.specs.Prelude.{ℕ, ◌≤◌, ◌<◌, Bool, true, false, cond, List, [], ◌∷◌, ◌≡◌, length, get_or, drop, eqb}
use Rattle.std.proofs.Math.Option.{Option, none, some}
use Rattle.layout.specs.{status_running}
use Rattle.recovery.specs.Group.{Write}
use Rattle.recovery.specs.Lists.{any}
use Rattle.recovery.specs.Savepoint.{count_at}
use Rattle.recovery.specs.Replay.{olds_of}
use Rattle.recovery.specs.Ledger.{OpenTx, Ledger, committed_memory}
use Rattle.transaction.specs.declared.Tx.{Tx}
use Rattle.transaction.specs.View.{range_of, writes_of, savepoints_of}
use Rattle.transaction.specs.Rules.{has_byte}
use Rattle.store.specs.Answer as words
use Rattle.store.specs.State.{tx_at}
use Rattle.history.specs.Calls.{Call, write, go_back, told, step_of}
use Rattle.history.specs.Demand.{Happening, called, Watched, happen, happen_all, opening}

-- the ledger's open transaction of an id
abbrev pub open_at : ℕ → List OpenTx → Option OpenTx
open_at i [] = none
open_at i (s ∷ ss) = cond (eqb i s.id) (some s) (open_at i ss)

-- ---- undo records

-- of a running transaction, against the ledger
pub record TxRecorded (k : Ledger) (t : Tx) : Type 0 where
  -- its redo records are its writes there, and its savepoints those there
  pub noted : open_at t.id.0 k.active ≡ some (record { id = t.id.0; writes = writes_of t.redo; savepoints = savepoints_of t })
  -- record by record: an undo record has the bytes that the opening memory, the durable ones, the queue and its own earlier writes leave on the range
  pub undo : writes_of t.undo ≡ olds_of (committed_memory k) (writes_of t.redo)

-- whatever happens to a store that opens with an all-zero disk
abbrev pub UndoRecorded : Type 0
UndoRecorded = (memory tail : List ℕ) → length memory ≡ 4096 → length tail ≡ 16384 → (hs : List Happening) (i : ℕ)
    → i < (happen_all hs (opening memory tail)).world.state.count → (tx_at (happen_all hs (opening memory tail)).world.state i).status ≡ status_running
    → TxRecorded (happen_all hs (opening memory tail)).ledger (tx_at (happen_all hs (opening memory tail)).world.state i)

-- ---- returns

abbrev pub writes_byte : ℕ → Write → Bool
writes_byte a w = has_byte a (range_of w)

-- the calls by which a transaction writes: a return's writes are writes like any other
pub data Writing (id : ℕ) : Call → Type 0 where
  by_write : (addr : ℕ) (bytes : List ℕ) → Writing id (write id addr bytes)
  by_return : (name : ℕ) → Writing id (go_back id name)

-- such a call that is done, the first with which the transaction has the byte a among its writes after the first n
pub record FirstSince (n a id : ℕ) (c : Call) (k : Watched) : Type 0 where
  pub writing : Writing id c
  pub done : (step_of c k.world).reply ≡ told words.done 0 0
  pub tx : OpenTx
  pub found : open_at id k.ledger.active ≡ some tx
  pub stood : n ≤ length tx.writes
  pub first : any (writes_byte a) (drop n tx.writes) ≡ false
  pub next : OpenTx
  pub left : open_at id (happen (called c) k).ledger.active ≡ some next
  pub over : any (writes_byte a) (drop n next.writes) ≡ true

-- the transaction stays open: after each of these happenings the ledger has it still
abbrev pub StaysOpen : ℕ → List Happening → Watched → Type 0
StaysOpen id [] k = Unit {0}
StaysOpen id (h ∷ hs) k = ((tx : OpenTx) × (open_at id (happen h k).ledger.active ≡ some tx)) × StaysOpen id hs (happen h k)

-- a return that is done, to a name that was set when n writes stood
pub record ReturnsTo (n id name : ℕ) (k : Watched) : Type 0 where
  pub done : (step_of (go_back id name) k.world).reply ≡ told words.done 0 0
  pub tx : OpenTx
  pub found : open_at id k.ledger.active ≡ some tx
  pub set : count_at name tx.savepoints ≡ some n

-- "Afterwards each byte it wrote since the mark reads as just before the first such write", whatever else happens in between
abbrev pub ReturnsAsBefore : Type 0
ReturnsAsBefore = (memory tail : List ℕ) → length memory ≡ 4096 → length tail ≡ 16384 → (before between : List Happening) (c : Call) (id name n a : ℕ)
    → let first : Watched = happen_all before (opening memory tail) in
    let after : Watched = happen (called c) first in
    let last : Watched = happen_all between after in
    FirstSince n a id c first → StaysOpen id between after → ReturnsTo n id name last
    → get_or (step_of (go_back id name) last.world).world.memory a 0 ≡ get_or first.world.memory a 0
