-- What no call tells apart. Three things in a state may differ from one correct program to another: the slots past a count (of transactions, records,
-- read ranges, savepoints), the bytes past a record's length, and the redo records of a transaction that isn't running. All else is shown. States that show the same (`ShowsSame`) are answered
-- alike by every call that takes a state, for every input, and show the same afterwards (`AnsweredAlike`): proofs/SameStored, `answered_alike`, of
-- states whose arrays have their lengths, as every value of the struct has.
use Rattle.std.specs.Prelude.{ℕ, ◌<◌, List, ◌≡◌}
use Rattle.layout.specs.{status_running}
use Rattle.redolog.specs.declared.TxId.{TxId}
use Rattle.transaction.specs.declared.ranges.Ranges.{Ranges}
use Rattle.transaction.specs.declared.records.Records.{Records}
use Rattle.transaction.specs.declared.Tx.{Tx}
use Rattle.transaction.specs.declared.savepoints.Savepoints.{Savepoints}
use Rattle.transaction.specs.View.{ranges_of, savepoints_in, writes_of}
use Rattle.store.specs.declared.State.{State}
use Rattle.store.specs.State.{tx_at}
use Rattle.store.specs.Answer.{Told}
use Rattle.store.specs.Calls.{Outcome, begin_of, write_of, read_of, read_answer_of, savepoint_of, go_back_of, precommit_of, abort_of, settle_of}
use Rattle.store.specs.Stored.{DiskOutcome}
use Rattle.store.specs.Flush.{flush_of}
use Rattle.store.specs.Checkpoint.{checkpoint_of}

-- as many ranges, and the same
pub record SameRanges (r q : Ranges) : Type 0 where
  pub count : r.count ≡ q.count
  pub ranges : ranges_of r ≡ ranges_of q

-- as many records, of the same ranges, with the same bytes
pub record SameRecords (r q : Records) : Type 0 where
  pub count : r.ranges.count ≡ q.ranges.count
  pub ranges : ranges_of r.ranges ≡ ranges_of q.ranges
  pub writes : writes_of r ≡ writes_of q

-- as many savepoints, and the same, in order
pub record SameSavepoints (p q : Savepoints) : Type 0 where
  pub count : p.count ≡ q.count
  pub savepoints : savepoints_in p ≡ savepoints_in q

pub record SameTx (t u : Tx) : Type 0 where
  pub id : t.id.0 ≡ u.id.0
  pub status : t.status ≡ u.status
  pub csn : t.csn.0 ≡ u.csn.0
  pub undo : SameRecords t.undo u.undo
  pub redo : t.status ≡ status_running → SameRecords t.redo u.redo
  pub reads : SameRanges t.extras.reads u.extras.reads
  pub savepoints : SameSavepoints t.extras.savepoints u.extras.savepoints

pub record ShowsSame (s r : State) : Type 0 where
  pub recovered : s.recovered ≡ r.recovered
  pub logend : s.logend ≡ r.logend
  pub ondisk : s.ondisk.0 ≡ r.ondisk.0
  pub assigned : s.assigned.0 ≡ r.assigned.0
  pub lastid : s.lastid.0 ≡ r.lastid.0
  pub count : s.count ≡ r.count
  pub listed : (i : ℕ) → i < s.count → SameTx (tx_at s i) (tx_at r i)

-- ---- what calls leave alike

pub record SameTold (x y : Told) : Type 0 where
  pub says : x.says ≡ y.says
  pub value : x.value ≡ y.value
  pub stores : x.stores ≡ y.stores
  pub state : ShowsSame x.state y.state

pub record SameOutcome (x y : Outcome) : Type 0 where
  pub result : SameTold x.result y.result
  pub memory : x.memory ≡ y.memory
  pub tail : x.tail ≡ y.tail

pub record SameDiskOutcome (x y : DiskOutcome) : Type 0 where
  pub result : SameTold x.result y.result
  pub disk : x.disk ≡ y.disk
  pub memory : x.memory ≡ y.memory
  pub tail : x.tail ≡ y.tail

-- the common property: whatever is lent and asked, refusals too (restart takes no state)
pub record AnsweredAlike (s r : State) : Type 0 where
  pub begin : (m t : List ℕ) → SameTold (begin_of s m t) (begin_of r m t)
  pub write : (m t : List ℕ) (id : TxId) (a : ℕ) (bs : List ℕ) → SameOutcome (write_of s m t id a bs) (write_of r m t id a bs)
  pub read : (m t : List ℕ) (id : TxId) (a n : ℕ) → read_of s m t id a n ≡ read_of r m t id a n
  pub read_answer : (m t : List ℕ) (id : TxId) (a n : ℕ) → SameTold (read_answer_of s m t id a n) (read_answer_of r m t id a n)
  pub savepoint : (m t : List ℕ) (id : TxId) (name : ℕ) → SameTold (savepoint_of s m t id name) (savepoint_of r m t id name)
  pub go_back : (m t : List ℕ) (id : TxId) (name : ℕ) → SameOutcome (go_back_of s m t id name) (go_back_of r m t id name)
  pub precommit : (m t : List ℕ) (id : TxId) → SameOutcome (precommit_of s m t id) (precommit_of r m t id)
  pub abort : (m t : List ℕ) (id : TxId) → SameOutcome (abort_of s m t id) (abort_of r m t id)
  pub settle : (m t : List ℕ) (id : TxId) → SameTold (settle_of s m t id) (settle_of r m t id)
  pub flush : (d m t : List ℕ) (k allowed : ℕ) → SameDiskOutcome (flush_of s d m t k allowed) (flush_of r d m t k allowed)
  pub checkpoint : (d m t : List ℕ) (allowed : ℕ) → SameDiskOutcome (checkpoint_of s d m t allowed) (checkpoint_of r d m t allowed)
