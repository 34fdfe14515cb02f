-- What is seen in the flat arrays: ranges and outlines for the rules, writes and recovery's transactions for the meaning.
use Rattle.std.specs.Prelude.{ℕ, List, [], ◌++◌, length, get_or, eqb}
use Rattle.layout.specs.{status_committing}
use Rattle.recovery.specs.Group.{Write}
use Rattle.recovery.specs.Savepoint.{Savepoint}
use Rattle.recovery.specs.Transaction.{Tx as Transaction}
use Rattle.redolog.specs.Flat.{writes_from}
use Rattle.transaction.specs.declared.ranges.Ranges.{Ranges}
use Rattle.transaction.specs.declared.records.Records.{Records}
use Rattle.transaction.specs.declared.savepoints.Savepoints.{Savepoints}
use Rattle.transaction.specs.declared.Tx.{Tx}
use Rattle.transaction.specs.declared.TxExtents.{TxExtents}
use Rattle.transaction.specs.Lists.{up_from}

-- an address and a length, as they stand in the arrays: a length that breaks the rule stays visible
pub data Range : Type 0 where
  range : ℕ → ℕ → Range

abbrev pub range_at : Ranges → ℕ → Range
range_at r i = range (get_or r.addr i 0) (get_or r.len i 0)

abbrev pub ranges_of : Ranges → List Range
ranges_of r = up_from (range_at r) r.count 0

-- the ranges that a transaction has read, as its calls of read's sister gave them; those that it has written; both
abbrev pub reads_of : Tx → List Range
reads_of t = ranges_of t.extras.reads

abbrev pub written_by : Tx → List Range
written_by t = ranges_of t.undo.ranges

abbrev pub used_by : Tx → List Range
used_by t = written_by t ++ reads_of t

-- savepoints in the order of their places: a name with how many writes stood, as they stand in the arrays
abbrev pub savepoint_at : Savepoints → ℕ → Savepoint
savepoint_at p i = record { name = get_or p.names i 0; count = get_or p.counts i 0 }

abbrev pub savepoints_in : Savepoints → List Savepoint
savepoints_in p = up_from (savepoint_at p) p.count 0

abbrev pub savepoints_of : Tx → List Savepoint
savepoints_of t = savepoints_in t.extras.savepoints

abbrev pub writes_of : Records → List Write
writes_of r = writes_from r.ranges.addr r.ranges.len r.bytes r.ranges.count 0

-- a write's range
abbrev pub range_of : Write → Range
range_of w = range w.addr (length w.bytes)

-- what the image rules look at in a transaction: id, status, commit number, ranges of its undo records
pub data Outline : Type 0 where
  outline : ℕ → ℕ → ℕ → List Range → Outline

abbrev pub outline_of : Tx → Outline
outline_of t = outline t.id.0 t.status t.csn.0 (ranges_of t.undo.ranges)

-- the transaction as recovery has it
abbrev pub view_of : Tx → Transaction
view_of t =
    record {
      id = t.id.0;
      committing = eqb t.status status_committing;
      csn = t.csn.0;
      undo = writes_of t.undo;
      redo = writes_of t.redo;
      savepoints = savepoints_of t;
    }

-- ---- without the bytes: what the rules look at

abbrev pub extents_of : Tx → TxExtents
extents_of t = record { id = t.id; status = t.status; csn = t.csn; undo = t.undo.ranges; redo = t.redo.ranges; extras = t.extras }

-- the transaction of these extents whose records have no bytes
abbrev pub bare_tx : TxExtents → Tx
bare_tx e =
    record {
      id = e.id;
      status = e.status;
      csn = e.csn;
      undo = record { ranges = e.undo; bytes = [] };
      redo = record { ranges = e.redo; bytes = [] };
      extras = e.extras;
    }
