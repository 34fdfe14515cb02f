-- What begin, write, read's sister, setting a savepoint, going back and precommit make of one transaction, in every field and place of its arrays.
use Rattle.std.specs.Prelude.{ℕ, ◌+◌, ◌*◌, cond, List, [], ◌∷◌, reverse, length, take, drop, set, eqb}
use Rattle.std.proofs.lemmas.List.Edits.{sets}
use Rattle.layout.specs.{max_write, status_running, status_committing}
use Rattle.recovery.specs.Group.{Write}
use Rattle.recovery.specs.Replay.{lay_bytes}
use Rattle.redolog.specs.declared.TxId.{TxId}
use Rattle.redolog.specs.declared.Csn.{Csn}
use Rattle.transaction.specs.declared.ranges.Ranges.{Ranges}
use Rattle.transaction.specs.declared.records.Records.{Records}
use Rattle.transaction.specs.declared.savepoints.Savepoints.{Savepoints}
use Rattle.transaction.specs.declared.Extras.{Extras}
use Rattle.transaction.specs.declared.Tx.{Tx}
use Rattle.transaction.specs.Flat.{empty_records, empty_extras}
use Rattle.transaction.specs.View.{writes_of}
use Rattle.transaction.specs.Rules.{place_of, stood_at}

-- one range more
abbrev pub pushed_range : Ranges → ℕ → ℕ → Ranges
pushed_range r a n = record { count = r.count + 1; addr = set r.addr r.count a; len = set r.len r.count n }

-- one record more; what stood past its bytes stays
unfoldable pub pushed : Records → ℕ → List ℕ → Records
pushed r a bs = record { ranges = pushed_range r.ranges a (length bs); bytes = sets r.bytes (r.ranges.count * max_write) bs }

unfoldable pub fresh_tx : TxId → Tx
fresh_tx id = record { id = id; status = status_running; csn = record { 0 = 0 }; undo = empty_records; redo = empty_records; extras = empty_extras }

-- Write: "adds an undo record with the old bytes and a redo record"
unfoldable pub written : Tx → ℕ → List ℕ → List ℕ → Tx
written t a old new =
    record { id = t.id; status = t.status; csn = t.csn; undo = pushed t.undo a old; redo = pushed t.redo a new; extras = t.extras }

-- antt has no record update: the transaction with these extras
abbrev pub with_extras : Tx → Extras → Tx
with_extras t x = record { id = t.id; status = t.status; csn = t.csn; undo = t.undo; redo = t.redo; extras = x }

-- Read's sister: "Each accepted sister call adds a range to the state" (document 02, A.2), last, also if it is there already
unfoldable pub with_read : Tx → ℕ → ℕ → Tx
with_read t a n = with_extras t (record { reads = pushed_range t.extras.reads a n; savepoints = t.extras.savepoints })

-- A savepoint set (document 02, A.7): a name, with how many writes stood. "setting a name again moves it", in its place; a name that is not set goes last.
abbrev pub name_set : Savepoints → ℕ → ℕ → Savepoints
name_set p name n =
    record {
      count = cond (eqb (place_of p name) p.count) (p.count + 1) p.count;
      names = set p.names (place_of p name) name;
      counts = set p.counts (place_of p name) n;
    }

unfoldable pub savepointed : Tx → ℕ → Tx
savepointed t name = with_extras t (record { reads = t.extras.reads; savepoints = name_set t.extras.savepoints name t.undo.ranges.count })

-- writes one after the other, each over what those before it leave of memory
abbrev pub written_all : Tx → List ℕ → List Write → Tx
written_all t m [] = t
written_all t m (w ∷ ws) = written_all (written t w.addr (take (length w.bytes) (drop w.addr m)) w.bytes) (lay_bytes w m) ws

-- Going back: "the old bytes of every later write, newest first", which are written "as ordinary writes"
abbrev pub return_writes : Tx → ℕ → List Write
return_writes t name = reverse (drop (stood_at name t) (writes_of t.undo))

unfoldable pub gone_back : Tx → List ℕ → ℕ → Tx
gone_back t m name = written_all t m (return_writes t name)

-- Precommit: "marks the transaction committing. Its redo list is emptied, its undo list stays. Its holds end": of its extras nothing stays
unfoldable pub precommitted : Tx → Csn → Tx
precommitted t n = record { id = t.id; status = status_committing; csn = n; undo = t.undo; redo = empty_records; extras = empty_extras }
