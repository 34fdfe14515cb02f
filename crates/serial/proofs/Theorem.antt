-- Document 02, A.4, on the abstract store: after any list of calls, refused, cut or done, with reads among them, what is durable read what the order says.
use mathlib.Core.Path.{refl}
use mathlib.Core.List.{[], append-nil}
use lib.ListN.{length}
use Rattle.recovery.specs.Lists.{All, nil}
use Rattle.recovery.specs.Ledger.{Event}
use Rattle.recovery.specs.Machine.{Opening, System, down, up, disk_of, undone_by, Step, stays, begins, writes, sets_savepoint, goes_back, precommits, rolls_back, flushes, flush_is_cut, settles, checkpoints}
use Rattle.recovery.specs.Machine.{checkpoint_is_cut, restarts, restart_is_cut}
use Rattle.recovery.proofs.Lists.{all_map}
use Rattle.recovery.proofs.Invariant.{Inv}
use Rattle.recovery.proofs.Theorem as machine
use Rattle.serial.specs.Ledger.{LedgerWithReads, without_reads, note_flushed, note, Fed, feed}
use Rattle.serial.specs.Claim.{AsOrdered, Serial}
use Rattle.serial.proofs.Ordered.{sees_ordered, InOrder, order_serial}
use Rattle.serial.proofs.Run.{Unread, ReadStep, steps, reads, ReadRun, opened, next, plain_run}
use Rattle.serial.proofs.Assigned.{assigned_in}
use Rattle.serial.proofs.Invariant.{Reading, AtRest, durable_order, cut_resting, begun_reading, wrote_reading, savepoint_set_reading}
use Rattle.serial.proofs.Invariant.{went_back_reading, precommitted_reading, rolled_back_reading, flushed_reading, settled_reading, restarted_reading}
use Rattle.serial.proofs.Seeing.{read_reading}

module _ (o : Opening) where
  abbrev pub ReadInv : System → LedgerWithReads → Type 0
  ReadInv (down d) k = AtRest o.memory k
  ReadInv (up d l) k = Reading o.memory k

  -- whatever the system is, what is durable is in order
  durables : (s : System) (k : LedgerWithReads) → ReadInv s k → InOrder o.memory [] k.durable
  durables (down d) k v = v.order
  durables (up d l) k v = durable_order o.memory k v

  -- the machine's own steps
  keeps : (s t : System) (e : Event) (k : LedgerWithReads) → Step o s e t → Unread e k.active → ReadInv s k → ReadInv t (note e k)
  keeps s t e k (stays s') c v = v
  keeps s t e k (begins d l room) c v = begun_reading o.memory k v _
  keeps s t e k (writes d l r w listed run within free room) c v = wrote_reading o.memory k v r.id w c
  keeps s t e k (sets_savepoint d l r name listed run) c v = savepoint_set_reading o.memory k v r.id name
  keeps s t e k (goes_back d l r name n listed run set room) c v = went_back_reading o.memory k v r.id name
  keeps s t e k (precommits d l r listed run) c v = precommitted_reading o.memory k v r.id _
  keeps s t e k (rolls_back d l r listed run) c v = rolled_back_reading o.memory k v r.id
  keeps s t e k (flushes d l q allowed enough) c v = flushed_reading o.memory k v q allowed
  keeps s t e k (flush_is_cut d l q allowed few) c v = cut_resting o.memory (note_flushed q allowed k) (flushed_reading o.memory k v q allowed)
  keeps s t e k (settles d l r listed committing on_disk_lem) c v = settled_reading o.memory k v r.id
  keeps s t e k (checkpoints d l) c v = v
  keeps s t e k (checkpoint_is_cut d l) c v = cut_resting o.memory k v
  keeps s t e k (restarts s' last_id image_last image-ids group-ids) c v = restarted_reading o.memory k (length (undone_by (disk_of s'))) (durables s' k v)
  keeps s t e k (restart_is_cut s') c v = record { order = durables s' k v; none_open = refl; none_queued = refl }

  pub read_keeps : {s t : System} {k : LedgerWithReads} {f : Fed} → ReadStep o s k f t → Inv o s (without_reads k) → ReadInv s k → ReadInv t (feed f k)
  read_keeps {s} {t} {k} (steps {e} p c) u v = keeps s t e k p c v
  read_keeps {k} (reads d l r addr bytes listed run within free handed) u v = read_reading o d l k r addr bytes listed run within free handed u v

  pub read_holds : {s : System} {k : LedgerWithReads} → ReadRun o s k → ReadInv s k
  read_holds opened = record { order = tt; none_open = refl; none_queued = refl }
  read_holds (next {s} {t} {k} {f} r p) = read_keeps p (machine.holds o (plain_run o r)) (read_holds r)

  pub read_theorem : {s : System} {k : LedgerWithReads} → ReadRun o s k → Serial o.memory k.durable
  read_theorem {s} {k} r = order_serial o.memory k.durable (durables s k (read_holds r))

  -- Document 02 speaks of those that are durable. Those still queued stand in the same order after them, and what an open one has read is what all these and
  -- its own writes leave: nothing here says that they will be durable.
  pub record SoFar (k : LedgerWithReads) : Type 0 where
    pub queued : Serial o.memory (assigned_in k)
    pub active : All (λ s. All (AsOrdered o.memory (assigned_in k) s.tx.writes) s.reads) k.active

  so_far_up : (k : LedgerWithReads) → Reading o.memory k → SoFar k
  so_far_up k v = record {
    queued = order_serial o.memory (assigned_in k) v.order;
    active = all_map (λ s h. all_map (λ r x. sees_ordered x) h) v.active;
  }

  so_far_down : (k : LedgerWithReads) → AtRest o.memory k → SoFar k
  so_far_down k v = record {
    queued = order_serial o.memory (assigned_in k) (rw (v.none_queued, append-nil) v.order);
    active = rw v.none_open nil;
  }

  pub read_so_far : {s : System} {k : LedgerWithReads} → ReadRun o s k → SoFar k
  read_so_far {s} {k} r = go s (read_holds r)
    where
      go : (s' : System) → ReadInv s' k → SoFar k
      go (down d) v = so_far_down k v
      go (up d l) v = so_far_up k v
