-- Demand 3 on the abstract store: after any list of calls, refused, cut or done, the claim holds of disk and ledger. A call added later
-- adds a constructor of Step, a lemma like those below and a line of `keeps`.
use mathlib.Core.Path.{◌≡◌, refl, sym, ap, ◌∙◌, subst}
use mathlib.Core.Logic.{◌≢◌}
use mathlib.Core.Bool.{true, false}
use mathlib.Core.Option.{none, some}
use mathlib.Core.List.{List, [], ◌++◌, reverse}
use Prim.Native.Nat.{ℕ, ◌≤◌, ◌<◌}
use native.Mathlib.Omega.{arith}
use lib.ListN.{length, get_or, take, drop}
use lib.Seq.{take-nil}
use Rattle.recovery.specs.Group.{Write, Group, groups_size}
use Rattle.recovery.specs.Lists.{All, nil}
use Rattle.recovery.specs.Transaction.{Tx, running}
use Rattle.recovery.specs.Savepoint.{count_at}
use Rattle.recovery.specs.Replay.{redo_all, lay_bytes, olds_of}
use Rattle.recovery.specs.Restart.{undo_order}
use Rattle.recovery.specs.Ledger.{Event, Commit, Ledger, no_ledger, committed_in, lay_commits, committed_memory, taken_back, enter_went_back, enter}
use Rattle.recovery.specs.Machine.{Opening, Disk, history_of, standing_before, standing_in, Live, System, down, up, disk_of, opening_disk, Listed, Step, stays, begins}
use Rattle.recovery.specs.Machine.{writes, sets_savepoint, goes_back, precommits, rolls_back, flushes, flush_is_cut, settles, checkpoints, checkpoint_is_cut, restarts, restart_is_cut, Run, opened, next}
use Rattle.recovery.specs.Machine.{after_go_back}
use Rattle.recovery.specs.Claim.{commits, Claim}
use Rattle.recovery.proofs.Lists.{all_map, prefix_whole}
use Rattle.recovery.proofs.Distinct.{empty}
use Rattle.recovery.proofs.Groups.{groups_size_append, replay_append}
use Rattle.recovery.proofs.Byte.{oldest, newest, lay_byte, by_bytes}
use Rattle.recovery.proofs.Numbers.{consecutive_nil, consecutive_numbered}
use Rattle.recovery.proofs.Log.{form_one, standing_last, opening_stands}
use Rattle.recovery.proofs.Room.{Roomy}
use Rattle.recovery.proofs.Ledger.{Settles, commits_append, replay_commits}
use Rattle.recovery.proofs.Invariant.{Down, Inv, ImageAt, base_at, base_length, recorded, crash, down_emptied}
use Rattle.recovery.proofs.BeginStep.{begin_keeps}
use Rattle.recovery.proofs.WriteStep.{write_keeps}
use Rattle.recovery.proofs.SavepointStep.{savepoint_keeps}
use Rattle.recovery.proofs.GoBackStep.{enter_writes, ledger_memory, held_alone, taken_back_lem, went_back_lem, go_back_keeps}
use Rattle.recovery.proofs.Returns.{return_cancels, return_reads, return_leaves}
use Rattle.recovery.proofs.EndSteps.{precommit_keeps, abort_keeps}
use Rattle.recovery.proofs.FlushStep.{flush_keeps, cut_flush_keeps}
use Rattle.recovery.proofs.SettleStep.{settle_finds, settle_keeps}
use Rattle.recovery.proofs.CheckpointStep.{checkpoint_keeps}
use Rattle.recovery.proofs.RestartStep.{restart_keeps}

module _ (o : Opening) where
  -- the disk alone
  pub lasts : (s : System) (k : Ledger) → Inv o s k → Down o (disk_of s) k
  lasts (down d) k v = v
  lasts (up d l) k v = crash o d l k v

  -- each call keeps the invariant
  pub keeps : (s t : System) (e : Event) (k : Ledger) → Step o s e t → Inv o s k → Inv o t (enter e k)
  keeps s t e k (stays s') v = v
  keeps s t e k (begins d l room) v = begin_keeps o d l k room v
  keeps s t e k (writes d l r w listed run within free room) v = write_keeps o d l k r w listed run v within free room
  keeps s t e k (sets_savepoint d l r name listed run) v = savepoint_keeps o d l k r name listed run v
  keeps s t e k (goes_back d l r name n listed run set room) v = go_back_keeps o d l k v r listed run name n set room
  keeps s t e k (precommits d l r listed run) v = precommit_keeps o d l k r listed run v
  keeps s t e k (rolls_back d l r listed run) v = abort_keeps o d l k r listed run v
  keeps s t e k (flushes d l q allowed enough) v = flush_keeps o d l k q allowed v enough
  keeps s t e k (flush_is_cut d l q allowed few) v = cut_flush_keeps o d l k q allowed v
  keeps s t e k (settles d l r listed committing on_disk_lem) v = settle_keeps o d l k r listed committing on_disk_lem v
  keeps s t e k (checkpoints d l) v = checkpoint_keeps o d l k v
  keeps s t e k (checkpoint_is_cut d l) v = down_emptied o d k (crash o d l k v)
  keeps s t e k (restarts s' last_id image_last image-ids group-ids) v = restart_keeps o (disk_of s') k last_id image-ids group-ids (lasts s' k v)
  keeps s t e k (restart_is_cut s') v = down_emptied o (disk_of s') k (lasts s' k v)

  start : Down o (opening_disk o) (no_ledger o.memory)
  unfolding undo_order base_at
  start = record {
    image_distinct = empty;
    image_length = o.sized;
    bytes = λ a h q. subst (λ (gs : List Group). ImageAt o (opening_disk o) a gs) (sym (take-nil q)) refl;
    fits = λ q. subst (λ (gs : List Group). Roomy o (opening_disk o) gs) (sym (take-nil q)) (omega (arith, ap groups_size (opening_stands o)));
    numbers = record { history = consecutive_nil; image = refl };
    durable = refl;
    assigned = ([], refl);
    settled = nil;
    opening = refl;
  }

  pub holds : {s : System} {k : Ledger} → Run o s k → Inv o s k
  holds opened = start
  holds (next {s} {t} {k} {e} r p) = keeps s t e k p (holds r)

  pub claimed : (d : Disk) (k : Ledger) → Down o d k → Claim o d k
  unfolding base_at
  claimed d k w = record {
    restores =
        by_bytes o.size d.image.txs d.image.csn d.after (history_of d) d.image.memory o.memory w.image_length o.sized
        (λ a h. prefix_whole (ImageAt o d a) d.after (w.bytes a h) ∙ sym (replay_append (lay_byte a) d.before d.after (get_or o.memory a 0)))
        ∙ (replay_commits (history_of d) o.memory ∙ ap (λ (cs : List Commit). lay_commits cs o.memory) (sym w.durable));
    logged = λ e. ap (λ (gs : List Group). commits (gs ++ d.after)) (form_one d e) ∙ sym w.durable;
    standing = let (gone, whole) = standing_last d in (commits gone, w.durable ∙ ap commits whole ∙ commits_append gone (standing_in d));
    numbered = rw w.durable (consecutive_numbered w.numbers.history);
    first = (w.assigned.0, rw w.durable w.assigned.1);
    settled = w.settled;
    fits = rw (groups_size_append (standing_before d) d.after) (prefix_whole (Roomy o d) d.after w.fits);
  }

  -- The theorem. It is Theorem 4.1 of the 1993 paper, for physical logging, with restarts, cuts and the ledger added. The cases of the
  -- paper's proof (section 4) are here:
  -- (a) what did not commit is undone, and in the right order
  --   Abort finished before the checkpoint: such a transaction is not listed any more, and memory has its old bytes (LiveByte.abort_byte).
  --   Abort finished after the checkpoint: the image's undo records are carried out where the abort is read (GrowthLaw.growth_abort); where
  --     an earlier restart aborted it, its record repeats what that restart did (AbortLaw.abort_law).
  --   Did not precommit: it is running, or was when the current failed (Follows.runnings); no two hold the same byte (LiveByte.RunningAt,
  --     undo_running).
  --   Precommitted but did not commit: the late ones, undone last first after the running ones (TailFit.undone_late, CheckpointLaw.undo_back
  --     and undo_stay).
  -- (b) what committed is not undone
  --   Commit before the checkpoint: its number is not above the one on disk (TailFit.Fit.sorted, Follows.committings).
  --   Commit after the checkpoint: its id is finished (Follows.committings, GrowthLaw.growth_commit).
  -- Redo in commit order: numbers go on one by one (Numbers), and redoing what the image has already is harmless (CheckpointLaw.undo_both).
  pub theorem : {s : System} {k : Ledger} → Run o s k → Claim o (disk_of s) k
  theorem {s} {k} r = claimed (disk_of s) k (lasts s k (holds r))

  -- at a settle the latest of the id, durable or queued, is the transaction's own commit, and is durable
  pub settled_found : (d : Disk) (l : Live) (k : Ledger) (r : Tx) → Run o (up d l) k → Listed r l.txs → r.committing ≡ true → r.csn ≤ l.csn
      → Settles r k.durable (committed_in k.queue)
  settled_found d l k r run listed committing on_disk_lem = settle_finds o d l k r listed committing on_disk_lem (holds run)

  -- ---- undo records and returns (document 02, A.7), on any list of calls

  module _ (d : Disk) (l : Live) (k : Ledger) (run : Run o (up d l) k) where
    -- Record by record: an undo record of a running transaction has the bytes that the opening memory, the durable ones, the queue and its own
    -- earlier writes leave on the range.
    pub undo_recorded : All (λ r. r.undo ≡ olds_of (committed_memory k) r.redo) (running l.txs)
    undo_recorded =
        all_map (λ r x. x.olds ∙ ap (λ (m : List ℕ). olds_of m r.redo) (sym (ledger_memory o d l k (holds run)))) (holds run).records

    module _ (r : Tx) (listed : Listed r l.txs) (runs : r.committing ≡ false) (n : ℕ) where
      -- the writes that the ledger computes for a return are those that the store makes
      pub return_agrees : taken_back (committed_memory k) (some n) r.redo ≡ reverse (drop n r.undo)
      return_agrees = taken_back_lem o d l k (holds run) r listed runs n

      -- To the ledger a return is its writes one by one, as it is to the store (`after_go_back`).
      pub return_as_writes : (name : ℕ) → count_at name r.savepoints ≡ some n → enter_went_back r.id name k ≡ enter_writes r.id (reverse (drop n r.undo)) k
      return_as_writes name set = went_back_lem o d l k (holds run) r listed runs name n set

      -- number 9 never keeps them away, so far as it goes by what others have written: where r has a record over a byte, no other running transaction has one
      pub return_free : (a : ℕ) → a < o.size → oldest a r.undo ≢ none → All (λ t. t.id ≢ r.id → oldest a t.undo ≡ none) (running l.txs)
      return_free = held_alone o d l k (holds run) r listed runs

      -- what r has to commit then leaves what its first n writes leave: the writes taken back survive in no commit
      pub return_lost : redo_all lay_bytes (r.redo ++ reverse (drop n r.undo)) (committed_memory k) ≡ redo_all lay_bytes (take n r.redo) (committed_memory k)
      return_lost =
          let long : length (committed_memory k) ≡ o.size = ap length (ledger_memory o d l k (holds run)) ∙ base_length o d l in
          ap (λ (ws : List Write). redo_all lay_bytes (r.redo ++ ws) (committed_memory k)) (sym return_agrees)
          ∙ return_cancels o.size n r.redo (committed_memory k) long (recorded o d l k (holds run) r listed runs).within

      -- after it a byte written since reads as the commits and the first n writes leave it; any other stays
      pub return_restores : (a : ℕ) → a < o.size
          → (newest a (drop n r.redo) ≢ none
          → get_or (after_go_back r n l).memory a 0 ≡ get_or (redo_all lay_bytes (take n r.redo) (committed_memory k)) a 0)
          × (newest a (drop n r.redo) ≡ none → get_or (after_go_back r n l).memory a 0 ≡ get_or l.memory a 0)
      return_restores a h = (return_reads o d l k (holds run) r listed runs n a h, return_leaves o d l k (holds run) r listed runs n a h)
