-- Ids go on above the opening's last: every group of the history has an id above it.
use mathlib.Core.Path.{◌≡◌, refl, sym, subst}
use mathlib.Core.List.{List, [], ◌∷◌, ◌++◌, append_assoc, append-nil, reverse}
use Prim.Native.Nat.{ℕ, suc, ◌≤◌, ◌<◌}
use native.Mathlib.Omega.{arith}
use lib.ListN.{length, take, drop, take-append-drop}
use Rattle.recovery.specs.Group.{Group, committed, aborted, last_csn, fitting}
use Rattle.recovery.specs.Lists.{All, nil, cons}
use Rattle.recovery.specs.Transaction.{Tx, edit, remove}
use Rattle.recovery.specs.Replay.{old_bytes, olds_of}
use Rattle.recovery.specs.Restart.{group_id, finished}
use Rattle.recovery.specs.Ledger.{Event, Ledger}
use Rattle.recovery.specs.Machine.{Opening, Disk, history_of, Live, System, down, up, disk_of, Listed, last_assigned, new_tx, with_write}
use Rattle.recovery.specs.Machine.{with_savepoint, in_commit, without_redo, storing}
use Rattle.recovery.specs.Machine.{Step, stays, begins, writes, sets_savepoint, goes_back, precommits, rolls_back, flushes, flush_is_cut, settles, checkpoints}
use Rattle.recovery.specs.Machine.{checkpoint_is_cut, restarts, restart_is_cut, Run, opened, next}
use Rattle.recovery.proofs.Lists.{all_mapped, all_append, all_left, all_right, all_here, all_less, all_edit, all_filter}
use Rattle.recovery.proofs.Transactions.{Found, find, is_unfinished}
use Rattle.recovery.proofs.Groups.{fitting_split}
use Rattle.recovery.proofs.AbortLaw.{order_all}
use Rattle.recovery.proofs.Returns.{with_records, writes_live}

module _ (o : Opening) where
  -- ---- what is kept

  abbrev GroupsAbove : List Group → Type 0
  GroupsAbove gs = All (λ g. o.last_id < group_id g) gs

  abbrev TxsAbove : List Tx → Type 0
  TxsAbove ts = All (λ t. o.last_id < t.id) ts

  record DiskAbove (d : Disk) : Type 0 where
    last : o.last_id ≤ d.image.last_id
    txs : TxsAbove d.image.txs
    groups : GroupsAbove (history_of d)

  record LiveAbove (d : Disk) (l : Live) : Type 0 where
    disk : DiskAbove d
    last : o.last_id ≤ l.last_id
    txs : TxsAbove l.txs
    tail : GroupsAbove l.tail

  abbrev AboveIn : System → Type 0
  AboveIn (down d) = DiskAbove d
  AboveIn (up d l) = LiveAbove d l

  on_disk_lem : (s : System) → AboveIn s → DiskAbove (disk_of s)
  on_disk_lem (down d) v = v
  on_disk_lem (up d l) v = v.disk

  -- ---- one transaction changes, or goes

  module _ (l : Live) (v : TxsAbove l.txs) (r : Tx) (listed : Listed r l.txs) where
    found : Found r.id r l.txs
    found = find r.id r l.txs listed

    split : TxsAbove (found.before ++ r ∷ found.after)
    split = rw found.whole at v

    own : o.last_id < r.id
    own = all_here found.before r found.after split

    edited : (h : Tx → Tx) → (h r).id ≡ r.id → TxsAbove (edit r.id h l.txs)
    edited h same =
        rw (found.edited h) (all_edit found.before r (h r) found.after (λ p. subst (λ (i : ℕ). o.last_id < i) (sym same) p) split)

    removed : TxsAbove (remove r.id l.txs)
    removed = rw found.removed (all_less found.before r found.after split)

  -- ---- the first groups of the tail go to the log

  stored_above : (d : Disk) (P : List Group) → DiskAbove d → GroupsAbove P → DiskAbove (storing P d)
  stored_above d P v p =
      record { last = v.last; txs = v.txs; groups = subst GroupsAbove (append_assoc d.before d.after P) (all_append v.groups p) }

  -- ---- each call

  abbrev abort_of : Tx → Group
  abort_of t = aborted t.id

  above_keeps : (s t : System) (e : Event) → Step o s e t → AboveIn s → AboveIn t
  above_keeps s t e (stays s') v = v
  above_keeps s t e (begins d l room) v = record {
    disk = v.disk;
    last = omega (arith, v.last);
    txs = all_append v.txs (cons {x = new_tx (suc l.last_id)} (omega (arith, v.last)) nil);
    tail = v.tail;
  }
  above_keeps s t e (writes d l r w listed run within free room) v =
      record { disk = v.disk; last = v.last; txs = edited l v.txs r listed (with_write (old_bytes w l.memory) w) refl; tail = v.tail }
  above_keeps s t e (sets_savepoint d l r name listed run) v =
      record { disk = v.disk; last = v.last; txs = edited l v.txs r listed (with_savepoint name) refl; tail = v.tail }
  above_keeps s t e (goes_back d l r name n listed run set room) v =
      let ws = reverse (drop n r.undo) in
      subst (LiveAbove d) (sym (writes_live ws r l))
      (record { disk = v.disk; last = v.last; txs = edited l v.txs r listed (with_records (olds_of l.memory ws) ws) refl; tail = v.tail })
  above_keeps s t e (precommits d l r listed run) v =
      let n : ℕ = suc (last_assigned l) in
      record {
        disk = v.disk;
        last = v.last;
        txs = edited l v.txs r listed (in_commit n) refl;
        tail = all_append v.tail (cons {x = committed r.id n r.redo} (own l v.txs r listed) nil);
      }
  above_keeps s t e (rolls_back d l r listed run) v = record {
    disk = v.disk;
    last = v.last;
    txs = removed l v.txs r listed;
    tail = all_append v.tail (cons {x = aborted r.id} (own l v.txs r listed) nil);
  }
  above_keeps s t e (flushes d l q allowed enough) v =
      let P : List Group = take q l.tail in
      let parted : GroupsAbove (P ++ drop q l.tail) = subst GroupsAbove (sym (take-append-drop q l.tail)) v.tail in
      record { disk = stored_above d P v.disk (all_left P (drop q l.tail) parted); last = v.last; txs = v.txs; tail = all_right P parted }
  above_keeps s t e (flush_is_cut d l q allowed few) v =
      let P : List Group = take q l.tail in
      let parted : GroupsAbove (P ++ drop q l.tail) = subst GroupsAbove (sym (take-append-drop q l.tail)) v.tail in
      let F : List Group = fitting allowed P in
      stored_above d F v.disk (all_left F (drop (length F) P) (subst GroupsAbove (fitting_split allowed P) (all_left P (drop q l.tail) parted)))
  above_keeps s t e (settles d l r listed committing on_disk_lem) v =
      record { disk = v.disk; last = v.last; txs = removed l v.txs r listed; tail = v.tail }
  above_keeps s t e (checkpoints d l) v = record {
    disk = record { last = v.last; txs = all_mapped without_redo v.txs; groups = rw append-nil v.disk.groups };
    last = v.last;
    txs = v.txs;
    tail = v.tail;
  }
  above_keeps s t e (checkpoint_is_cut d l) v = v.disk
  above_keeps s t e (restarts s' last_id image_last image-ids group-ids) v =
      let d = disk_of s' in
      let w = on_disk_lem s' v in
      record {
        disk = w;
        last = omega (arith, w.last, image_last);
        txs = nil;
        tail = all_mapped abort_of (all_filter (is_unfinished (finished d.after [])) (order_all d.image.txs (last_csn d.image.csn d.after) w.txs));
      }
  above_keeps s t e (restart_is_cut s') v = on_disk_lem s' v

  above_holds : {s : System} {k : Ledger} → Run o s k → AboveIn s
  above_holds opened = record { last = omega arith; txs = nil; groups = nil }
  above_holds (next {s} {t} {e} r p) = above_keeps s t e p (above_holds r)

  -- On any list of calls no group has an id that was given before the opening.
  pub ids_above : {s : System} {k : Ledger} → Run o s k → All (λ g. o.last_id < group_id g) (history_of (disk_of s))
  ids_above {s} r = (on_disk_lem s (above_holds r)).groups
