-- Each id has one group at most in the whole history: ids are given in rising order, and after a restart they go on above all that image and groups have.
use mathlib.Core.Path.{◌≡◌, refl, sym, ap, ◌∙◌, subst}
use mathlib.Core.Logic.{◌≢◌}
use mathlib.Core.Bool.{true, false}
use mathlib.Core.List.{List, [], ◌∷◌, ◌++◌, append_assoc, append-nil, reverse}
use Prim.Native.Nat.{ℕ, suc, ◌≤◌}
use native.Mathlib.Omega.{arith}
use lib.ListN.{length, take, drop, take-append-drop}
use borrow.Author.Tests.{ltb-true, lt-ltb, not-true}
use Rattle.recovery.specs.Group.{Group, committed, aborted, last_csn, fitting}
use Rattle.recovery.specs.Lists.{All, nil, cons, has}
use Rattle.recovery.specs.Transaction.{Tx, committing, edit}
use Rattle.recovery.specs.Replay.{old_bytes, olds_of}
use Rattle.recovery.specs.Restart.{group_id, finished, above, undo_order}
use Rattle.recovery.specs.Ledger.{Event, Ledger}
use Rattle.recovery.specs.Machine.{Opening, Disk, history_of, Live, System, down, up, disk_of, Listed, last_assigned, new_tx, with_write}
use Rattle.recovery.specs.Machine.{with_savepoint, in_commit, without_redo, storing, undone_by, after_checkpoint, after_restart}
use Rattle.recovery.specs.Machine.{Step, stays, begins, writes, sets_savepoint, goes_back, precommits, rolls_back, flushes, flush_is_cut, settles, checkpoints}
use Rattle.recovery.specs.Machine.{checkpoint_is_cut, restarts, restart_is_cut, Run, opened, next}
use Rattle.recovery.proofs.Bool.{opposed}
use Rattle.recovery.proofs.Lists.{all_mapped, all_map, all_zip, all_append, all_left, all_here, all_less, all_more, all_edit, all_reverse, all_swap}
use Rattle.recovery.proofs.Lists.{all_unfilter, all_passing, all_filter, all_passed}
use Rattle.recovery.proofs.Distinct.{Distinct, empty, distinct_append, distinct_left, distinct_apart, distinct_filter, distinct_more, distinct_others}
use Rattle.recovery.proofs.Transactions.{Found, find, is_running, is_committing, is_above, is_unfinished}
use Rattle.recovery.proofs.Sorting.{sort_all, unsort_all}
use Rattle.recovery.proofs.Groups.{fitting_split}
use Rattle.recovery.proofs.Finished.{ungrouped}
use Rattle.recovery.proofs.AbortLaw.{order_all, order_distinct}
use Rattle.recovery.proofs.TailFit.{Fit, Ungrouped, tied_ids}
use Rattle.recovery.proofs.Numbers.{Consecutive, consecutive_right, consecutive_grows}
use Rattle.recovery.proofs.Invariant.{Up, Down, Inv}
use Rattle.recovery.proofs.Returns.{with_records, writes_live}
use Rattle.recovery.proofs.RestartStep.{distinct_aborts}
use Rattle.recovery.proofs.Theorem.{lasts, holds}

-- ---- what is kept

-- no group has the id of a running transaction
abbrev FreeOf : List Group → List Tx → Type 0
FreeOf gs txs = All (λ t. is_running t ≡ true → Ungrouped gs t) txs

-- nor of a committing one with a number above n
abbrev LateOf : ℕ → List Group → List Tx → Type 0
LateOf n gs txs = All (λ t. is_committing t ≡ true → is_above n t ≡ true → Ungrouped gs t) txs

-- of the disk
pub record LoggedOnce (d : Disk) : Type 0 where
  pub once : Distinct group_id (history_of d)
  -- no group before the image has an id above the image's last
  pub seen : All (λ g. group_id g ≤ d.image.last_id) d.before
  -- what a restart may undo has no group there
  pub free : FreeOf d.before d.image.txs
  pub late : LateOf d.image.csn d.before d.image.txs

-- and of the live state: all groups, stored or in the tail
pub record LiveOnce (d : Disk) (l : Live) : Type 0 where
  pub disk : LoggedOnce d
  pub once : Distinct group_id (history_of d ++ l.tail)
  pub seen : All (λ g. group_id g ≤ l.last_id) (history_of d ++ l.tail)
  pub free : FreeOf (history_of d ++ l.tail) l.txs

abbrev OnceIn : System → Type 0
OnceIn (down d) = LoggedOnce d
OnceIn (up d l) = LiveOnce d l

on_disk_lem : (s : System) → OnceIn s → LoggedOnce (disk_of s)
on_disk_lem (down d) v = v
on_disk_lem (up d l) v = v.disk

-- ---- one transaction changes, or goes

module _ (d : Disk) (l : Live) (v : LiveOnce d l) (r : Tx) (listed : Listed r l.txs) where
  found : Found r.id r l.txs
  found = find r.id r l.txs listed

  split_free : FreeOf (history_of d ++ l.tail) (found.before ++ r ∷ found.after)
  split_free = rw found.whole at v.free

  edit_free : (h : Tx → Tx) → (h r).id ≡ r.id → (is_running (h r) ≡ true → is_running r ≡ true) → FreeOf (history_of d ++ l.tail) (edit r.id h l.txs)
  edit_free h same still =
      rw (found.edited h)
      (all_edit found.before r (h r) found.after
      (λ p e. subst (λ (i : ℕ). All (λ g. group_id g ≢ i) (history_of d ++ l.tail)) (sym same) (p (still e))) split_free)

  less_free : FreeOf (history_of d ++ l.tail) (found.before ++ found.after)
  less_free = all_less found.before r found.after split_free

-- ---- a group at the tail's end, which ends the running transaction r

module _ (o : Opening) (d : Disk) (l : Live) (k : Ledger) (u : Up o d l k) (v : LiveOnce d l) (r : Tx) (listed : Listed r l.txs) (run : r.committing ≡ false)
    (g : Group) (of : group_id g ≡ r.id) where
  abbrev all : List Group
  all = history_of d ++ l.tail

  abbrev at : Found r.id r l.txs
  at = found d l v r listed

  regroup : all ++ (g ∷ []) ≡ history_of d ++ (l.tail ++ (g ∷ []))
  regroup = append_assoc (history_of d) l.tail (g ∷ [])

  own : Ungrouped all r
  own = all_here at.before r at.after (split_free d l v r listed) (rw run)

  end_once : Distinct group_id (history_of d ++ (l.tail ++ (g ∷ [])))
  end_once = subst (Distinct group_id) regroup (distinct_more all g [] (rw (append-nil, of) own) (rw append-nil v.once))

  end_seen : All (λ h. group_id h ≤ l.last_id) (history_of d ++ (l.tail ++ (g ∷ [])))
  end_seen =
      let id : r.id ≤ l.last_id = all_here at.before r at.after (rw at.whole at u.standing.live_ids) in
      subst (λ (gs : List Group). All (λ h. group_id h ≤ l.last_id) gs) regroup (all_append v.seen (cons {x = g} (rw of id) nil))

  end_free : FreeOf (history_of d ++ (l.tail ++ (g ∷ []))) (at.before ++ at.after)
  end_free =
      let apart : All (λ t. t.id ≢ r.id) (at.before ++ at.after) = distinct_others at.before r at.after (rw at.whole at u.standing.live_distinct) in
      subst (λ (gs : List Group). FreeOf gs (at.before ++ at.after)) regroup
      (all_map (λ t p e. all_append (p.1 e) (cons {x = g} (λ q. p.0 (sym q ∙ of)) nil)) (all_zip apart (less_free d l v r listed)))

  -- r is committing now
  end_free_in : (n : ℕ) → FreeOf (history_of d ++ (l.tail ++ (g ∷ []))) (edit r.id (in_commit n) l.txs)
  end_free_in n = rw (at.edited (in_commit n)) (all_more at.before (in_commit n r) at.after (λ e. absurd (opposed e refl)) end_free)

-- ---- the first groups P of the tail go to the log

module _ (d : Disk) (l : Live) (v : LiveOnce d l) (P U : List Group) (split : l.tail ≡ P ++ U) where
  same_groups : history_of d ++ l.tail ≡ history_of (storing P d) ++ U
  same_groups =
      ap (λ (gs : List Group). history_of d ++ gs) split ∙ sym (append_assoc (history_of d) P U)
      ∙ ap (λ (gs : List Group). gs ++ U) (append_assoc d.before d.after P)

  stored_once : Distinct group_id (history_of (storing P d) ++ U)
  stored_once = subst (Distinct group_id) same_groups v.once

  stored_disk : LoggedOnce (storing P d)
  stored_disk = record {
    once = distinct_left (history_of (storing P d)) U stored_once;
    seen = v.disk.seen;
    free = v.disk.free;
    late = v.disk.late;
  }

-- ---- a checkpoint

module _ (o : Opening) (d : Disk) (l : Live) (k : Ledger) (u : Up o d l k) (v : LiveOnce d l) where
  -- the committing ones whose numbers are above the one on disk have their groups in the tail, and so none in the log
  tail_late : LateOf l.csn (history_of d) l.txs
  tail_late =
      let fit : Fit l.txs l.csn l.tail u.late = u.standing.fit in
      let none-stored : All (Ungrouped (history_of d)) u.late =
      tied_ids (λ i. All (λ g. group_id g ≢ i) (history_of d)) fit.tied (distinct_apart (history_of d) v.once) in
      all_unfilter is_committing l.txs
      (all_unfilter (is_above l.csn) (committing l.txs)
      (unsort_all (above l.csn (committing l.txs))
      (subst (All (Ungrouped (history_of d))) (sym fit.sorted) (all_reverse none-stored))))

  image_once : LoggedOnce (after_checkpoint d l)
  image_once = record {
    once = rw append-nil (distinct_left (history_of d) l.tail v.once);
    seen = all_left (history_of d) l.tail v.seen;
    free = all_mapped without_redo (all_map (λ t h e. all_left (history_of d) l.tail (h e)) v.free);
    late = all_mapped without_redo tail_late;
  }

-- ---- a restart

module _ (o : Opening) (d : Disk) (k : Ledger) (w : Down o d k) (v : LoggedOnce d) (last_id : ℕ) (image_last : d.image.last_id ≤ last_id)
    (image-ids : All (λ t. t.id ≤ last_id) d.image.txs) (group-ids : All (λ g. group_id g ≤ last_id) d.after) where
  abbrev n : ℕ
  n = last_csn d.image.csn d.after

  abbrev f : List ℕ
  f = finished d.after []

  grown : d.image.csn ≤ n
  grown = consecutive_grows (subst (λ (m : ℕ). Consecutive m d.after) (sym w.numbers.image) (consecutive_right d.before w.numbers.history))

  -- what step 4 undoes has no group before the image, nor after it
  order_free : All (Ungrouped d.before) (undo_order d.image.txs n)
  unfolding undo_order
  order_free =
      all_append (all_passing is_running v.free)
      (sort_all (all_passing (is_above n) (all_passing is_committing (all_map (λ t h c a. h c (higher t a)) v.late))))
    where
      higher : (t : Tx) → is_above n t ≡ true → is_above d.image.csn t ≡ true
      higher t a = lt-ltb d.image.csn t.csn (omega (arith, grown, ltb-true n t.csn a))

  undone_free : All (Ungrouped (history_of d)) (undone_by d)
  undone_free =
      all_map (λ t p. all_append p.0 (ungrouped [] d.after (not-true (has t.id f) p.1)).0)
      (all_zip (all_filter (is_unfinished f) order_free) (all_passed (is_unfinished f) (undo_order d.image.txs n)))

  undone_ids_lem : All (λ t. t.id ≤ last_id) (undone_by d)
  undone_ids_lem = all_filter (is_unfinished f) (order_all d.image.txs n image-ids)

  abbrev abort_of : Tx → Group
  abort_of t = aborted t.id

  restart_once : LiveOnce d (after_restart d last_id)
  restart_once = record {
    disk = v;
    once =
        distinct_append v.once (distinct_aborts (distinct_filter (is_unfinished f) (order_distinct d.image.txs n w.image_distinct)))
        (all_swap (history_of d) (all_mapped abort_of (all_map (λ t h. all_map (λ g m e. m (sym e)) h) undone_free)));
    seen = all_append (all_append (all_map (λ g h. omega arith) v.seen) group-ids) (all_mapped abort_of undone_ids_lem);
    free = nil;
  }

-- ---- each call

module _ (o : Opening) where
  once_keeps : (s t : System) (e : Event) (k : Ledger) → Step o s e t → Inv o s k → OnceIn s → OnceIn t
  once_keeps s t e k (stays s') i v = v
  once_keeps s t e k (begins d l room) i v = record {
    disk = v.disk;
    once = v.once;
    seen = all_map (λ g h. omega arith) v.seen;
    free = all_append v.free (cons {x = new_tx (suc l.last_id)} (λ e. all_map (λ g h q. omega arith) v.seen) nil);
  }
  once_keeps s t e k (writes d l r w listed run within free room) i v = record {
    disk = v.disk;
    once = v.once;
    seen = v.seen;
    free = edit_free d l v r listed (with_write (old_bytes w l.memory) w) refl (λ e. e);
  }
  once_keeps s t e k (sets_savepoint d l r name listed run) i v = record {
    disk = v.disk;
    once = v.once;
    seen = v.seen;
    free = edit_free d l v r listed (with_savepoint name) refl (λ e. e);
  }
  once_keeps s t e k (goes_back d l r name n listed run set room) i v =
      let ws = reverse (drop n r.undo) in
      subst (LiveOnce d) (sym (writes_live ws r l))
      (record { disk = v.disk; once = v.once; seen = v.seen; free = edit_free d l v r listed (with_records (olds_of l.memory ws) ws) refl (λ e. e) })
  once_keeps s t e k (precommits d l r listed run) i v =
      let m : ℕ = suc (last_assigned l) in
      let g : Group = committed r.id m r.redo in
      record {
        disk = v.disk;
        once = end_once o d l k i v r listed run g refl;
        seen = end_seen o d l k i v r listed run g refl;
        free = end_free_in o d l k i v r listed run g refl m;
      }
  once_keeps s t e k (rolls_back d l r listed run) i v =
      let g : Group = aborted r.id in
      record {
        disk = v.disk;
        once = end_once o d l k i v r listed run g refl;
        seen = end_seen o d l k i v r listed run g refl;
        free = rw (found d l v r listed).removed (end_free o d l k i v r listed run g refl);
      }
  once_keeps s t e k (flushes d l q allowed enough) i v =
      let P : List Group = take q l.tail in
      let U : List Group = drop q l.tail in
      let split : l.tail ≡ P ++ U = sym (take-append-drop q l.tail) in
      let same : history_of d ++ l.tail ≡ history_of (storing P d) ++ U = same_groups d l v P U split in
      record {
        disk = stored_disk d l v P U split;
        once = stored_once d l v P U split;
        seen = subst (All (λ g. group_id g ≤ l.last_id)) same v.seen;
        free = subst (λ (gs : List Group). FreeOf gs l.txs) same v.free;
      }
  once_keeps s t e k (flush_is_cut d l q allowed few) i v =
      let P : List Group = fitting allowed (take q l.tail) in
      let R : List Group = drop (length (fitting allowed (take q l.tail))) (take q l.tail) in
      let split : l.tail ≡ P ++ (R ++ drop q l.tail) =
      sym (take-append-drop q l.tail)
      ∙ (ap (λ (gs : List Group). gs ++ drop q l.tail) (fitting_split allowed (take q l.tail)) ∙ append_assoc P R (drop q l.tail)) in
      stored_disk d l v P (R ++ drop q l.tail) split
  once_keeps s t e k (settles d l r listed committing on_disk_lem) i v = record {
    disk = v.disk;
    once = v.once;
    seen = v.seen;
    free = rw (found d l v r listed).removed (less_free d l v r listed);
  }
  once_keeps s t e k (checkpoints d l) i v =
      record { disk = image_once o d l k i v; once = rw append-nil v.once; seen = rw append-nil v.seen; free = rw append-nil v.free }
  once_keeps s t e k (checkpoint_is_cut d l) i v = v.disk
  once_keeps s t e k (restarts s' last_id image_last image-ids group-ids) i v =
      restart_once o (disk_of s') k (lasts o s' k i) (on_disk_lem s' v) last_id image_last image-ids group-ids
  once_keeps s t e k (restart_is_cut s') i v = on_disk_lem s' v

  once_holds : {s : System} {k : Ledger} → Run o s k → OnceIn s
  once_holds opened = record { once = empty; seen = nil; free = nil; late = nil }
  once_holds (next {s} {t} {k} {e} r p) = once_keeps s t e k p (holds o r) (once_holds r)

  -- Each id has one group at most, on any list of calls: so the commit of a transaction is the last group of its id.
  pub groups_once : {s : System} {k : Ledger} → Run o s k → Distinct group_id (history_of (disk_of s))
  groups_once {s} r = (on_disk_lem s (once_holds r)).once
