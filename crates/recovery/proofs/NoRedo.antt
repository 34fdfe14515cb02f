-- An image has no redo records: recovery does not look at them.
use mathlib.Core.Path.{◌≡◌, refl, sym, ap, ◌∙◌}
use mathlib.Core.Bool.{Bool, true, false, cond}
use mathlib.Core.List.{List, [], ◌∷◌, map, map-append}
use mathlib.Core.Option.{some}
use Prim.Native.Nat.{ℕ}
use lib.Dec.{eqb, leb}
use Rattle.recovery.specs.Group.{Write, Group, committed, aborted, last_csn}
use Rattle.recovery.specs.Lists.{has}
use Rattle.recovery.specs.Transaction.{Tx, running, committing, lookup}
use Rattle.recovery.specs.Replay.{redo_all, undo_all, undo_each}
use Rattle.recovery.specs.Restart.{finished, undo_records, undo_of, unfinished, insert_desc, sort_desc, above, undo_order, undone, forward, recover}
use Rattle.recovery.specs.Machine.{without_redo}
use Rattle.recovery.proofs.Lists.{all_mapped, filter_map}
use Rattle.recovery.proofs.Distinct.{empty, more}
use Rattle.recovery.proofs.Transactions.{DistinctIds, is_running, is_committing, is_above, is_unfinished}

abbrev pub erased : List Tx → List Tx
erased txs = map without_redo txs

pub erased_distinct : {txs : List Tx} → DistinctIds txs → DistinctIds (erased txs)
erased_distinct empty = empty
erased_distinct (more h d) = more (all_mapped without_redo h) (erased_distinct d)

pub erased_running : (txs : List Tx) → running (erased txs) ≡ erased (running txs)
erased_running txs = filter_map is_running without_redo (λ t. refl) txs

pub erased_committing : (txs : List Tx) → committing (erased txs) ≡ erased (committing txs)
erased_committing txs = filter_map is_committing without_redo (λ t. refl) txs

pub erased_unfinished : (f : List ℕ) (txs : List Tx) → unfinished f (erased txs) ≡ erased (unfinished f txs)
erased_unfinished f txs = filter_map (is_unfinished f) without_redo (λ t. refl) txs

erased_insert : (t : Tx) (txs : List Tx) → insert_desc (without_redo t) (erased txs) ≡ erased (insert_desc t txs)
erased_insert t [] = refl
erased_insert t (u ∷ txs) = go (leb u.csn t.csn) (erased_insert t txs)
  where
    go : (b : Bool) → insert_desc (without_redo t) (erased txs) ≡ erased (insert_desc t txs)
        → cond b (without_redo t ∷ without_redo u ∷ erased txs) (without_redo u ∷ insert_desc (without_redo t) (erased txs))
        ≡ erased (cond b (t ∷ u ∷ txs) (u ∷ insert_desc t txs))
    go true e = refl
    go false e = ap (λ (l : List Tx). without_redo u ∷ l) e

erased_sort : (txs : List Tx) → sort_desc (erased txs) ≡ erased (sort_desc txs)
erased_sort [] = refl
erased_sort (t ∷ txs) = ap (λ (l : List Tx). insert_desc (without_redo t) l) (erased_sort txs) ∙ erased_insert t (sort_desc txs)

erased_order : (txs : List Tx) (n : ℕ) → undo_order (erased txs) n ≡ erased (undo_order txs n)
unfolding undo_order
erased_order txs n =
    rw (erased_running txs, erased_committing txs, filter_map (is_above n) without_redo (λ t. refl) (committing txs), erased_sort (above n (committing txs)))
    (sym (map-append without_redo (running txs) (sort_desc (above n (committing txs)))))

pub erased_undone : (txs : List Tx) (d : ℕ) (gs : List Group) → undone (erased txs) d gs ≡ erased (undone txs d gs)
erased_undone txs d gs = ap (λ (l : List Tx). unfinished (finished gs []) l) (erased_order txs (last_csn d gs))
    ∙ erased_unfinished (finished gs []) (undo_order txs (last_csn d gs))

erased_undo_of : (i : ℕ) (txs : List Tx) → undo_of i (erased txs) ≡ undo_of i txs
erased_undo_of i [] = refl
erased_undo_of i (t ∷ txs) = go (eqb i t.id) (erased_undo_of i txs)
  where
    go : (b : Bool) → undo_of i (erased txs) ≡ undo_of i txs
        → undo_records (cond b (some (without_redo t)) (lookup i (erased txs))) ≡ undo_records (cond b (some t) (lookup i txs))
    go true e = refl
    go false e = e

module _ {M : Type 0} (lay : Write → M → M) where
  erased_each : (ts : List Tx) (m : M) → undo_each lay (erased ts) m ≡ undo_each lay ts m
  erased_each [] m = refl
  erased_each (t ∷ ts) m = erased_each ts (undo_all lay t.undo m)

  erased_forward : (txs : List Tx) (gs : List Group) (f : List ℕ) (m : M) → forward lay (erased txs) gs f m ≡ forward lay txs gs f m
  erased_forward txs [] f m = refl
  erased_forward txs (committed i n ws ∷ gs) f m = erased_forward txs gs (i ∷ f) (redo_all lay ws m)
  erased_forward txs (aborted i ∷ gs) f m = rw (erased_undo_of i txs) (erased_forward txs gs (i ∷ f) (cond (has i f) m (undo_all lay (undo_of i txs) m)))

  pub erased_recover : (txs : List Tx) (d : ℕ) (gs : List Group) (m : M) → recover lay (erased txs) d gs m ≡ recover lay txs d gs m
  erased_recover txs d gs m = rw (erased_undone txs d gs, erased_forward txs gs [] m) (erased_each (undone txs d gs) (forward lay txs gs [] m))
