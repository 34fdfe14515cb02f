-- The abort law: restart adds abort records in the very order in which it undid, so that a restart after any first part of them does
-- what the first one did. This makes a restart repeatable, cut or not.
use mathlib.Core.Path.{◌≡◌, refl, sym, ap, ◌∙◌, subst}
use mathlib.Core.Logic.{◌≢◌, ◌⊎◌, inl, inr}
use mathlib.Core.Bool.{Bool, true, false, not, cond}
use mathlib.Core.List.{List, [], ◌∷◌, ◌++◌}
use Prim.Native.Nat.{ℕ, ◌≤◌}
use lib.Dec.{eqb, ltb}
use borrow.Author.Tests.{ne_eqb, ltb-false, not-true}
use Rattle.recovery.specs.Group.{Write, Group, last_csn}
use Rattle.recovery.specs.Lists.{All, nil, cons, has}
use Rattle.recovery.specs.Transaction.{Tx, running, committing}
use Rattle.recovery.specs.Replay.{undo_all, undo_each}
use Rattle.recovery.specs.Restart.{finished, undo_records, undo_of, unfinished, sort_desc, above, undo_order, undone, aborts, forward, recover}
use Rattle.recovery.proofs.Bool.{or_both}
use Rattle.recovery.proofs.Lists.{all_map, all_append, all_left, all_right, all_filter, all_unfilter, all_passed}
use Rattle.recovery.proofs.Distinct.{more, distinct_append, distinct_filter, distinct_left}
use Rattle.recovery.proofs.Transactions.{DistinctIds, lookup_own, running_committing, is_running, is_committing, is_above, is_unfinished}
use Rattle.recovery.proofs.Sorting.{sort_all, unsort_all, sort_distinct}
use Rattle.recovery.proofs.Groups.{last_csn_append, undo_each_append, forward_append, last_csn_aborts}
use Rattle.recovery.proofs.Finished.{finished_append, unfinished_more, leave_one, still_finished, aborts_finish}

-- step 4's order lists transactions of the image, each once

pub order_all : {p : Tx → Type 0} (txs : List Tx) (n : ℕ) → All p txs → All p (undo_order txs n)
unfolding undo_order
order_all txs n h = all_append (all_filter is_running h) (sort_all (all_filter (is_above n) (all_filter is_committing h)))

pub order_distinct : (txs : List Tx) (n : ℕ) → DistinctIds txs → DistinctIds (undo_order txs n)
unfolding undo_order
order_distinct txs n d =
    distinct_append (distinct_filter is_running d) (sort_distinct (distinct_filter (is_above n) (distinct_filter is_committing d)))
    (all_map (λ t h. sort_all (all_filter (is_above n) h)) (running_committing d))

-- after the abort records of vs, which come first, the rest is left to undo
left_after : (os vs ws : List Tx) (f : List ℕ) → unfinished f os ≡ vs ++ ws → DistinctIds (vs ++ ws) → unfinished (finished (aborts vs) f) os ≡ ws
left_after os [] ws f e d = e
left_after os (v ∷ vs) ws f e (more h d) =
    left_after os vs ws (v.id ∷ f) (unfinished_more v.id f os ∙ (ap (λ (r : List Tx). unfinished (v.id ∷ []) r) e ∙ leave_one [] v _ (more h d))) d

module _ (txs : List Tx) (d : ℕ) (gs : List Group) (vs ws : List Tx) (distinct : DistinctIds txs) (split : undone txs d gs ≡ vs ++ ws) where
  undone_distinct : DistinctIds (vs ++ ws)
  undone_distinct = subst (λ (l : List Tx). DistinctIds l) split (distinct_filter (is_unfinished (finished gs [])) (order_distinct txs (last_csn d gs) distinct))

  pub undone_after : undone txs d (gs ++ aborts vs) ≡ ws
  undone_after =
      rw (finished_append gs (aborts vs) [], last_csn_append d gs (aborts vs), last_csn_aborts (last_csn d gs) vs)
      (left_after (undo_order txs (last_csn d gs)) vs ws (finished gs []) split undone_distinct)

-- going forward over abort records undoes: each is of a transaction that is not finished and has these undo records
forward_aborts : {M : Type 0} (lay : Write → M → M) (txs vs : List Tx) (f : List ℕ) (m : M) → DistinctIds vs → All (λ t. has t.id f ≡ false) vs
    → All (λ t. undo_of t.id txs ≡ t.undo) vs → forward lay txs (aborts vs) f m ≡ undo_each lay vs m
forward_aborts lay txs [] f m d h k = refl
forward_aborts {M = M} lay txs (v ∷ vs) f m (more n d) (cons h hs) (cons k ks) =
    let one : cond (has v.id f) m (undo_all lay (undo_of v.id txs) m) ≡ undo_all lay v.undo m = rw (h, k) in
    ap (λ (x : M). forward lay txs (aborts vs) (v.id ∷ f) x) one
    ∙ forward_aborts lay txs vs (v.id ∷ f) (undo_all lay v.undo m) d (both n hs) ks
  where
    both : {us : List Tx} → All (λ u. u.id ≢ v.id) us → All (λ u. has u.id f ≡ false) us → All (λ u. has u.id (v.id ∷ f) ≡ false) us
    both nil nil = nil
    both (cons {x = u} p ps) (cons q qs) = cons {x = u} (or_both (eqb u.id v.id) (has u.id f) (ne_eqb u.id v.id p) q) (both ps qs)

-- the law: vs are the first of those undone
pub abort_law : {M : Type 0} (lay : Write → M → M) (txs : List Tx) (d : ℕ) (gs : List Group) (vs ws : List Tx) (m : M) → DistinctIds txs
    → undone txs d gs ≡ vs ++ ws
    → recover lay txs d (gs ++ aborts vs) m ≡ recover lay txs d gs m
abort_law {M = M} lay txs d gs vs ws m distinct split =
    let f : List ℕ = finished gs [] in
    let own : All (λ t. undo_of t.id txs ≡ t.undo) (undone txs d gs) =
    all_filter (is_unfinished f) (order_all txs (last_csn d gs) (all_map (λ t e. ap undo_records e) (lookup_own distinct))) in
    let new : All (λ t. has t.id f ≡ false) (undone txs d gs) =
    all_map (λ t e. not-true (has t.id f) e) (all_passed (is_unfinished f) (undo_order txs (last_csn d gs))) in
    let run : forward lay txs (gs ++ aborts vs) [] m ≡ undo_each lay vs (forward lay txs gs [] m) =
    forward_append lay txs gs (aborts vs) [] m
    ∙ forward_aborts lay txs vs f (forward lay txs gs [] m) (distinct_left vs ws (undone_distinct txs d gs vs ws distinct split))
    (all_left vs ws (rw split at new)) (all_left vs ws (rw split at own)) in
    ap (λ (x : M). undo_each lay (undone txs d (gs ++ aborts vs)) x) run
    ∙ (ap (λ (l : List Tx). undo_each lay l (undo_each lay vs (forward lay txs gs [] m))) (undone_after txs d gs vs ws distinct split)
    ∙ (sym (undo_each_append lay vs ws (forward lay txs gs [] m)) ∙ ap (λ (l : List Tx). undo_each lay l (forward lay txs gs [] m)) (sym split)))

-- after all of them nothing of the image is unfinished, but for committing ones whose commits are in the log

all_finished : (os : List Tx) (f : List ℕ) → All (λ t. has t.id (finished (aborts (unfinished f os)) f) ≡ true) os
all_finished os f = all_map (λ t h. one t (has t.id f) refl h) (all_unfilter (is_unfinished f) os (aborts_finish (unfinished f os) f))
  where
    one : (t : Tx) (b : Bool) → has t.id f ≡ b → (not (has t.id f) ≡ true → has t.id (finished (aborts (unfinished f os)) f) ≡ true)
        → has t.id (finished (aborts (unfinished f os)) f) ≡ true
    one t true e h = still_finished t.id (unfinished f os) f e
    one t false e h = h (rw e)

module _ (txs : List Tx) (d : ℕ) (gs : List Group) where
  abbrev done : List ℕ
  done = finished (gs ++ aborts (undone txs d gs)) []

  order_finished : All (λ t. has t.id done ≡ true) (undo_order txs (last_csn d gs))
  order_finished = rw (finished_append gs (aborts (undone txs d gs)) []) (all_finished (undo_order txs (last_csn d gs)) (finished gs []))

  pub running_finished : All (λ t. has t.id done ≡ true) (running txs)
  unfolding undo_order
  running_finished = all_left (running txs) (sort_desc (above (last_csn d gs) (committing txs))) order_finished

  pub committing_finished : All (λ c. (has c.id done ≡ true) ⊎ (c.csn ≤ last_csn d gs)) (committing txs)
  unfolding undo_order
  committing_finished =
      all_map (λ c h. one c (ltb (last_csn d gs) c.csn) refl h)
      (all_unfilter (is_above (last_csn d gs)) (committing txs) (unsort_all (above (last_csn d gs) (committing txs)) (all_right (running txs) order_finished)))
    where
      one : (c : Tx) (b : Bool) → ltb (last_csn d gs) c.csn ≡ b → (ltb (last_csn d gs) c.csn ≡ true → has c.id done ≡ true)
          → (has c.id done ≡ true) ⊎ (c.csn ≤ last_csn d gs)
      one c true e h = inl (h e)
      one c false e h = inr (ltb-false (last_csn d gs) c.csn e)
