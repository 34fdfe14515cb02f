-- Finished ids: what groups mark finished, and which transactions are left.
use mathlib.Core.Path.{◌≡◌, refl, sym, ◌∙◌}
use mathlib.Core.Logic.{◌≢◌}
use mathlib.Core.Bool.{Bool, true, false, not, ◌||◌, ◌&&◌, or-true}
use mathlib.Core.List.{List, [], ◌∷◌, ◌++◌}
use Prim.Native.Nat.{ℕ}
use lib.Dec.{eqb}
use borrow.Author.Tests.{ne_eqb, eqb-false}
use Rattle.recovery.specs.Group.{Group}
use Rattle.recovery.specs.Lists.{All, nil, cons, has}
use Rattle.recovery.specs.Transaction.{Tx}
use Rattle.recovery.specs.Restart.{group_id, finished, unfinished, aborts}
use Rattle.recovery.proofs.Bool.{eqb_same, or_both, or_left, or_right}
use Rattle.recovery.proofs.Lists.{all_map, filter_all, filter_filter, filter_out, filter_append}
use Rattle.recovery.proofs.Distinct.{distinct_others}
use Rattle.recovery.proofs.Transactions.{DistinctIds, is_unfinished}

pub finished_append : (gs hs : List Group) (f : List ℕ) → finished (gs ++ hs) f ≡ finished hs (finished gs f)
finished_append [] hs f = refl
finished_append (g ∷ gs) hs f = finished_append gs hs (group_id g ∷ f)

-- an id without a group is not finished by the groups
pub unmarked : {i : ℕ} (f : List ℕ) {gs : List Group} → All (λ g. group_id g ≢ i) gs → has i f ≡ false → has i (finished gs f) ≡ false
unmarked f nil h = h
unmarked {i} f (cons {x = g} n ns) h =
    unmarked (group_id g ∷ f) ns (or_both (eqb i (group_id g)) (has i f) (ne_eqb i (group_id g) (λ e. n (sym e))) h)

-- and one that they leave unfinished has no group among them
pub ungrouped : {i : ℕ} (f : List ℕ) (gs : List Group) → has i (finished gs f) ≡ false → All (λ g. group_id g ≢ i) gs × (has i f ≡ false)
ungrouped f [] h = (nil, h)
ungrouped {i} f (g ∷ gs) h =
    let rest = ungrouped (group_id g ∷ f) gs h in
    let own : eqb i (group_id g) ≡ false = or_left (eqb i (group_id g)) (has i f) rest.1 in
    (cons {x = g} (λ e. eqb-false i (group_id g) own (sym e)) rest.0, or_right (eqb i (group_id g)) (has i f) rest.1)

-- one more finished id leaves out the transaction that has it

pub unfinished_more : (i : ℕ) (f : List ℕ) (ts : List Tx) → unfinished (i ∷ f) ts ≡ unfinished (i ∷ []) (unfinished f ts)
unfinished_more i f ts = sym (filter_filter (is_unfinished (i ∷ [])) (is_unfinished f) (is_unfinished (i ∷ f)) (λ t. go (has t.id f) (eqb t.id i)) ts)
  where
    go : (b c : Bool) → (not b && not (c || false)) ≡ not (c || b)
    go true true = refl
    go true false = refl
    go false true = refl
    go false false = refl

-- the transactions of which none has the id, or one has
pub leave_none : (i : ℕ) {L : List Tx} → All (λ t. t.id ≢ i) L → unfinished (i ∷ []) L ≡ L
leave_none i h = filter_all (is_unfinished (i ∷ [])) (all_map (λ t n. rw (ne_eqb t.id i n)) h)

pub leave_one : (ps : List Tx) (t : Tx) (qs : List Tx) → DistinctIds (ps ++ t ∷ qs) → unfinished (t.id ∷ []) (ps ++ t ∷ qs) ≡ ps ++ qs
leave_one ps t qs d =
    filter_out (is_unfinished (t.id ∷ [])) ps t qs (rw (eqb_same t.id))
    ∙ (sym (filter_append (is_unfinished (t.id ∷ [])) ps qs) ∙ leave_none t.id (distinct_others ps t qs d))

-- the abort records of transactions

pub still_finished : (i : ℕ) (us : List Tx) (f : List ℕ) → has i f ≡ true → has i (finished (aborts us) f) ≡ true
still_finished i [] f h = h
still_finished i (u ∷ us) f h = still_finished i us (u.id ∷ f) (rw h (or-true (eqb i u.id)))

pub aborts_finish : (us : List Tx) (f : List ℕ) → All (λ u. has u.id (finished (aborts us) f) ≡ true) us
aborts_finish [] f = nil
aborts_finish (u ∷ us) f = cons (still_finished u.id us (u.id ∷ f) (rw (eqb_same u.id))) (aborts_finish us (u.id ∷ f))
