-- The next one that the code undoes is the next of the list: the first running one, then the one with the highest number.
use Prim.Native.Nat.{ℕ, zero, suc, ◌≤◌, ◌<◌}
use native.Mathlib.Omega.{arith}
use mathlib.Core.Bool.{Bool, true, false, cond, not, ◌&&◌}
use mathlib.Core.List.{List, [], ◌∷◌, ◌++◌, append_assoc}
use mathlib.Core.Path.{◌≡◌, refl, sym, ap, ap₂, ◌∙◌, subst}
use lib.ListN.{length, get_or, set, length-append}
use lib.Dec.{eqb, ltb}
use lib.Seq.{get_or-set_same, get_or-set_other}
use borrow.Author.Tests.{eqb-true, eqb-false, ltb-true, ltb-false, lt-ltb, le-ltb}
use Rattle.recovery.specs.Lists.{nil, cons}
use Rattle.recovery.specs.Transaction.{Tx}
use Rattle.recovery.specs.Restart.{sort_desc}
use Rattle.recovery.proofs.Lists.{all_map, all_append}
use Rattle.recovery.proofs.Sorting.{AllLe, AllLt, sort_pick, sort_length}
use Rattle.redolog.specs.declared.Csn.{Csn}
use Rattle.transaction.specs.declared.Key.{Key}
use Rattle.redolog.proofs.Basics.{clash, and_left, and_right}
use Rattle.image.specs.declared.Image.{Image}
use Rattle.image.specs.declared.read.TxHead.{TxHead}
use Rattle.image.specs.Keys.{no_head}
use Rattle.image.specs.Slots.{slot_at}
use Rattle.restart.specs.declared.forward.Pass.{Pass}
use Rattle.std.specs.Prelude.{Some, None}
use Rattle.restart.specs.Slots.{Slot, transaction_at, one_if, first_below, filter_below}
use Rattle.restart.specs.Undo.{is_running, is_lost, running_at, lost_at, lost_by, running_of, lost_of, undone_of}
use Rattle.restart.specs.Forward.{Endings, open_at}
use Rattle.restart.specs.Turns.{Best, StatusByCsn, running_in, first_running, better_of, best_of, or_best, next_of}
use Rattle.restart.specs.declared.forward.Ending.TheVariants.{Abort}
use Rattle.std.specs.Prelude.{zip}
use Rattle.std.proofs.lemmas.Slice.Zip.{length-zip, get_or-zip}
use Rattle.restart.proofs.Shown.{HasKeys}
use Rattle.restart.proofs.SlotLaws.{position_first, first_at, first_none, first_same, filter_both, filter_same, filter_none, filter_first}

module _ (image : Image) (found : Endings) where
  -- unfinished and committing
  abbrev pending : ℕ → Bool
  pending i = open_at found i && eqb (slot_at image.txs i).status 2

  lost_raise : (m n i : ℕ) → m ≤ n → lost_at image found n i ≡ true → (lost_at image found m i ≡ true) × (n < (transaction_at image i).csn)
  unfolding is_lost
  lost_raise m n i h e =
      let o = and_left (pending i) (ltb n (transaction_at image i).csn) e in
      let l : n < (transaction_at image i).csn = ltb-true _ _ (and_right (pending i) (ltb n (transaction_at image i).csn) e) in
      (rw (o, lt-ltb m (transaction_at image i).csn (omega arith)), l)

  lost_lower : (m n i : ℕ) → lost_at image found n i ≡ false → lost_at image found m i ≡ true → (transaction_at image i).csn ≤ n
  unfolding is_lost
  lost_lower m n i e h =
      let o = and_left (pending i) (ltb m (transaction_at image i).csn) h in
      ltb-false n (transaction_at image i).csn (rw o at e)

-- the best of the first n slots, by the image
abbrev best_at : Image → Endings → Csn → ℕ → Best
best_at image found csn zero = record { at = None; top = csn }
best_at image found csn (suc n) =
    cond (lost_at image found (best_at image found csn n).top.0 n) (record { at = Some n; top = (slot_at image.txs n).csn }) (best_at image found csn n)

-- what the search up to n has: with the test of those sought, a list of which the one in slot i is the first of the highest, and how the
-- list is without it, by any test that differs at i alone
module _ (image : Image) (found : Endings) (csn : Csn) where
  abbrev sought : ℕ → Bool
  sought i = lost_at image found csn.0 i

  abbrev those : (ℕ → Bool) → ℕ → List Tx
  those p n = filter_below p (transaction_at image) n

  record Picked (n i : ℕ) : Type 0 where
    pub before : List Tx
    pub after : List Tx
    pub whole : those sought n ≡ before ++ (transaction_at image i ∷ after)
    pub lower : AllLt (transaction_at image i).csn before
    pub least : AllLe (transaction_at image i).csn after
    pub without : (q : ℕ → Bool) → q i ≡ false → ((j : ℕ) → (j ≡ i → ⊥) → q j ≡ sought j) → those q n ≡ before ++ after

  abbrev Good : ℕ → Slot → ℕ → Type 0
  Good n None top = (top ≡ csn.0) × (those sought n ≡ [])
  Good n (Some i) top = (top ≡ (transaction_at image i).csn) × (csn.0 ≤ top) × (i < n) × Picked n i

  -- the one in slot n is the new highest
  new_best : (n : ℕ) → sought n ≡ true → AllLt (transaction_at image n).csn (those sought n) → Picked (suc n) n
  new_best n e l =
      record {
        before = those sought n;
        after = [];
        whole = ap (λ (b : Bool). those sought n ++ one_if b (transaction_at image n)) e;
        lower = l;
        least = nil;
        without = λ q z h. ap₂ (λ (xs : List Tx) (b : Bool). xs ++ one_if b (transaction_at image n))
            (filter_same sought q (transaction_at image) n (λ j k. h j (λ r. omega arith))) z;
      }

  -- it is not, and goes behind
  one_le : (n i : ℕ) (b : Bool) → (b ≡ true → (transaction_at image n).csn ≤ i) → AllLe i (one_if b (transaction_at image n))
  one_le n i true h = cons (h refl) nil
  one_le n i false h = nil

  old_best : (n i : ℕ) → i < n → (sought n ≡ true → (transaction_at image n).csn ≤ (transaction_at image i).csn) → Picked n i → Picked (suc n) i
  old_best n i h l w =
      let o = one_if (sought n) (transaction_at image n) in
      record {
        before = w.before;
        after = w.after ++ o;
        whole = ap (λ (xs : List Tx). xs ++ o) w.whole ∙ append_assoc w.before (transaction_at image i ∷ w.after) o;
        lower = w.lower;
        least = all_append w.least (one_le n (transaction_at image i).csn (sought n) l);
        without = λ q z k.
            ap₂ (λ (xs : List Tx) (t : Bool). xs ++ one_if t (transaction_at image n)) (w.without q z k) (k n (λ r. omega arith))
            ∙ append_assoc w.before w.after o;
      }

  higher : (n i x : ℕ) → (transaction_at image i).csn < x → Picked n i → AllLt x (those sought n)
  higher n i x h w =
      rw w.whole
      (all_append (all_map (λ t p. omega arith) w.lower) (cons h (all_map (λ t p. omega arith) w.least)))

  good : (n : ℕ) → Good n (best_at image found csn n).at (best_at image found csn n).top.0
  good zero = (refl, refl)
  good (suc n) = go (best_at image found csn n).at (best_at image found csn n).top (good n) (lost_at image found (best_at image found csn n).top.0 n) refl
    where
      go : (f : Slot) (top : Csn) → Good n f top.0 → (b : Bool) → lost_at image found top.0 n ≡ b
          → Good (suc n) (cond {A = Best} b (record { at = Some n; top = (slot_at image.txs n).csn }) (record { at = f; top = top })).at
          (cond {A = Best} b (record { at = Some n; top = (slot_at image.txs n).csn }) (record { at = f; top = top })).top.0
      go None top g true e =
          let r = lost_raise image found csn.0 top.0 n (omega (arith, g.0)) e in
          (refl, omega (arith, r.1, g.0), omega arith, new_best n r.0 (rw g.1 nil))
      go None top g false e =
          let k : sought n ≡ false = ap (λ (x : ℕ). lost_at image found x n) (sym g.0) ∙ e in
          (g.0, ap₂ (λ (xs : List Tx) (b : Bool). xs ++ one_if b (transaction_at image n)) g.1 k)
      go (Some i) top g true e =
          let r = lost_raise image found csn.0 top.0 n g.1 e in
          (refl, omega (arith, r.1, g.1), omega arith, new_best n r.0 (higher n i (transaction_at image n).csn (omega (arith, r.1, g.0)) g.3))
      go (Some i) top g false e =
          (g.0, g.1, omega (arith, g.2), old_best n i g.2 (λ k. omega (arith, lost_lower image found csn.0 top.0 n e k, g.0)) g.3)

-- marking a transaction takes it, and no other, off the lists of step 4
module _ (image : Image) (found : Endings) (i : ℕ) where
  lost_self : (n : ℕ) → i < length found → lost_at image (set found i (Some Abort)) n i ≡ false
  unfolding is_lost
  lost_self n h = rw (get_or-set_same found i (Some Abort) None h)

  lost_other : (n j : ℕ) → (j ≡ i → ⊥) → lost_at image (set found i (Some Abort)) n j ≡ lost_at image found n j
  unfolding is_lost
  lost_other n j h = rw (get_or-set_other found i j (Some Abort) None h)

  running_self : i < length found → running_at image (set found i (Some Abort)) i ≡ false
  unfolding is_running
  running_self h = rw (get_or-set_same found i (Some Abort) None h)

  running_other : (j : ℕ) → (j ≡ i → ⊥) → running_at image (set found i (Some Abort)) j ≡ running_at image found j
  unfolding is_running
  running_other j h = rw (get_or-set_other found i j (Some Abort) None h)

  -- a running one is not lost
  not_both : (n : ℕ) → running_at image found i ≡ true → lost_at image found n i ≡ false
  unfolding is_running is_lost
  not_both n e =
      let s : (slot_at image.txs i).status ≡ 1 = eqb-true _ _ (and_right (open_at found i) (eqb (slot_at image.txs i).status 1) e) in
      go (open_at found i) (rw s)
    where
      go : (b : Bool) → eqb (slot_at image.txs i).status 2 ≡ false
          → (b && eqb (slot_at image.txs i).status 2 && ltb n (slot_at image.txs i).csn.0) ≡ false
      go true z = rw z
      go false z = refl

-- lists that agree with those before at all slots but one agree there too, if neither test holds of it
same_but : (p q : ℕ → Bool) (i n : ℕ) → p i ≡ false → q i ≡ false → ((j : ℕ) → (j ≡ i → ⊥) → q j ≡ p j) → (j : ℕ) → j < n → q j ≡ p j
same_but p q i n a b h j l = go (eqb j i) refl
  where
    go : (t : Bool) → eqb j i ≡ t → q j ≡ p j
    go true e = let s = eqb-true j i e in ap q s ∙ b ∙ sym (ap p s ∙ a)
    go false e = h j (eqb-false j i e)

-- ---- by the keys as by the image

module _ (image : Image) (u : StatusByCsn image) (txs : List TxHead) (v : HasKeys image txs) (found : Endings)
    (long : image.count ≤ length found) where
  number_at : (j : ℕ) → j < image.count → (get_or txs j no_head).key.csn ≡ (slot_at image.txs j).csn
  number_at j h = ap (λ (k : Key). k.csn) (v.keys j h)

  running_same : (j : ℕ) → j < image.count → running_in (get_or (zip txs found) j (no_head, None)) ≡ running_at image found j
  unfolding is_running
  running_same j h =
      ap running_in (get_or-zip txs found j (no_head, None) (omega (arith, v.count)) (omega arith))
      ∙ ap (λ (x : Csn). open_at found j && eqb x.0 0) (number_at j h)
      ∙ ap (λ (b : Bool). open_at found j && b) (sym (u.running j h))

  first_running_same : first_running txs found ≡ first_below (running_at image found) image.count
  first_running_same =
      let l : length (zip txs found) ≡ image.count = omega (arith, length-zip txs found, v.count) in
      position_first running_in (zip txs found) (no_head, None)
      ∙ ap (first_below (λ i. running_in (get_or (zip txs found) i (no_head, None)))) l
      ∙ first_same (running_at image found) (λ i. running_in (get_or (zip txs found) i (no_head, None))) image.count running_same

  lost_same : (n j : ℕ) → j < image.count → (open_at found j && ltb n (slot_at image.txs j).csn.0) ≡ lost_at image found n j
  unfolding is_lost
  lost_same n j h = go (open_at found j) (eqb (slot_at image.txs j).csn.0 0) refl (u.committing j h)
    where
      go : (a z : Bool) → eqb (slot_at image.txs j).csn.0 0 ≡ z → eqb (slot_at image.txs j).status 2 ≡ not z
          → (a && ltb n (slot_at image.txs j).csn.0) ≡ (a && eqb (slot_at image.txs j).status 2 && ltb n (slot_at image.txs j).csn.0)
      go true true e s =
          let z : (slot_at image.txs j).csn.0 ≡ 0 = eqb-true _ 0 e in
          rw (s, z, le-ltb n 0 (omega arith))
      go true false e s = rw s
      go false z e s = refl

  best_same : (csn : Csn) (n : ℕ) → n ≤ image.count → best_of txs found csn n ≡ best_at image found csn n
  unfolding better_of
  best_same csn zero h = refl
  best_same csn (suc n) h =
      let b = best_at image found csn n in
      ap₂ (λ (x : Csn) (y : Best). cond (open_at found n && ltb y.top.0 x.0) (record { at = Some n; top = x }) y)
      (number_at n h) (best_same csn n (omega arith))
      ∙ ap (λ (t : Bool). cond {A = Best} t (record { at = Some n; top = (slot_at image.txs n).csn }) b) (lost_same b.top.0 n h)

-- ---- a turn of the code's loop

-- what step 4 undoes, for these endings
abbrev pub left_by : Image → Endings → ℕ → List Tx
left_by image found n = filter_below (running_at image found) (transaction_at image) image.count ++ sort_desc (lost_by image found n)

pub left_is : (image : Image) (p : Pass) → undone_of image p ≡ left_by image p.found p.csn.0
unfolding running_of lost_of
left_is image p = refl

pub left_few : (image : Image) (found : Endings) (n : ℕ) → length (left_by image found n) ≤ image.count
left_few image found n =
    let rs = filter_below (running_at image found) (transaction_at image) image.count in
    omega (
      arith,
      length-append rs (sort_desc (lost_by image found n)),
      sort_length (lost_by image found n),
      filter_both (running_at image found) (lost_at image found n) (transaction_at image) image.count (λ j. not_both image found j n),
    )

module _ (image : Image) (u : StatusByCsn image) (txs : List TxHead) (v : HasKeys image txs) (found : Endings)
    (long : image.count ≤ length found) (csn : Csn) where
  abbrev runs : ℕ → Bool
  runs = running_at image found

  abbrev Next : ℕ → Type 0
  Next i = (i < image.count) × (left_by image found csn.0 ≡ transaction_at image i ∷ left_by image (set found i (Some Abort)) csn.0)

  -- the first running one
  next_running : (i : ℕ) → first_below runs image.count ≡ Some i → Next i
  next_running i e =
      let f = first_at runs image.count i e in
      let here = filter_first runs (running_at image (set found i (Some Abort))) (transaction_at image) image.count i e
      (running_self image found i (omega (arith, f.0))) (running_other image found i) in
      let lost = filter_same (lost_at image found csn.0) (lost_at image (set found i (Some Abort)) csn.0) (transaction_at image) image.count
      (same_but (lost_at image found csn.0) (lost_at image (set found i (Some Abort)) csn.0) i image.count (not_both image found i csn.0 f.1)
      (lost_self image found i csn.0 (omega (arith, f.0))) (lost_other image found i csn.0)) in
      (f.0, ap₂ (λ (xs ys : List Tx). xs ++ sort_desc ys) here (sym lost))

  -- none is left, and the one with the highest number
  next_lost : (i : ℕ) → first_below runs image.count ≡ None → (best_at image found csn image.count).at ≡ Some i → Next i
  next_lost i e b =
      at (subst (λ (f : Slot). Good image found csn image.count f (best_at image found csn image.count).top.0) b (good image found csn image.count))
    where
      none : (i : ℕ) → i < image.count → filter_below (running_at image (set found i (Some Abort))) (transaction_at image) image.count ≡ []
      none i h =
          filter_same runs (running_at image (set found i (Some Abort))) (transaction_at image) image.count
          (same_but runs (running_at image (set found i (Some Abort))) i image.count (first_none runs image.count e i h)
          (running_self image found i (omega (arith, h))) (running_other image found i))
          ∙ filter_none runs (transaction_at image) image.count e

      at : Good image found csn image.count (Some i) (best_at image found csn image.count).top.0 → Next i
      at g =
          let w = g.3 in
          let r : lost_by image (set found i (Some Abort)) csn.0 ≡ w.before ++ w.after =
          w.without (lost_at image (set found i (Some Abort)) csn.0) (lost_self image found i csn.0 (omega (arith, g.2))) (lost_other image found i csn.0) in
          let lost : sort_desc (lost_by image found csn.0) ≡ transaction_at image i ∷ sort_desc (lost_by image (set found i (Some Abort)) csn.0) =
          ap sort_desc w.whole ∙ sort_pick (transaction_at image i) w.after w.lower w.least
          ∙ ap (λ (xs : List Tx). transaction_at image i ∷ sort_desc xs) (sym r) in (
            g.2,
            ap₂ (λ (xs ys : List Tx). xs ++ ys) (filter_none runs (transaction_at image) image.count e) lost
                ∙ sym (ap (λ (xs : List Tx). transaction_at image i ∷ (xs ++ sort_desc (lost_by image (set found i (Some Abort)) csn.0))) (none i g.2)),
          )

  next_by : next_of txs found csn ≡ or_best (first_below runs image.count) (best_at image found csn image.count)
  next_by =
      ap₂ or_best (first_running_same image u txs v found long)
      (ap (best_of txs found csn) v.count ∙ best_same image u txs v found long csn image.count (omega arith))

  pub next_some : (i : ℕ) → next_of txs found csn ≡ Some i → Next i
  next_some i e = go (first_below runs image.count) refl (sym next_by ∙ e)
    where
      go : (x : Slot) → first_below runs image.count ≡ x → or_best x (best_at image found csn image.count) ≡ Some i → Next i
      go (Some j) q z = let s : j ≡ i = cc in next_running i (q ∙ ap Some s)
      go None q z = next_lost i q z

  pub next_none : next_of txs found csn ≡ None → left_by image found csn.0 ≡ []
  next_none e = go (first_below runs image.count) refl (sym next_by ∙ e)
    where
      go : (x : Slot) → first_below runs image.count ≡ x → or_best x (best_at image found csn image.count) ≡ None → left_by image found csn.0 ≡ []
      go (Some j) q z = clash (cc)
      go None q z =
          let g : Good image found csn image.count None (best_at image found csn image.count).top.0 =
          subst (λ (f : Slot). Good image found csn image.count f (best_at image found csn image.count).top.0) z (good image found csn image.count) in
          ap₂ (λ (xs ys : List Tx). xs ++ sort_desc ys) (filter_none runs (transaction_at image) image.count q) g.1
