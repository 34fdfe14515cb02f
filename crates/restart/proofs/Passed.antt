-- What the pass over groups leaves: the endings, memory as recovery's `forward` has it, and the numbers.
use Prim.Native.Nat.{ℕ, zero, suc, ◌+◌, ◌≤◌, ◌<◌, max}
use native.Mathlib.Omega.{arith}
use mathlib.Core.Bool.{Bool, true, false, cond, not, ◌||◌}
use mathlib.Core.List.{List, [], ◌∷◌}
use mathlib.Core.Option.{Option}
use mathlib.Core.Path.{◌≡◌, refl, sym, ap, ◌∙◌}
use lib.ListN.{length, get_or, set, replicate, length-set}
use lib.Dec.{eqb}
use lib.Seq.{get_or-set_same, get_or-set_other}
use borrow.Author.Tests.{eqb-true, eqb-false, ne_eqb}
use Rattle.recovery.specs.Group.{Group, committed, aborted, groups_size, last_csn}
use Rattle.recovery.specs.Lists.{All, nil, cons, has}
use Rattle.recovery.specs.Transaction.{Tx}
use Rattle.recovery.specs.Replay.{undo_all, lay_bytes}
use Rattle.recovery.specs.Restart.{group_id, finished, undo_records, undo_of, forward}
use Rattle.recovery.proofs.Lists.{all_map}
use Rattle.image.specs.declared.Image.{Image}
use Rattle.image.specs.Rules.{keeps_rules}
use Rattle.image.proofs.Rules.{image_count}
use Rattle.std.specs.Prelude.{Some, None}
use Rattle.image.specs.Content.{transactions_in}
use Rattle.restart.specs.Slots.{Slot, transaction_at, has_id_at, image_slot}
use Rattle.std.specs.Prelude.{Option as Maybe, is_none}
use Rattle.std.specs.Option.{option_or}
use Rattle.restart.specs.declared.forward.Ending.{Ending}
use Rattle.restart.specs.declared.forward.Ending.TheVariants.{Commit, Abort}
use Rattle.restart.specs.Forward.{Went, Endings, open_at, ending_of, marked, undo_logged, past, after_group, go_over, start_of}
use Rattle.restart.proofs.SlotLaws.{first_at, first_none}
use Rattle.restart.proofs.Rules.{same_slot, lookup_at, lookup_nowhere}

pub none_at : (k i : ℕ) → ◌≡◌ {A = Maybe Ending} (get_or (replicate k None) i None) None
none_at zero i = refl
none_at (suc k) zero = refl
none_at (suc k) (suc i) = none_at k i

-- ---- the numbers

-- the highest id in groups; 0 if there are none
abbrev pub highest_id : List Group → ℕ
highest_id [] = 0
highest_id (g ∷ gs) = max (group_id g) (highest_id gs)

pub ids_below : (gs : List Group) → All (λ g. group_id g ≤ highest_id gs) gs
ids_below [] = nil
ids_below (g ∷ gs) = cons {x = g} (omega arith) (all_map (λ h l. omega arith) (ids_below gs))

pub record Counted (image : Image) (gs : List Group) (w : Went) : Type 0 where
  pub end : (go_over image gs w).pass.end ≡ w.pass.end + groups_size gs
  pub csn : (go_over image gs w).pass.csn.0 ≡ last_csn w.pass.csn.0 gs
  pub last : (go_over image gs w).pass.last.0 ≡ max w.pass.last.0 (highest_id gs)

pub counted : (image : Image) (gs : List Group) (w : Went) → Counted image gs w
unfolding past
counted image [] w = record { end = omega arith; csn = refl; last = omega arith }
counted image (g ∷ gs) w =
    let r = counted image gs (after_group image g w) in
    let e = r.end in
    let l = r.last in
    record { end = omega arith; csn = r.csn; last = omega arith }

-- ---- the endings

-- how an id ends: the first of its groups decides
abbrev pub first_ending : ℕ → List Group → Maybe Ending
first_ending id [] = None
first_ending id (g ∷ gs) = cond (eqb id (group_id g)) (Some (ending_of g)) (first_ending id gs)

marked_length : (found : Endings) (ending : Ending) (x : Slot) → length (marked found ending x) ≡ length found
marked_length found ending None = refl
marked_length found ending (Some k) = go (open_at found k)
  where
    go : (b : Bool) → length (cond b (set found k (Some ending)) found) ≡ length found
    go true = length-set found k (Some ending)
    go false = refl

marked_other : (found : Endings) (ending : Ending) (k i : ℕ) → (i ≡ k → ⊥) → get_or (marked found ending (Some k)) i None ≡ get_or found i None
marked_other found ending k i h = go (open_at found k)
  where
    go : (b : Bool) → get_or (cond b (set found k (Some ending)) found) i None ≡ get_or found i None
    go true = get_or-set_other found k i (Some ending) None h
    go false = refl

marked_here : (found : Endings) (ending : Ending) (k : ℕ) → k < length found
    → get_or (marked found ending (Some k)) k None ≡ option_or (get_or found k None) (Some ending)
marked_here found ending k h = go (get_or found k None) refl
  where
    go : (x : Maybe Ending) → get_or found k None ≡ x → get_or (cond (is_none x) (set found k (Some ending)) found) k None ≡ option_or x (Some ending)
    go None e = get_or-set_same found k (Some ending) None h
    go (Some y) e = e

-- a slot that is not used stays as it is
unused_kept : (image : Image) (found : Endings) (ending : Ending) (id i : ℕ) → image.count ≤ i
    → get_or (marked found ending (image_slot image id)) i None ≡ get_or found i None
unused_kept image found ending id i h = go (image_slot image id) refl
  where
    go : (x : Slot) → image_slot image id ≡ x → get_or (marked found ending x) i None ≡ get_or found i None
    go None q = refl
    go (Some k) q = marked_other found ending k i (λ e. omega (arith, (first_at (has_id_at image id) image.count k q).0))

module _ (image : Image) (ok : keeps_rules image ≡ true) where
  marked_at : (found : Endings) (ending : Ending) (id i : ℕ) → length found ≡ 8 → i < image.count
      → get_or (marked found ending (image_slot image id)) i None
      ≡ cond (eqb (transaction_at image i).id id) (option_or (get_or found i None) (Some ending)) (get_or found i None)
  marked_at found ending id i l h = go (image_slot image id) refl
    where
      at : (k : ℕ) → image_slot image id ≡ Some k → (b : Bool) → eqb i k ≡ b
          → get_or (marked found ending (Some k)) i None
          ≡ cond (eqb (transaction_at image i).id id) (option_or (get_or found i None) (Some ending)) (get_or found i None)
      at k q true e =
          let s : i ≡ k = eqb-true i k e in
          let f = first_at (has_id_at image id) image.count k q in
          rw (s, f.1) (marked_here found ending k (omega (arith, f.0, l, image_count image ok)))
      at k q false e =
          let n = eqb-false i k e in
          let f = first_at (has_id_at image id) image.count k q in
          rw (ne_eqb _ id (λ z. same_slot image ok i k h f.0 (z ∙ sym (eqb-true _ id f.1)) n)) (marked_other found ending k i n)

      go : (x : Slot) → image_slot image id ≡ x
          → get_or (marked found ending x) i None
          ≡ cond (eqb (transaction_at image i).id id) (option_or (get_or found i None) (Some ending)) (get_or found i None)
      go None q = rw (first_none (has_id_at image id) image.count q i h)
      go (Some k) q = at k q (eqb i k) refl

  pub endings_from : (gs : List Group) (w : Went) (i : ℕ) → length w.pass.found ≡ 8 → i < image.count
      → get_or (go_over image gs w).pass.found i None ≡ option_or (get_or w.pass.found i None) (first_ending (transaction_at image i).id gs)
  unfolding past
  endings_from [] w i l h = go (get_or w.pass.found i None)
    where
      go : (x : Maybe Ending) → x ≡ option_or x None
      go None = refl
      go (Some y) = refl
  endings_from (g ∷ gs) w i l h =
      let v = after_group image g w in
      endings_from gs v i (marked_length w.pass.found (ending_of g) (image_slot image (group_id g)) ∙ l) h
      ∙ ap (λ (x : Maybe Ending). option_or x (first_ending (transaction_at image i).id gs)) (marked_at w.pass.found (ending_of g) (group_id g) i l h)
      ∙ go (eqb (transaction_at image i).id (group_id g)) (get_or w.pass.found i None)
    where
      go : (b : Bool) (x : Maybe Ending)
          → option_or (cond b (option_or x (Some (ending_of g))) x) (first_ending (transaction_at image i).id gs)
          ≡ option_or x (cond b (Some (ending_of g)) (first_ending (transaction_at image i).id gs))
      go true None = refl
      go true (Some y) = refl
      go false None = refl
      go false (Some y) = refl

  -- ---- the endings and the ids that are finished

  abbrev pub Marks : Endings → List ℕ → Type 0
  Marks found f = (i : ℕ) → i < image.count → has (transaction_at image i).id f ≡ not (open_at found i)

  mark_group : (found : Endings) (f : List ℕ) (ending : Ending) (id : ℕ) → length found ≡ 8 → Marks found f
      → Marks (marked found ending (image_slot image id)) (id ∷ f)
  mark_group found f ending id l r i h =
      rw (marked_at found ending id i l h) (go (eqb (transaction_at image i).id id) (get_or found i None) (r i h))
    where
      go : (b : Bool) (x : Maybe Ending) → has (transaction_at image i).id f ≡ not (is_none x)
          → (b || has (transaction_at image i).id f) ≡ not (is_none (cond b (option_or x (Some ending)) x))
      go true None q = refl
      go true (Some y) q = refl
      go false x q = q

  abort_group_lem : (found : Endings) (f m : List ℕ) (id : ℕ) → Marks found f
      → undo_logged image found (image_slot image id) m ≡ cond (has id f) m (undo_all lay_bytes (undo_of id (transactions_in image)) m)
  abort_group_lem found f m id r = go (image_slot image id) refl
    where
      same : (b : Bool) → m ≡ cond b m m
      same true = refl
      same false = refl

      flip : (b : Bool) (u : List ℕ) → cond b u m ≡ cond (not b) m u
      flip true u = refl
      flip false u = refl

      go : (x : Slot) → image_slot image id ≡ x → undo_logged image found x m ≡ cond (has id f) m (undo_all lay_bytes (undo_of id (transactions_in image)) m)
      go None q = same (has id f) ∙ ap (λ (t : Option Tx). cond (has id f) m (undo_all lay_bytes (undo_records t) m)) (sym (lookup_nowhere image ok id q))
      go (Some k) q =
          let p = first_at (has_id_at image id) image.count k q in
          let e : has id f ≡ not (open_at found k) = ap (λ (x : ℕ). has x f) (sym (eqb-true _ id p.1)) ∙ r k p.0 in
          flip (open_at found k) (undo_all lay_bytes (transaction_at image k).undo m)
          ∙ ap (λ (b : Bool). cond b m (undo_all lay_bytes (transaction_at image k).undo m)) (sym e)
          ∙ ap (λ (t : Option Tx). cond (has id f) m (undo_all lay_bytes (undo_records t) m)) (sym (lookup_at image ok id k q))

  -- ---- the pass is recovery's

  pub record Seen (gs : List Group) (w : Went) (f : List ℕ) : Type 0 where
    pub memory : (go_over image gs w).memory ≡ forward lay_bytes (transactions_in image) gs f w.memory
    pub marks : Marks (go_over image gs w).pass.found (finished gs f)

  pub seen : (gs : List Group) (w : Went) (f : List ℕ) → length w.pass.found ≡ 8 → Marks w.pass.found f → Seen gs w f
  unfolding past
  seen [] w f l r = record { memory = refl; marks = r }
  seen (committed id n ws ∷ gs) w f l r =
      let s =
      seen gs (after_group image (committed id n ws) w) (id ∷ f) (marked_length w.pass.found Commit (image_slot image id) ∙ l)
      (mark_group w.pass.found f Commit id l r) in
      record { memory = s.memory; marks = s.marks }
  seen (aborted id ∷ gs) w f l r =
      let s =
      seen gs (after_group image (aborted id) w) (id ∷ f) (marked_length w.pass.found Abort (image_slot image id) ∙ l)
      (mark_group w.pass.found f Abort id l r) in
      record {
        memory = s.memory ∙ ap (forward lay_bytes (transactions_in image) gs (id ∷ f)) (abort_group_lem w.pass.found f w.memory id r);
        marks = s.marks;
      }

  -- from the start: none has an ending, and no id is finished
  pub started : (gs : List Group) (m : List ℕ) → Seen gs (start_of image m) []
  started gs m = seen gs (start_of image m) [] refl (λ i h. sym (ap (λ (x : Maybe Ending). not (is_none x)) (none_at 8 i)))

-- slots that are not used
pub unused_endings : (image : Image) (gs : List Group) (w : Went) (i : ℕ) → image.count ≤ i
    → get_or (go_over image gs w).pass.found i None ≡ get_or w.pass.found i None
unfolding past
unused_endings image [] w i h = refl
unused_endings image (g ∷ gs) w i h =
    unused_endings image gs (after_group image g w) i h ∙ unused_kept image w.pass.found (ending_of g) (group_id g) i h
