-- Laws of the pass over the log, a group at a time.
use Prim.Native.Nat.{ℕ, suc, ◌+◌, ◌-◌, ◌≤◌, ◌<◌}
use native.Mathlib.Omega.{arith}
use mathlib.Core.Bool.{Bool, true, false, cond}
use mathlib.Core.List.{List, [], ◌∷◌}
use mathlib.Core.Option.{Option, none, some}
use mathlib.Core.Path.{◌≡◌, refl, sym, ap, ◌∙◌}
use lib.Dec.{eqb}
use lib.ListN.{length, take, drop, length-drop}
use lib.Seq.{drop-drop, take-nil}
use Rattle.recovery.specs.Group.{Write, Group, committed, aborted, redo_size, group_size, csn_after}
use Rattle.recovery.specs.Replay.{redo_all, undo_all, lay_bytes}
use Rattle.redolog.specs.Group.{read_group}
use Rattle.redolog.specs.Log.{read_log}
use Rattle.redolog.proofs.Basics.{clash}
use Rattle.redolog.proofs.GroupLaws.{group_inv, group_within}
use Rattle.redolog.proofs.LogLaws.{log_none, log_more}
use Rattle.image.specs.declared.Image.{Image}
use Rattle.image.specs.declared.read.TxHead.{TxHead}
use Rattle.image.specs.Keys.{no_head}
use Rattle.restart.specs.declared.forward.Pass.{Pass}
use Rattle.restart.specs.declared.forward.Turn.{Turn}
use Rattle.std.specs.Prelude.{Some, None}
use Rattle.std.specs.Prelude.{Option as Maybe}
use Rattle.restart.specs.Slots.{Slot, transaction_at, image_slot}
use Rattle.restart.specs.Forward.{Endings, open_at, Went, went_by, undo_logged, past, after_group, go_over}
use Rattle.restart.specs.declared.forward.Ending.TheVariants.{Commit, Abort}
use Rattle.restart.specs.Turns.{slot_in, unfinished_at, front_writes, TurnEnd, turn_end_by, on_group, turn_step}
use Rattle.restart.proofs.Shown.{HasKeys}
use Rattle.restart.proofs.SlotLaws.{slot_in_lem}
use Rattle.std.proofs.lemmas.List.Quantifiers.{position-Some}
use Rattle.restart.proofs.RedoLaws.{front_body}

-- what the pass leads to from here, over k groups more
abbrev pub rest : ℕ → Image → List ℕ → Went → Went
rest k image log w = go_over image (take k (read_log w.pass.csn.0 (drop w.pass.end log))) w

-- the group at the end reached, if one stands there
abbrev on_found : Image → Option Group → Went → Went
on_found image none w = w
on_found image (some g) w = after_group image g w

unfoldable pub group_step : Image → List ℕ → Went → Went
group_step image log w = on_found image (read_group w.pass.csn.0 (drop w.pass.end log)) w

-- a group lies within the log
pub step_room : (log : List ℕ) (p : Pass) (g : Group) → p.end ≤ length log → read_group p.csn.0 (drop p.end log) ≡ some g
    → p.end + group_size g ≤ length log
step_room log p g h e = omega (arith, group_within _ _ g e, length-drop p.end log)

module _ (image : Image) (log : List ℕ) (w : Went) where
  abbrev here : Option Group
  here = read_group w.pass.csn.0 (drop w.pass.end log)

  step_by : (x : Option Group) → here ≡ x → group_step image log w ≡ on_found image x w
  unfolding group_step
  step_by x e = ap (λ (y : Option Group). on_found image y w) e

  step_none : here ≡ none → group_step image log w ≡ w
  step_none e = step_by none e

  end_after : (g : Group) → (after_group image g w).pass.end ≡ w.pass.end + group_size g
  unfolding past
  end_after g = refl

  -- none stands there
  pub rest_none : (k : ℕ) → here ≡ none → rest k image log w ≡ w
  rest_none k e = ap (λ (gs : List Group). go_over image (take k gs) w) (log_none _ _ e) ∙ ap (λ (gs : List Group). go_over image gs w) (take-nil k)

  rest_group : (k : ℕ) (g : Group) → here ≡ some g → rest (suc k) image log w ≡ rest k image log (after_group image g w)
  unfolding past
  rest_group k g e =
      ap (λ (gs : List Group). go_over image (take (suc k) gs) w) (log_more _ _ g e)
      ∙ ap (λ (s : List ℕ). go_over image (take k (read_log (csn_after w.pass.csn.0 g) s)) (after_group image g w))
      (drop-drop (group_size g) w.pass.end log)

  -- one group less is left to go over
  pub rest_more : (k : ℕ) → rest (suc k) image log w ≡ rest k image log (group_step image log w)
  rest_more k = go here refl
    where
      go : (x : Option Group) → here ≡ x → rest (suc k) image log w ≡ rest k image log (group_step image log w)
      go none e = rest_none (suc k) e ∙ sym (rest_none k e) ∙ ap (rest k image log) (sym (step_none e))
      go (some g) e = rest_group k g e ∙ ap (rest k image log) (sym (step_by (some g) e))

  -- a turn of the code's loop, and its end
  pub rest_step : (k : ℕ) → 0 < k → rest k image log w ≡ rest (k - 1) image log (group_step image log w)
  rest_step k h = let e : k ≡ suc (k - 1) = omega arith in ap (λ (j : ℕ). rest j image log w) e ∙ rest_more (k - 1)

  pub rest_zero : (k : ℕ) → k ≡ 0 → rest k image log w ≡ w
  rest_zero k e = ap (λ (j : ℕ). rest j image log w) e

  grown : (g : Group) → here ≡ some g → (group_step image log w).pass.end ≡ w.pass.end + group_size g
  grown g e = ap (λ (v : Went). v.pass.end) (step_by (some g) e) ∙ end_after g

  pub step_within : w.pass.end ≤ length log → ((group_step image log w).pass.end ≤ length log) × (w.pass.end ≤ (group_step image log w).pass.end)
  step_within h = go here refl
    where
      go : (x : Option Group) → here ≡ x → ((group_step image log w).pass.end ≤ length log) × (w.pass.end ≤ (group_step image log w).pass.end)
      go none e = let k : (group_step image log w).pass.end ≡ w.pass.end = ap (λ (v : Went). v.pass.end) (step_none e) in (omega arith, omega arith)
      go (some g) e =
          let k = grown g e in
          let r = step_room log w.pass g h e in
          (omega arith, omega arith)

  -- the last turn where no group stands any more: the end stands still
  pub rest_done : (k : ℕ) → (group_step image log w).pass.end ≡ w.pass.end → rest k image log w ≡ group_step image log w
  rest_done k h = go here refl
    where
      go : (x : Option Group) → here ≡ x → rest k image log w ≡ group_step image log w
      go none e = rest_none k e ∙ sym (step_none e)
      go (some g) e =
          let k = grown g e in
          let z = group_within _ _ g e in
          absurd (omega arith)

-- ---- a turn of the code: what an abort undoes is undone after it

-- the transaction in this slot undone
abbrev pub undone_at : Image → Slot → List ℕ → List ℕ
undone_at image None m = m
undone_at image (Some i) m = undo_all lay_bytes (transaction_at image i).undo m

abbrev pub after_turn : Image → Went → List ℕ → Maybe Turn → Went
after_turn image w m None = w
after_turn image w m (Some t) = went_by (undone_at image t.undo m) t.pass

abbrev pub undone_turn : Image → Went → TurnEnd → Went
undone_turn image w s = after_turn image w s.memory s.turn

undo_same : (image : Image) (found : Endings) (slot : Slot) (m : List ℕ) → undo_logged image found slot m ≡ undone_at image (unfinished_at found slot) m
undo_same image found None m = refl
undo_same image found (Some i) m = go (open_at found i)
  where
    go : (b : Bool) → cond b (undo_all lay_bytes (transaction_at image i).undo m) m ≡ undone_at image (cond b (Some i) None) m
    go true = refl
    go false = refl

module _ (txs : List TxHead) (log : List ℕ) (w : Went) where
  abbrev read : Option Group
  read = read_group w.pass.csn.0 (drop w.pass.end log)

  turn_by : (x : Option Group) → read ≡ x → turn_step txs log w ≡ on_group txs x w
  unfolding turn_step
  turn_by x e = ap (λ (y : Option Group). on_group txs y w) e

  pub turn_none : read ≡ none → turn_step txs log w ≡ record { memory = w.memory; turn = None }
  turn_none e = turn_by none e

  pub turn_abort : (id k : ℕ) (slot undo : Slot) → read ≡ some (aborted id) → k ≡ 4 → slot ≡ slot_in txs id → undo ≡ unfinished_at w.pass.found slot
      → turn_step txs log w ≡ turn_end_by w.memory (past w.pass slot id w.pass.csn.0 Abort (w.pass.end + k)) undo
  turn_abort id k slot undo e h x q = rw (q, h, x) (turn_by _ e)

  pub turn_commit : (id csn k : ℕ) (slot : Slot) (ws : List Write) (m : List ℕ) → read ≡ some (committed id csn ws)
      → k ≡ redo_size ws + 8 → slot ≡ slot_in txs id → m ≡ redo_all lay_bytes (front_writes (drop w.pass.end log)) w.memory
      → turn_step txs log w ≡ turn_end_by m (past w.pass slot id csn Commit (w.pass.end + k)) None
  turn_commit id csn k slot ws m e h x q =
      let f = front_body (w.pass.csn.0 + 1) id ws (drop w.pass.end log) (group_inv _ _ (committed id csn ws) e).1 in
      rw (q, h, x, f) (turn_by _ e)

  -- a commit alone leaves memory
  pub turn_empty : (id csn k : ℕ) (slot : Slot) (ws : List Write) → read ≡ some (committed id csn ws) → k ≡ redo_size ws + 8 → k ≡ 8
      → slot ≡ slot_in txs id → turn_step txs log w ≡ turn_end_by w.memory (past w.pass slot id csn Commit (w.pass.end + k)) None
  turn_empty id csn k slot [] e h z x = rw (h, x) (turn_by _ e)
  turn_empty id csn k slot (v ∷ ws) e h z x = absurd (omega (arith, h, z))

  -- the two parts of a turn from those of what it is
  pub as_turn : (v : TurnEnd) (t : Maybe Turn) (m : List ℕ) → turn_step txs log w ≡ v → t ≡ v.turn → m ≡ v.memory
      → (t ≡ (turn_step txs log w).turn) × (m ≡ (turn_step txs log w).memory)
  as_turn v t m e a b = (a ∙ ap (λ (x : TurnEnd). x.turn) (sym e), b ∙ ap (λ (x : TurnEnd). x.memory) (sym e))

  -- no turn: no group stands there, and memory stays
  pub turn_stop : (turn_step txs log w).turn ≡ None → (read ≡ none) × ((turn_step txs log w).memory ≡ w.memory)
  turn_stop h = go read refl
    where
      go : (x : Option Group) → read ≡ x → (read ≡ none) × ((turn_step txs log w).memory ≡ w.memory)
      go none e = (e, ap (λ (x : TurnEnd). x.memory) (turn_none e))
      go (some g) e = let z = sym (ap (λ (x : TurnEnd). x.turn) (turn_by (some g) e)) ∙ h in clash (cc)

  -- one that is to be undone has a slot, and its abort record was passed
  pub turn_undo : (t : Turn) (i : ℕ) → (turn_step txs log w).turn ≡ Some t → t.undo ≡ Some i → (i < length txs) × (w.pass.end < t.pass.end)
  unfolding past
  turn_undo t i h u = go read refl
    where
      found : (id : ℕ) (x : Slot) → slot_in txs id ≡ x → unfinished_at w.pass.found x ≡ Some i → i < length txs
      found id None e q = clash (cc)
      found id (Some j) e q =
          let s = at_same (open_at w.pass.found j) j q in
          omega (arith, s, (position-Some (λ (t : TxHead). eqb t.key.id.0 id) txs j no_head e).0)
        where
          at_same : (b : Bool) (j : ℕ) → cond b (Some j) None ≡ Some i → j ≡ i
          at_same true j q = cc
          at_same false j q = clash (cc)

      turned : (m : List ℕ) (p : Pass) (x : Slot) → turn_step txs log w ≡ turn_end_by m p x → (x ≡ Some i) × (p.end ≡ t.pass.end)
      turned m p x e =
          let z : ◌≡◌ {A = Maybe Turn} (Some (record { pass = p; undo = x })) (Some t) = sym (ap (λ (x : TurnEnd). x.turn) e) ∙ h in
          let y : ◌≡◌ {A = Turn} (record { pass = p; undo = x }) t = cc in
          (ap (λ (t : Turn). t.undo) y ∙ u, ap (λ (t : Turn). t.pass.end) y)

      go : (x : Option Group) → read ≡ x → (i < length txs) × (w.pass.end < t.pass.end)
      go none e = let z = sym (ap (λ (x : TurnEnd). x.turn) (turn_none e)) ∙ h in clash (cc)
      go (some (committed id c ws)) e = let z = (turned _ _ _ (turn_by _ e)).0 in clash (cc)
      go (some (aborted id)) e =
          let z = turned _ _ _ (turn_by (some (aborted id)) e) in
          let k : w.pass.end + 4 ≡ t.pass.end = z.1 in
          (found id (slot_in txs id) refl z.0, omega (arith, k))

-- for heads that have the keys of the image
pub turn_step_lem : (image : Image) (txs : List TxHead) (log : List ℕ) (w : Went) → HasKeys image txs
    → group_step image log w ≡ undone_turn image w (turn_step txs log w)
turn_step_lem image txs log w v = go (read_group w.pass.csn.0 (drop w.pass.end log)) refl
  where
    same : (id : ℕ) → image_slot image id ≡ slot_in txs id
    same id = sym (slot_in_lem image txs v id)

    turned : (x : Option Group) → read_group w.pass.csn.0 (drop w.pass.end log) ≡ x
        → undone_turn image w (on_group txs x w) ≡ undone_turn image w (turn_step txs log w)
    turned x e = ap (undone_turn image w) (sym (turn_by txs log w x e))

    go : (x : Option Group) → read_group w.pass.csn.0 (drop w.pass.end log) ≡ x
        → group_step image log w ≡ undone_turn image w (turn_step txs log w)
    go none e = step_none image log w e ∙ turned none e
    go (some (committed id c ws)) e =
        step_by image log w _ e
        ∙ ap (λ (slot : Slot). went_by (redo_all lay_bytes ws w.memory) (past w.pass slot id c Commit (w.pass.end + (redo_size ws + 8)))) (same id)
        ∙ turned _ e
    go (some (aborted id)) e =
        step_by image log w _ e
        ∙ ap (λ (slot : Slot).
        went_by (undo_logged image w.pass.found slot w.memory) (past w.pass slot id w.pass.csn.0 Abort (w.pass.end + 4))) (same id)
        ∙ ap (λ (m : List ℕ). went_by m (past w.pass (slot_in txs id) id w.pass.csn.0 Abort (w.pass.end + 4)))
        (undo_same image w.pass.found (slot_in txs id) w.memory)
        ∙ turned _ e
