-- What judges a call looks at the counters, and at id, status, commit number and ranges of the transactions listed: states that are alike in these
-- are admitted alike, as states that show the same are.
use Prim.Native.Nat.{ℕ, zero, suc, ◌+◌, ◌≤◌, ◌<◌}
use native.Mathlib.Omega.{arith}
use mathlib.Core.Bool.{Bool, true, false, cond, not, ◌&&◌, ◌||◌}
use mathlib.Core.List.{List, [], ◌∷◌, ◌++◌}
use mathlib.Core.Path.{◌≡◌, refl, ap, ap₂, ◌∙◌}
use lib.ListN.{length}
use lib.Dec.{eqb, ltb}
use borrow.Author.Tests.{eqb-true}
use Rattle.recovery.specs.Lists.{any}
use Rattle.transaction.specs.declared.Tx.{Tx}
use Rattle.transaction.specs.Lists.{up_from, every, sum_of}
use Rattle.transaction.specs.View.{Range, ranges_of, used_by, outline, outline_of}
use Rattle.transaction.specs.Rules.{state_ok, meets, held_from, held_against, ranges_size, room_of}
use Rattle.transaction.proofs.Lists.{up_same, any_same, every_same, sum_same}
use Rattle.transaction.proofs.StateRule.{state_same}
use Rattle.image.specs.Rules.{image_ok}
use Rattle.store.specs.declared.State.{State}
use Rattle.store.specs.State.{tx_at, txs_of, outline_at, outlines_of, has_id, slot_in, slot_of}
use Rattle.store.specs.Rules.{keeps_image_rules, tail_length, tail_ok, room_used, unfit}
use Rattle.store.specs.Numbers.{Check, check, first_number, number_by}
use Rattle.store.specs.Admission.{Admission, not_admitted, refusal, admission, disk_admission, choice}
use Rattle.store.specs.Same.{SameRanges, SameSavepoints, SameTx, ShowsSame}

pub record AlikeTx (t u : Tx) : Type 0 where
  pub id : t.id.0 ≡ u.id.0
  pub status : t.status ≡ u.status
  pub csn : t.csn.0 ≡ u.csn.0
  pub undo : SameRanges t.undo.ranges u.undo.ranges
  pub redo : t.status ≡ 1 → SameRanges t.redo.ranges u.redo.ranges
  pub reads : SameRanges t.extras.reads u.extras.reads
  pub savepoints : SameSavepoints t.extras.savepoints u.extras.savepoints

pub record Alike (s r : State) : Type 0 where
  pub recovered : s.recovered ≡ r.recovered
  pub logend : s.logend ≡ r.logend
  pub ondisk : s.ondisk.0 ≡ r.ondisk.0
  pub assigned : s.assigned.0 ≡ r.assigned.0
  pub lastid : s.lastid.0 ≡ r.lastid.0
  pub count : s.count ≡ r.count
  pub listed : (i : ℕ) → i < s.count → AlikeTx (tx_at s i) (tx_at r i)

pub shown_tx : (t u : Tx) → SameTx t u → AlikeTx t u
shown_tx t u h =
    record {
      id = h.id;
      status = h.status;
      csn = h.csn;
      undo = record { count = h.undo.count; ranges = h.undo.ranges };
      redo = λ e. record { count = (h.redo e).count; ranges = (h.redo e).ranges };
      reads = h.reads;
      savepoints = h.savepoints;
    }

pub shown : (s r : State) → ShowsSame s r → Alike s r
shown s r h =
    record {
      recovered = h.recovered;
      logend = h.logend;
      ondisk = h.ondisk;
      assigned = h.assigned;
      lastid = h.lastid;
      count = h.count;
      listed = λ i l. shown_tx (tx_at s i) (tx_at r i) (h.listed i l);
    }

-- ---- one transaction

module _ (t u : Tx) (h : AlikeTx t u) where
  outline_same : outline_of t ≡ outline_of u
  outline_same =
      ap (λ (n : ℕ). outline n t.status t.csn.0 (ranges_of t.undo.ranges)) h.id
      ∙ ap (λ (n : ℕ). outline u.id.0 n t.csn.0 (ranges_of t.undo.ranges)) h.status
      ∙ ap (λ (n : ℕ). outline u.id.0 u.status n (ranges_of t.undo.ranges)) h.csn
      ∙ ap (λ (rs : List Range). outline u.id.0 u.status u.csn.0 rs) h.undo.ranges

  room_same : room_of t ≡ room_of u
  room_same = go (eqb t.status 1) refl ∙ ap (λ (n : ℕ). cond (eqb n 1) (ranges_size (ranges_of u.redo.ranges) + 8) 0) h.status
    where
      go : (b : Bool) → eqb t.status 1 ≡ b → cond b (ranges_size (ranges_of t.redo.ranges) + 8) 0 ≡ cond b (ranges_size (ranges_of u.redo.ranges) + 8) 0
      go true e = ap (λ (rs : List Range). ranges_size rs + 8) (h.redo (eqb-true t.status 1 e)).ranges
      go false e = refl

  rule_same : state_ok t ≡ state_ok u
  rule_same = state_same t u h.status h.undo.ranges (λ e. (h.redo e).ranges) h.reads.count h.reads.ranges
      h.savepoints.count h.savepoints.savepoints

  pub used_same : used_by t ≡ used_by u
  used_same = ap₂ (λ (rs qs : List Range). rs ++ qs) h.undo.ranges h.reads.ranges

  from_same : (w : Bool) → held_from w t ≡ held_from w u
  from_same false = h.undo.ranges
  from_same true = used_same

  held_same : (w : Bool) (id a n : ℕ) → held_against w id a n t ≡ held_against w id a n u
  unfolding held_against
  held_same w id a n =
      ap (λ (i : ℕ). not (eqb id i) && (eqb t.status 1 && any (meets a n) (held_from w t))) h.id
      ∙ ap₂ (λ (k : ℕ) (rs : List Range). not (eqb id u.id.0) && (eqb k 1 && any (meets a n) rs)) h.status (from_same w)

-- ---- lists of them

module _ (f g : ℕ → Tx) where
  slot_same : (id k i : ℕ) → ((j : ℕ) → i ≤ j → j < i + k → has_id id (f j) ≡ has_id id (g j)) → slot_in id i (up_from f k i) ≡ slot_in id i (up_from g k i)
  slot_same id zero i e = refl
  slot_same id (suc k) i e =
      ap₂ (λ (b : Bool) (n : ℕ). cond b i n) (e i (omega arith) (omega arith)) (slot_same id k (suc i) (λ j a b. e j (omega arith) (omega arith)))

module _ (s r : State) (h : Alike s r) where
  outlines : outlines_of s ≡ outlines_of r
  outlines =
      up_same (outline_at s) (outline_at r) s.count 0 (λ i a b. outline_same (tx_at s i) (tx_at r i) (h.listed i (omega arith)))
      ∙ ap (λ (k : ℕ). up_from (outline_at r) k 0) h.count

  rooms : sum_of room_of (txs_of s) ≡ sum_of room_of (txs_of r)
  rooms =
      sum_same room_of room_of (tx_at s) (tx_at r) s.count 0 (λ i a b. room_same (tx_at s i) (tx_at r i) (h.listed i (omega arith)))
      ∙ ap (λ (k : ℕ). sum_of room_of (up_from (tx_at r) k 0)) h.count

  pub states_alike : every state_ok (txs_of s) ≡ every state_ok (txs_of r)
  states_alike =
      every_same state_ok state_ok (tx_at s) (tx_at r) s.count 0 (λ i a b. rule_same (tx_at s i) (tx_at r i) (h.listed i (omega arith)))
      ∙ ap (λ (k : ℕ). every state_ok (up_from (tx_at r) k 0)) h.count

  pub helds : (w : Bool) (id a n : ℕ) → any (held_against w id a n) (txs_of s) ≡ any (held_against w id a n) (txs_of r)
  helds w id a n =
      any_same (held_against w id a n) (held_against w id a n) (tx_at s) (tx_at r) s.count 0
      (λ i x y. held_same (tx_at s i) (tx_at r i) (h.listed i (omega arith)) w id a n)
      ∙ ap (λ (k : ℕ). any (held_against w id a n) (up_from (tx_at r) k 0)) h.count

  pub ids : (id : ℕ) → any (has_id id) (txs_of s) ≡ any (has_id id) (txs_of r)
  ids id =
      any_same (has_id id) (has_id id) (tx_at s) (tx_at r) s.count 0 (λ i a b. ap (eqb id) (h.listed i (omega arith)).id)
      ∙ ap (λ (k : ℕ). any (has_id id) (up_from (tx_at r) k 0)) h.count

  pub slots : (id : ℕ) → slot_of s id ≡ slot_of r id
  slots id =
      slot_same (tx_at s) (tx_at r) id s.count 0 (λ i a b. ap (eqb id) (h.listed i (omega arith)).id)
      ∙ ap (λ (k : ℕ). slot_in id 0 (up_from (tx_at r) k 0)) h.count

  -- ---- admission

  pub room_alike : (t : List ℕ) → room_used s t ≡ room_used r t
  room_alike t =
      ap₂ (λ (e d : ℕ). e + tail_length d t + sum_of room_of (txs_of s)) h.logend h.ondisk
      ∙ ap (λ (n : ℕ). r.logend + tail_length r.ondisk.0 t + n) rooms

  pub rules_alike : keeps_image_rules s ≡ keeps_image_rules r
  rules_alike =
      ap₂ (λ (e d : ℕ). image_ok e d s.assigned.0 s.lastid.0 (outlines_of s)) h.logend h.ondisk
      ∙ ap₂ (λ (a l : ℕ). image_ok r.logend r.ondisk.0 a l (outlines_of s)) h.assigned h.lastid
      ∙ ap (image_ok r.logend r.ondisk.0 r.assigned.0 r.lastid.0) outlines

  pub unfit_alike : (t : List ℕ) → unfit s t ≡ unfit r t
  unfolding unfit
  unfit_alike t =
      let after : Bool → Bool → ℕ → Bool → Bool → Bool = λ x y n z w. not x || not y || ltb 16384 n || not z || not w in
      let tails : tail_ok s.ondisk.0 s.assigned.0 t ≡ tail_ok r.ondisk.0 r.assigned.0 t =
      ap₂ (λ (d a : ℕ). tail_ok d a t) h.ondisk h.assigned in
      ap₂ (λ (x y : Bool). after x y (room_used s t) (every state_ok (txs_of s)) (tail_ok s.ondisk.0 s.assigned.0 t)) h.recovered rules_alike
      ∙ ap₂ (λ (n : ℕ) (z : Bool). after r.recovered (keeps_image_rules r) n z (tail_ok s.ondisk.0 s.assigned.0 t)) (room_alike t) states_alike
      ∙ ap (after r.recovered (keeps_image_rules r) (room_used r t) (every state_ok (txs_of r))) tails

  pub number_alike : (lent : ℕ) (t : List ℕ) (cs ds : List Check) → first_number cs ≡ first_number ds → number_by s lent t cs ≡ number_by r lent t ds
  number_alike lent t cs ds e =
      ap₂ (λ (b : Bool) (n : ℕ). cond (not (eqb lent 4096 && eqb (length t) 16384)) 1 (cond b 2 n)) (unfit_alike t) e

  pub admission_alike : (lent : ℕ) (t : List ℕ) → admission s lent t ≡ admission r lent t
  unfolding admission
  admission_alike lent t =
      let by : Bool → ℕ → ℕ → Admission = λ b d n.
      let k = first_number (check 1 (not (eqb lent 4096 && eqb (length t) 16384)) ∷ check 2 b ∷ []) in
      record { number = k; end = cond (eqb k 0) (tail_length d t) 0; room = cond (eqb k 0) n 0 } in
      ap₂ (λ (b : Bool) (d : ℕ). by b d (room_used s t)) (unfit_alike t) h.ondisk ∙ ap (by (unfit r t) r.ondisk.0) (room_alike t)

  pub disk_alike : (d lent : ℕ) (t : List ℕ) → disk_admission s d lent t ≡ disk_admission r d lent t
  unfolding disk_admission
  disk_alike d lent t = ap (λ (x : Admission). cond (eqb d 33691) x (not_admitted 1)) (admission_alike lent t)

  pub choice_alike : (x : Admission) (id : ℕ) (cs ds : List Check) → first_number cs ≡ first_number ds → choice s x id cs ≡ choice r x id ds
  unfolding choice
  choice_alike x id cs ds e =
      ap₂ (λ (k n : ℕ).
      let m = cond (eqb x.number 0) n x.number in
      cond (eqb m 0) (record { number = 0; slot = k; end = x.end; room = x.room }) (refusal m))
      (slots id) e
