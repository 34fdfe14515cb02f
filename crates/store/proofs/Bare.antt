-- A state and the bare state of its extents are judged alike.
use Prim.Native.Nat.{ℕ, zero, suc, ◌+◌, ◌≤◌, ◌<◌}
use native.Mathlib.Decide.{dec_lt}
use native.Mathlib.Omega.{arith}
use mathlib.Core.Bool.{true}
use mathlib.Core.List.{List, [], ◌∷◌}
use mathlib.Core.Path.{◌≡◌, refl, sym, ap, ◌∙◌, subst}
use lib.ListN.{length, get_or, set, take, replicate, get_or-map}
use lib.Seq.{get_or-set_same, get_or-set_other}
use Rattle.std.proofs.lemmas.List.{get_or-take}
use Rattle.transaction.specs.declared.Tx.{Tx}
use Rattle.transaction.specs.declared.TxExtents.{TxExtents}
use Rattle.transaction.specs.Flat.{no_tx}
use Rattle.transaction.specs.View.{extents_of, bare_tx}
use Rattle.transaction.specs.Rules.{state_ok}
use Rattle.transaction.proofs.Lists.{every_at}
use Rattle.store.specs.declared.State.{State}
use Rattle.store.specs.declared.extents.StateExtents.{StateExtents}
use Rattle.store.specs.State.{tx_at}
use Rattle.store.specs.Extents.{no_extents, Taken, HasExtents, bare_state}
use Rattle.store.specs.Numbers.{Check, first_number, tx_of}
use Rattle.store.specs.Admission.{Admission, Choice, admission, disk_admission, choice}
use Rattle.store.proofs.Choosing.{Slotted}
use Rattle.store.proofs.Storing.{disk_number, disk_number_lem}
use Rattle.store.proofs.Sameness.{AlikeTx, Alike, admission_alike, disk_alike, choice_alike}

-- ---- the slots taken so far

past_end : {A : Type 0} (l : List A) (i : ℕ) (d : A) → length l ≤ i → get_or l i d ≡ d
past_end [] i d h = refl
past_end (x ∷ l) zero d h = absurd (omega arith)
past_end (x ∷ l) (suc i) d h = past_end l i d (omega arith)

one_more : (s : State) (ts : List TxExtents) (i : ℕ) → Taken s ts i → get_or ts i no_extents ≡ extents_of (tx_at s i) → Taken s ts (i + 1)
one_more s ts i h e j l =
    elim (dec_lt j i) [
      | yes q ↦ h j q
      | no q ↦ let z : i ≡ j = omega (arith, l, q) in subst (λ (k : ℕ). get_or ts k no_extents ≡ extents_of (tx_at s k)) z e
    ]

pub taken_stored : (s : State) (ts : List TxExtents) (i : ℕ) (x : TxExtents) → length ts ≡ 8 → i < 8 → x ≡ extents_of (tx_at s i) → Taken s ts i
    → Taken s (set ts i x) (i + 1)
taken_stored s ts i x l b e h =
    one_more s (set ts i x) i (λ j q. get_or-set_other ts i j x no_extents (λ z. omega (arith, q, z)) ∙ h j q)
    (get_or-set_same ts i x no_extents (omega (arith, l, b)) ∙ e)

pub taken_past : (s : State) (ts : List TxExtents) (i : ℕ) → length ts ≡ 8 → length s.txs ≡ 8 → 8 ≤ i → Taken s ts i → Taken s ts (i + 1)
taken_past s ts i l m b h =
    one_more s ts i h (past_end ts i no_extents (omega (arith, l, b)) ∙ ap extents_of (sym (past_end s.txs i no_tx (omega (arith, m, b)))))

-- the first one's, in every slot
pub taken_first : (s : State) (x : TxExtents) → x ≡ extents_of (tx_at s 0) → Taken s (replicate 8 x) 1
taken_first s x e j h = let z : 0 ≡ j = omega (arith, h) in subst (λ (k : ℕ). get_or (replicate 8 x) k no_extents ≡ extents_of (tx_at s k)) z e

-- ---- the state that has them

pub bare_at : (e : StateExtents) (i : ℕ) → tx_at (bare_state e) i ≡ bare_tx (get_or e.txs i no_extents)
bare_at e i = get_or-map bare_tx e.txs i no_extents

-- of the first n, as a loop goes over them
pub listed_at : (e : StateExtents) (n i : ℕ) → i < n → tx_at (bare_state e) i ≡ bare_tx (get_or (take n e.txs) i no_extents)
listed_at e n i h = bare_at e i ∙ ap bare_tx (sym (get_or-take n e.txs i no_extents h))

pub status_at : (e : StateExtents) (i : ℕ) → (tx_at (bare_state e) i).status ≡ (get_or e.txs i no_extents).status
status_at e i = ap (λ (t : Tx). t.status) (bare_at e i)

bare_tx_lem : (t : Tx) → AlikeTx (bare_tx (extents_of t)) t
bare_tx_lem t =
    record {
      id = refl;
      status = refl;
      csn = refl;
      undo = record { count = refl; ranges = refl };
      redo = λ q. record { count = refl; ranges = refl };
      reads = record { count = refl; ranges = refl };
      savepoints = record { count = refl; savepoints = refl };
    }

module _ (s : State) (e : StateExtents) (h : HasExtents s e) where
  count : e.counters.count ≡ s.count
  count = ap (λ (x : StateExtents). x.counters.count) h.0

  at : (i : ℕ) → i < e.counters.count → AlikeTx (tx_at (bare_state e) i) (tx_at s i)
  at i l =
      subst (λ (t : Tx). AlikeTx t (tx_at s i)) (sym (bare_at e i ∙ ap bare_tx (h.1 i (omega (arith, l, count))))) (bare_tx_lem (tx_at s i))

  pub judged : Alike (bare_state e) s
  judged =
      record {
        recovered = ap (λ (x : StateExtents). x.recovered) h.0;
        logend = ap (λ (x : StateExtents). x.counters.logend) h.0;
        ondisk = ap (λ (x : StateExtents). x.counters.ondisk.0) h.0;
        assigned = ap (λ (x : StateExtents). x.counters.assigned.0) h.0;
        lastid = ap (λ (x : StateExtents). x.counters.lastid.0) h.0;
        count = count;
        listed = at;
      }

  -- ---- as a call has it: e is what it took of the state

  pub admitted_by : (lent : ℕ) (t : List ℕ) (x : Admission) → x ≡ admission (bare_state e) lent t → x ≡ admission s lent t
  admitted_by lent t x q = q ∙ admission_alike (bare_state e) s judged lent t

  pub disk_by : (d lent : ℕ) (t : List ℕ) (x : Admission) → x ≡ disk_admission (bare_state e) d lent t → x ≡ disk_admission s d lent t
  disk_by d lent t x q = q ∙ disk_alike (bare_state e) s judged d lent t

  pub disk_number_by : (d m t : List ℕ) (x : Admission) → x ≡ disk_admission (bare_state e) (length d) (length m) t → disk_number s d m t ≡ x.number
  disk_number_by d m t x q = sym (disk_number_lem s d m t x (disk_by (length d) (length m) t x q))

  pub chosen_by : (x : Admission) (id : ℕ) (cs ds : List Check) → first_number cs ≡ first_number ds
      → (r : Choice) → r ≡ choice (bare_state e) x id cs → r ≡ choice s x id ds
  chosen_by x id cs ds f r q = q ∙ choice_alike (bare_state e) s judged x id cs ds f

-- ---- the transaction in the slot that was chosen

module _ (e : StateExtents) {x : Admission} {id : ℕ} {r : Choice} {cs : List Check} (w : Slotted (bare_state e) x id r cs) where
  pub slot_is : bare_tx (get_or e.txs r.slot no_extents) ≡ tx_of (bare_state e) id
  slot_is = sym (bare_at e r.slot) ∙ ap (tx_at (bare_state e)) w.slot

  pub slot_ok : state_ok (bare_tx (get_or e.txs r.slot no_extents)) ≡ true
  slot_ok =
      subst (λ (t : Tx). state_ok t ≡ true) (bare_at e r.slot)
      (every_at (tx_at (bare_state e)) state_ok e.counters.count 0 w.states r.slot (omega arith) (omega (arith, w.listed)))
