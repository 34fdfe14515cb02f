-- The cases of numbers 1 and 2, each from the tests that lead there.
use Prim.Native.Nat.{ℕ, zero, suc, ◌+◌, ◌*◌, ◌≤◌, ◌<◌}
use native.Mathlib.Omega.{arith}
use mathlib.Core.Bool.{Bool, true, false, cond, not, ◌&&◌, ◌||◌, or-true, and-false}
use mathlib.Core.List.{List, []}
use Rattle.std.specs.Prelude.{Option, Some, None, unwrap_or}
use mathlib.Core.Path.{◌≡◌, refl, sym, ap, ◌∙◌, subst}
use lib.ListN.{length, drop}
use lib.Dec.{eqb, leb, ltb}
use borrow.Author.Tests.{eq-eqb, ne_eqb, lt-ltb, leb-true, eqb-true, eqb-false, not-false}
use Rattle.recovery.specs.Group.{last_csn}
use Rattle.redolog.specs.Log.{read_log}
use Rattle.redolog.proofs.Basics.{and_left, and_right}
use Rattle.transaction.specs.Lists.{up_from, every, sum_of}
use Rattle.transaction.specs.declared.Tx.{Tx}
use Rattle.transaction.specs.View.{Range, ranges_of}
use Rattle.transaction.specs.Rules.{head_ok as headRules, records_ok, outline_ok, state_ok, ranges_size, room_of}
use Rattle.transaction.proofs.Lists.{every_at, length_up}
use Rattle.transaction.proofs.StateRule.{running_ranges}
use Rattle.transaction.proofs.RangeLaws.{size_bound}
use Rattle.store.specs.declared.State.{State}
use Rattle.store.specs.State.{tx_at, txs_of, outline_at, outlines_of}
use Rattle.image.specs.Rules.{distinct, bounds_ok, outlines_ok}
use Rattle.store.specs.Rules.{all_zero, tail_length, tail_ok, room_used, unfit}
use Rattle.store.specs.Numbers.{Check, first_number, shared_checks, number_by}
use Rattle.store.specs.Admission.{Admission, not_admitted, counters_ok, measured_if, measured_txs, measured_tail, admission, number_after, Seen}
use Rattle.store.proofs.Fits.{Fit, fit, unfit_no}
use Rattle.store.proofs.Checks.{stops, passes, passed}

-- ---- what was measured

none_if : (b : Bool) (n : ℕ) → measured_if b n ≡ None → b ≡ false
none_if true n e = let w : Some n ≡ None = e in cc
none_if false n e = refl

some_if : (b : Bool) (n r : ℕ) → measured_if b n ≡ Some r → (b ≡ true) × (r ≡ n)
some_if true n r e = (refl, sym (ap (λ (o : Option ℕ). unwrap_or o 0) e))
some_if false n r e = let w : None ≡ Some r = e in cc

module _ (d a : ℕ) (t : List ℕ) where
  pub other_csn : (last_csn d (read_log d t) ≡ a → ⊥) → measured_tail d a t ≡ None
  unfolding measured_tail
  other_csn h = rw (ne_eqb (last_csn d (read_log d t)) a h)

  pub other_rest : all_zero (drop (tail_length d t) t) ≡ false → measured_tail d a t ≡ None
  unfolding measured_tail
  other_rest e = rw (e, and-false)

  pub tail_right : last_csn d (read_log d t) ≡ a → all_zero (drop (tail_length d t) t) ≡ true → measured_tail d a t ≡ Some (tail_length d t)
  unfolding measured_tail
  tail_right h e = rw (eq-eqb (last_csn d (read_log d t)) a h, e)

  pub tail_none : measured_tail d a t ≡ None → tail_ok d a t ≡ false
  unfolding measured_tail
  tail_none e = none_if (tail_ok d a t) (tail_length d t) e

  pub tail_some : (r : ℕ) → measured_tail d a t ≡ Some r → (tail_ok d a t ≡ true) × (r ≡ tail_length d t)
  unfolding measured_tail
  tail_some r e = some_if (tail_ok d a t) (tail_length d t) r e

module _ (s : State) where
  abbrev outlined : Bool
  outlined = outlines_ok s.lastid.0 s.assigned.0 (outlines_of s)

  pub bad_outline : every (outline_ok s.lastid.0 s.assigned.0) (outlines_of s) ≡ false → measured_txs s ≡ None
  unfolding measured_txs
  bad_outline e = rw e

  pub bad_alike : distinct (outlines_of s) ≡ false → measured_txs s ≡ None
  unfolding measured_txs
  bad_alike e = rw (e, and-false)

  pub bad_states : every state_ok (txs_of s) ≡ false → measured_txs s ≡ None
  unfolding measured_txs
  bad_states e = rw (e, and-false)

  pub good_txs : every (outline_ok s.lastid.0 s.assigned.0) (outlines_of s) ≡ true → distinct (outlines_of s) ≡ true → every state_ok (txs_of s) ≡ true
      → measured_txs s ≡ Some (sum_of room_of (txs_of s))
  unfolding measured_txs
  good_txs e f g = rw (e, f, g)

  pub txs_none : measured_txs s ≡ None → outlined && every state_ok (txs_of s) ≡ false
  unfolding measured_txs
  txs_none e = none_if (outlined && every state_ok (txs_of s)) (sum_of room_of (txs_of s)) e

  pub txs_some : (r : ℕ) → measured_txs s ≡ Some r → (outlined && every state_ok (txs_of s) ≡ true) × (r ≡ sum_of room_of (txs_of s))
  unfolding measured_txs
  txs_some r e = some_if (outlined && every state_ok (txs_of s)) (sum_of room_of (txs_of s)) r e

-- ---- number 2

module _ (s : State) (t : List ℕ) where
  abbrev bounds : Bool
  bounds = bounds_ok s.logend s.ondisk.0 s.assigned.0 s.count

  abbrev head : Bool
  head = counters_ok s.recovered s.logend s.ondisk.0 s.assigned.0 s.count

  pub unfit_head : head ≡ false → unfit s t ≡ true
  unfolding unfit counters_ok
  unfit_head e =
      rw (length_up (outline_at s) s.count 0)
      (go s.recovered bounds (outlines_ok s.lastid.0 s.assigned.0 (outlines_of s))
      (ltb 16384 (room_used s t)) (not (every state_ok (txs_of s))) (not (tail_ok s.ondisk.0 s.assigned.0 t)) e)
    where
      go : (r i o x y z : Bool) → r && i ≡ false → not r || not (i && o) || x || y || z ≡ true
      go false i o x y z e = refl
      go true false o x y z e = refl
      go true true o x y z e = let w : true ≡ false = e in cc

  pub unfit_txs : outlines_ok s.lastid.0 s.assigned.0 (outlines_of s) && every state_ok (txs_of s) ≡ false → unfit s t ≡ true
  unfolding unfit
  unfit_txs e =
      go (not s.recovered) (leb s.logend 16384 && leb s.ondisk.0 s.assigned.0 && leb (length (outlines_of s)) 8)
      (outlines_ok s.lastid.0 s.assigned.0 (outlines_of s))
      (every state_ok (txs_of s)) (ltb 16384 (room_used s t)) (not (tail_ok s.ondisk.0 s.assigned.0 t)) e
    where
      go : (r i o d x z : Bool) → o && d ≡ false → r || not (i && o) || x || not d || z ≡ true
      go r i false d x z e = rw (and-false, or-true)
      go r i true false x z e = rw or-true
      go r i true true x z e = let w : true ≡ false = e in cc

  pub unfit_tail : tail_ok s.ondisk.0 s.assigned.0 t ≡ false → unfit s t ≡ true
  unfolding unfit
  unfit_tail e = rw (e, or-true)

  pub unfit_room : 16384 < room_used s t → unfit s t ≡ true
  unfolding unfit
  unfit_room h = rw (lt-ltb _ _ h, or-true)

  module _ (e : head ≡ true) where
    pub head_count : s.count ≤ 8
    unfolding counters_ok
    head_count =
        leb-true _ _ (and_right (leb s.logend 16384 && leb s.ondisk.0 s.assigned.0) (leb s.count 8) (and_right s.recovered bounds e))

    pub unfit_none : outlines_ok s.lastid.0 s.assigned.0 (outlines_of s) && every state_ok (txs_of s) ≡ true
        → tail_ok s.ondisk.0 s.assigned.0 t ≡ true
        → room_used s t ≤ 16384 → unfit s t ≡ false
    unfolding counters_ok
    unfit_none m q h =
        let o : outlines_ok s.lastid.0 s.assigned.0 (outlines_of s) ≡ true = and_left _ (every state_ok (txs_of s)) m in
        unfit_no s t
        (record {
          recovered = and_left s.recovered bounds e;
          image = rw (length_up (outline_at s) s.count 0, and_right s.recovered bounds e, o);
          room = h;
          states = and_right (outlines_ok s.lastid.0 s.assigned.0 (outlines_of s)) (every state_ok (txs_of s)) m;
          tail = q;
        })

-- ---- bounds, so that no sum wraps

pub redo_records : (t : Tx) → records_ok (ranges_of t.undo.ranges) ≡ true → state_ok t ≡ true → t.status ≡ 1 → records_ok (ranges_of t.redo.ranges) ≡ true
redo_records t e f h = subst (λ (rs : List Range). records_ok rs ≡ true) (running_ranges t f h) e

pub room_bound : (t : Tx) → records_ok (ranges_of t.undo.ranges) ≡ true → state_ok t ≡ true → room_of t ≤ 632
room_bound t e f = go (eqb t.status 1) refl
  where
    go : (b : Bool) → eqb t.status 1 ≡ b → cond b (ranges_size (ranges_of t.redo.ranges) + 8) 0 ≤ 632
    go true p = let h = size_bound (ranges_of t.redo.ranges) (redo_records t e f (eqb-true _ _ p)) in omega arith
    go false p = omega arith

sum_bound : (f : ℕ → Tx) (k i : ℕ) → ((j : ℕ) → i ≤ j → j < i + k → room_of (f j) ≤ 632) → sum_of room_of (up_from f k i) ≤ 632 * k
sum_bound f zero i h = omega arith
sum_bound f (suc k) i h =
    let a = h i (omega arith) (omega arith) in
    let b = sum_bound f k (suc i) (λ j p q. h j (omega arith) (omega arith)) in
    omega arith

abbrev head_of : State → ℕ → Bool
head_of s j = headRules s.lastid.0 s.assigned.0 (tx_at s j).id.0 (tx_at s j).status (tx_at s j).csn.0

-- what the transactions of a state have reserved together
pub reserved_bound : (s : State) → s.count ≤ 8 → outlines_ok s.lastid.0 s.assigned.0 (outlines_of s) && every state_ok (txs_of s) ≡ true
    → sum_of room_of (txs_of s) ≤ 5056
reserved_bound s h e =
    let o : every (outline_ok s.lastid.0 s.assigned.0) (outlines_of s) ≡ true =
    and_left _ (distinct (outlines_of s)) (and_left _ (every state_ok (txs_of s)) e) in
    let d : every state_ok (txs_of s) ≡ true = and_right (outlines_ok s.lastid.0 s.assigned.0 (outlines_of s)) _ e in
    let b = sum_bound (tx_at s) s.count 0
    (λ j p q. room_bound (tx_at s j)
    (and_right (head_of s j) (records_ok (ranges_of (tx_at s j).undo.ranges)) (every_at (outline_at s) (outline_ok s.lastid.0 s.assigned.0) s.count 0 o j p q))
    (every_at (tx_at s) state_ok s.count 0 d j p q)) in
    omega arith

-- ---- the admission

module _ (s : State) (lent : ℕ) (t : List ℕ) where
  pub admit_memory : (lent ≡ 4096 → ⊥) → admission s lent t ≡ not_admitted 1
  unfolding admission
  admit_memory h = rw (ne_eqb lent 4096 h)

  pub admit_tail : (length t ≡ 16384 → ⊥) → admission s lent t ≡ not_admitted 1
  unfolding admission
  admit_tail h = rw (ne_eqb (length t) 16384 h, and-false)

  module _ (e : lent ≡ 4096) (f : length t ≡ 16384) where
    pub admit_unfit : unfit s t ≡ true → admission s lent t ≡ not_admitted 2
    unfolding admission
    admit_unfit h = rw (eq-eqb lent 4096 e, eq-eqb (length t) 16384 f, h)

    pub admit_fit : unfit s t ≡ false → admission s lent t ≡ record { number = 0; end = tail_length s.ondisk.0 t; room = room_used s t }
    unfolding admission
    admit_fit h = rw (eq-eqb lent 4096 e, eq-eqb (length t) 16384 f, h)

  -- what a call has passed whose own checks are cs
  pub record Unrefused (cs : List Check) : Type 0 where
    pub memory : lent ≡ 4096
    pub tail : length t ≡ 16384
    pub fits : Fit s t
    pub own : first_number cs ≡ 0

  pub unrefused : (cs : List Check) → number_by s lent t cs ≡ 0 → Unrefused cs
  unrefused cs e =
      let p = passed (shared_checks s lent t) cs refl e in
      let l : eqb lent 4096 && eqb (length t) 16384 ≡ true = not-false _ p.0.0 in
      record {
        memory = eqb-true _ _ (and_left (eqb lent 4096) _ l);
        tail = eqb-true _ _ (and_right (eqb lent 4096) _ l);
        fits = fit s t p.0.1.0;
        own = p.1;
      }

  -- x is the admission
  module _ (x : Admission) (e : x ≡ admission s lent t) where
    pub number_is : x.number ≡ first_number (shared_checks s lent t)
    unfolding admission
    number_is = ap (λ (y : Admission). y.number) e

    -- a refusal by 1 or 2 is the call's, whatever it would check besides
    pub shared_stops : (cs : List Check) → (x.number ≡ 0 → ⊥) → number_by s lent t cs ≡ x.number
    shared_stops cs h = stops (shared_checks s lent t) cs (λ z. h (number_is ∙ z)) ∙ sym number_is

    -- what a call learns of an admission that did not refuse
    pub record Admitted : Type 0 where
      pub fits : Fit s t
      pub own : (cs : List Check) → number_by s lent t cs ≡ first_number cs
      pub end : x.end ≡ tail_length s.ondisk.0 t
      pub room : x.room ≡ room_used s t

    pub admitted : x.number ≡ 0 → Admitted
    unfolding admission
    admitted h =
        let z : first_number (shared_checks s lent t) ≡ 0 = sym number_is ∙ h in
        record {
          fits = (unrefused [] z).fits;
          own = λ cs. passes (shared_checks s lent t) cs refl z;
          end = ap (λ (y : Admission). y.end) e ∙ rw z;
          room = ap (λ (y : Admission). y.room) e ∙ rw z;
        }

    -- the number by which the call is refused, where its own checks are made with the room that was measured
    pub number_after_lem : (cs : ℕ → List Check) → number_by s lent t (cs (room_used s t)) ≡ number_after x (cs x.room)
    number_after_lem cs = go (eqb x.number 0) refl
      where
        go : (b : Bool) → eqb x.number 0 ≡ b → number_by s lent t (cs (room_used s t)) ≡ cond b (first_number (cs x.room)) x.number
        go true q = let a = admitted (eqb-true x.number 0 q) in a.own (cs (room_used s t)) ∙ ap (λ (n : ℕ). first_number (cs n)) (sym a.room)
        go false q = shared_stops (cs (room_used s t)) (eqb-false x.number 0 q)

    pub seen : Seen x s
    seen h = let a = admitted h in (a.fits.image, a.fits.states, omega (arith, a.room, a.fits.room))
