-- The cases of a call's refusals, each from the tests that lead there.
use Prim.Native.Nat.{ℕ, ◌+◌, ◌≤◌, ◌<◌}
use native.Mathlib.Omega.{arith}
use mathlib.Core.Bool.{Bool, true, false, cond, not, ◌&&◌, ◌||◌}
use mathlib.Core.List.{List, [], ◌∷◌, ◌++◌}
use mathlib.Core.Path.{◌≡◌, refl, sym, ap, ◌∙◌}
use lib.Dec.{eqb, leb, ltb}
use native.Mathlib.Decide.{dec_le}
use borrow.Author.Tests.{eq-eqb, ne_eqb, eqb-true, eqb-false, le-leb, lt-leb, le-ltb, lt-ltb, not-false}
use Rattle.recovery.specs.Lists.{any}
use Rattle.redolog.specs.Record.{in_range}
use Rattle.transaction.specs.Lists.{every}
use Rattle.transaction.specs.Rules.{state_ok}
use Rattle.transaction.proofs.RangeLaws.{in_range_lem}
use Rattle.image.proofs.Rules.{image_count}
use Rattle.store.specs.declared.State.{State}
use Rattle.store.specs.declared.judged.Chosen.{Chosen}
use Rattle.store.specs.State.{image_of, tx_at, txs_of, has_id, slot_of}
use Rattle.store.specs.Rules.{keeps_image_rules}
use Rattle.store.specs.Numbers.{Check, first_number, tx_of, check6, check7, check8, range_checks, abort_checks}
use Rattle.store.specs.Admission.{Admission, not_admitted, admission, number_after, Choice, refusal, chosen, choice, of_choice, judged_choice, Seen}
use Rattle.std.specs.Prelude.{Result}
use Rattle.std.specs.Result.{IsErrAnd}
use Rattle.std.proofs.lemmas.Result.{err_from_is_err_and}
use Rattle.layout.specs.declared.refusal.Refusal.{Refusal}
use Rattle.layout.specs.Refusal.{number_of}
use Rattle.store.proofs.Checks.{positive, stops, passes, passed, refused_some}
use Rattle.store.proofs.Admitting.{seen}
use Rattle.store.proofs.Slots.{slot as find, slot_within}

-- ---- numbers after an admission

-- the admission did not refuse, nor did the call's own checks
pub after_none : (x : Admission) (cs : List Check) → number_after x cs ≡ 0 → (x.number ≡ 0) × (first_number cs ≡ 0)
after_none x cs = go (eqb x.number 0) refl
  where
    go : (b : Bool) → eqb x.number 0 ≡ b → cond b (first_number cs) x.number ≡ 0 → (x.number ≡ 0) × (first_number cs ≡ 0)
    go true e z = (eqb-true x.number 0 e, z)
    go false e z = absurd (eqb-false x.number 0 e z)

module _ (x : Admission) (cs ds : List Check) where
  after_stops : (number_after x cs ≡ 0 → ⊥) → number_after x (cs ++ ds) ≡ number_after x cs
  after_stops h = go (eqb x.number 0) h
    where
      go : (b : Bool) → (cond b (first_number cs) x.number ≡ 0 → ⊥) → cond b (first_number (cs ++ ds)) x.number ≡ cond b (first_number cs) x.number
      go true h = stops cs ds h
      go false h = refl

  after_passes : positive cs ≡ true → number_after x cs ≡ 0 → number_after x (cs ++ ds) ≡ first_number ds
  after_passes p z = let a = after_none x cs z in rw (eq-eqb x.number 0 a.0) (passes cs ds p a.1)

-- ---- a choice by its number

module _ (s : State) (x : Admission) (id : ℕ) where
  by_number : (n k : ℕ) → n ≡ k → cond (eqb n 0) (chosen s x id) (refusal n) ≡ cond (eqb k 0) (chosen s x id) (refusal k)
  by_number n k e = ap (λ (j : ℕ). cond (eqb j 0) (chosen s x id) (refusal j)) e

  pub choice_none : (cs : List Check) → number_after x cs ≡ 0 → choice s x id cs ≡ chosen s x id
  unfolding choice
  choice_none cs e = by_number (number_after x cs) 0 e

  pub choice_some : (cs : List Check) (n : ℕ) → number_after x cs ≡ n → (n ≡ 0 → ⊥) → choice s x id cs ≡ refusal n
  unfolding choice
  choice_some cs n e h = by_number (number_after x cs) n e ∙ rw (ne_eqb n 0 h)

  choice_number : (cs : List Check) → (choice s x id cs).number ≡ number_after x cs
  unfolding choice
  choice_number cs = go (number_after x cs) (eqb (number_after x cs) 0) refl
    where
      go : (n : ℕ) (b : Bool) → eqb n 0 ≡ b → (cond b (chosen s x id) (refusal n)).number ≡ n
      go n true e = sym (eqb-true n 0 e)
      go n false e = refl

  -- r is what was answered of the checks cs
  module _ (r : Choice) (cs : List Check) (e : r ≡ choice s x id cs) where
    pub choice_own : number_after x cs ≡ r.number
    choice_own = sym (ap (λ (y : Choice). y.number) e ∙ choice_number cs)

    pub choice_chosen : r.number ≡ 0 → r ≡ chosen s x id
    choice_chosen h = e ∙ choice_none cs (choice_own ∙ h)

    -- more checks after those that were made
    module _ (p : positive cs ≡ true) (ds : List Check) where
      pub choice_stops : (r.number ≡ 0 → ⊥) → r ≡ choice s x id (cs ++ ds)
      choice_stops h =
          let z : number_after x cs ≡ 0 → ⊥ = λ q. h (sym choice_own ∙ q) in
          e ∙ choice_some cs (number_after x cs) refl z ∙ sym (choice_some (cs ++ ds) (number_after x cs) (after_stops x cs ds z) z)

      module _ (h : r.number ≡ 0) where
        next : number_after x (cs ++ ds) ≡ first_number ds
        next = after_passes x cs ds p (choice_own ∙ h)

        pub choice_goes : first_number ds ≡ 0 → r ≡ choice s x id (cs ++ ds)
        choice_goes d = choice_chosen h ∙ sym (choice_none (cs ++ ds) (next ∙ d))

        pub choice_refuses : (n : ℕ) → eqb n 0 ≡ false → first_number ds ≡ n → refusal n ≡ choice s x id (cs ++ ds)
        choice_refuses n z d = sym (choice_some (cs ++ ds) n (next ∙ d) (eqb-false n 0 z))

  -- a refusal by the admission
  pub refused_before : (e : Refusal) (cs : List Check) → not_admitted (number_of e) ≡ x → refusal (number_of e) ≡ choice s x id cs
  refused_before e cs p =
      let n : number_after x cs ≡ number_of e = rw (sym p, refused_some e) in sym (choice_some cs (number_of e) n (eqb-false _ _ (refused_some e)))

  -- a refusal by checks before these
  pub refused_on : (e : Refusal) (cs ds : List Check) → positive cs ≡ true → refusal (number_of e) ≡ choice s x id cs → refusal (number_of e) ≡ choice s x id (cs ++ ds)
  refused_on e cs ds p q = choice_stops (refusal (number_of e)) cs q p ds (eqb-false _ _ (refused_some e))

-- what a chooser answers at the exit of a `?`
pub exits : (r : Result Chosen Refusal) (e : Refusal) → IsErrAnd r (λ d. d ≡ e) → {y : Choice} → refusal (number_of e) ≡ y → of_choice r ≡ y
exits r e h q = let p = err_from_is_err_and r h in rw (p.1, p.2) q

-- ---- 6 and 7

module _ (s : State) (id slot : ℕ) (e : slot ≡ slot_of s id) where
  is_listed : (slot ≡ s.count → ⊥) → any (has_id id) (txs_of s) ≡ true
  is_listed h =
      let x = find s id in
      x.listed (omega (arith, e, x.high, h))

  pub refused_6 : slot ≡ s.count → first_number (check6 s id ∷ []) ≡ 6
  refused_6 h = let x = find s id in rw (x.unlisted (sym e ∙ h ∙ omega arith))

  pub passes_6 : (slot ≡ s.count → ⊥) → first_number (check6 s id ∷ []) ≡ 0
  passes_6 h = rw (is_listed h)

  pub status_of : (tx_of s id).status ≡ (tx_at s slot).status
  status_of = ap (λ (k : ℕ). (tx_at s k).status) (sym e)

  pub refused_7 : (tx_at s slot).status ≡ 2 → first_number (check7 s id ∷ []) ≡ 7
  refused_7 h = rw (eq-eqb _ _ (status_of ∙ h))

  pub passes_7 : ((tx_at s slot).status ≡ 2 → ⊥) → first_number (check7 s id ∷ []) ≡ 0
  passes_7 h = rw (ne_eqb _ _ (λ z. h (sym status_of ∙ z)))

-- what a chooser may rely on that goes on from r, where neither the admission nor the checks cs after number 6 refuse; ds are its own
pub record Slotted (s : State) (x : Admission) (id : ℕ) (r : Choice) (cs : List Check) : Type 0 where
  pub rules : keeps_image_rules s ≡ true
  pub states : every state_ok (txs_of s) ≡ true
  pub few : s.count ≤ 8
  pub own : first_number (check6 s id ∷ cs) ≡ 0
  pub listed : r.slot < s.count
  pub slot : r.slot ≡ slot_of s id
  pub room : r.room ≡ x.room
  pub small : x.room ≤ 16384
  pub goes : (ds : List Check) → first_number ds ≡ 0 → r ≡ choice s x id (check6 s id ∷ (cs ++ ds))
  pub refuses : (ds : List Check) (n : ℕ) → eqb n 0 ≡ false → first_number ds ≡ n → refusal n ≡ choice s x id (check6 s id ∷ (cs ++ ds))

-- what number 6 says where it does not refuse
pub listed_by_6 : (s : State) (id : ℕ) → not (any (has_id id) (txs_of s)) ≡ false → (slot_of s id < s.count) × ((tx_of s id).id.0 ≡ id)
listed_by_6 s id e =
    let l = slot_within s id (not-false _ e) in
    (l, sym (eqb-true _ _ ((find s id).there (omega arith))))

pub slotted : (s : State) (x : Admission) (id : ℕ) (r : Choice) (cs : List Check) → Seen x s → positive cs ≡ true → r ≡ choice s x id (check6 s id ∷ cs)
    → r.number ≡ 0
    → Slotted s x id r cs
slotted s x id r cs seen p e h =
    let all = check6 s id ∷ cs in
    let a = after_none x all (choice_own s x id r all e ∙ h) in
    let c = choice_chosen s x id r all e h in
    let k : r.slot ≡ slot_of s id = ap (λ (y : Choice). y.slot) c in
    let w = seen a.0 in
    record {
      rules = w.0;
      states = w.1;
      few = image_count (image_of s) w.0;
      own = a.1;
      listed = omega (arith, k, (listed_by_6 s id (passed (check6 s id ∷ []) cs refl a.1).0.0).0);
      slot = k;
      room = ap (λ (y : Choice). y.room) c;
      small = w.2;
      goes = λ ds. choice_goes s x id r all e p ds h;
      refuses = λ ds. choice_refuses s x id r all e p ds h;
    }

-- the same of what was judged from the admission on
pub judged_slot : (s : State) (lent : ℕ) (t : List ℕ) (id : ℕ) (r : Choice) (cs : List Check) → positive cs ≡ true
    → r ≡ judged_choice s lent t id (λ room. check6 s id ∷ cs) → r.number ≡ 0
    → Slotted s (admission s lent t) id r cs
judged_slot s lent t id r cs p e h = slotted s (admission s lent t) id r cs (seen s lent t (admission s lent t) refl) p e h

pub judged_running : (s : State) (lent : ℕ) (t : List ℕ) (id : ℕ) (r : Choice) → r ≡ judged_choice s lent t id (λ room. abort_checks s id) → r.number ≡ 0
    → Slotted s (admission s lent t) id r (check7 s id ∷ [])
judged_running s lent t id r e h = judged_slot s lent t id r (check7 s id ∷ []) refl e h

-- ---- 8

beyond : (x y : ℕ) → ltb x y ≡ not (leb y x)
beyond x y = elim (dec_le y x) [ yes p ↦ rw (le-ltb x y p, le-leb y x p) | no q ↦ rw (lt-ltb x y (omega (arith, q)), lt-leb y x (omega (arith, q))) ]

empty : (n : ℕ) → eqb n 0 ≡ not (leb 1 n)
empty n =
    elim (dec_le 1 n) [
      | yes p ↦ rw (ne_eqb n 0 (λ e. omega (arith, p, e)), le-leb 1 n p)
      | no q ↦ rw (
        eq-eqb n 0 (omega (arith, q)),
        lt-leb 1 n
            (omega (arith, q)),
      )
    ]

pub out_of_range : (a n : ℕ) → (eqb n 0 || ltb 32 n || ltb 4096 (a + n)) ≡ not (in_range a n)
out_of_range a n = rw (empty n, beyond 32 n, beyond 4096 (a + n)) (go (leb 1 n) (leb n 32) (leb (a + n) 4096))
  where
    go : (x y z : Bool) → (not x || not y || not z) ≡ not (x && y && z)
    go true true true = refl
    go true true false = refl
    go true false z = refl
    go false y z = refl

-- what number 8 says where it does not refuse
pub record Ranged (a n : ℕ) : Type 0 where
  pub ok : in_range a n ≡ true
  pub short : n ≤ 32
  pub within : a + n ≤ 4096

pub ranged_by_8 : (a n : ℕ) → (eqb n 0 || ltb 32 n || ltb 4096 (a + n)) ≡ false → Ranged a n
ranged_by_8 a n e =
    let o = not-false _ (sym (out_of_range a n) ∙ e) in
    let g = in_range_lem a n o in
    record { ok = o; short = g.1; within = g.2 }

pub range_checked : (a n : ℕ) (cs : List Check) → first_number (check8 a n ∷ cs) ≡ 0 → Ranged a n
range_checked a n cs z = ranged_by_8 a n (passed (check8 a n ∷ []) cs refl z).0.0

pub chosen_range : (s : State) (id a n : ℕ) (cs : List Check) → first_number (range_checks s id a n ++ cs) ≡ 0 → Ranged a n
chosen_range s id a n cs z = ranged_by_8 a n (passed (range_checks s id a n) cs refl z).0.1.1.0
