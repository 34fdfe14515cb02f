use Rattle.std.proofs.Common.{ℕ, [], ◌∷◌, ◌≡◌, ◌≤◌, ◌<◌, get_or, arith, refl, sym, ap, ◌∙◌, eq-eqb, ne_eqb, lt-ltb, le-ltb, ltb-true}
use Rattle.std.proofs.lemmas.Map.Keys.{ge_from_not_lt}
use Rattle.std.proofs.slice.Orders.{nat_cmp-ltb}
use Rattle.transaction.specs.declared.Tx.{Tx}
use Rattle.store.specs.declared.extents.StateExtents.{StateExtents}
use Rattle.store.specs.Extents.{no_extents, bare_state}
use Rattle.store.specs.Numbers.{tx_of, check14}
use Rattle.store.specs.Admission.{Admission, Choice, listed_checks}
use Rattle.store.proofs.Bare.{slot_is}
use Rattle.store.proofs.Choosing.{exits, refused_on, Slotted, judged_slot}
use Rattle.store.proofs.extents.StateExtents.choose_settle.Goals as goal

-- its status and commit number are those in the slot chosen
module _ (e : StateExtents) (x : Admission) (id : ℕ) (r : Choice) (w : Slotted (bare_state e) x id r []) where
  status_is : (tx_of (bare_state e) id).status ≡ (get_or e.txs r.slot no_extents).status
  status_is = sym (ap (λ (t : Tx). t.status) (slot_is e w))

  csn_is : (tx_of (bare_state e) id).csn.0 ≡ (get_or e.txs r.slot no_extents).csn.0
  csn_is = sym (ap (λ (t : Tx). t.csn.0) (slot_is e w))

pub returns-in_err-listed : goal.returns-in_err-listed
returns-in_err-listed c =
    let a = c.args in
    let s = bare_state a.self in
    let id = a.id.0 in
    exits _ _ c.from_residual.ensures.1 (refused_on s _ id _ (listed_checks s id) (check14 s id ∷ []) refl c.in_err-listed.ensures)

pub returns-then-t-eq-RUNNING : goal.returns-then-t-eq-RUNNING
returns-then-t-eq-RUNNING c =
    let a = c.args in
    let s = bare_state a.self in
    let w = judged_slot _ _ _ _ _ [] refl c.in_ok-listed.ensures refl in
    let e = status_is a.self _ a.id.0 _ w ∙ c.if-t-eq-RUNNING.true in
    w.refuses (check14 s a.id.0 ∷ []) 14 refl (rw (eq-eqb (tx_of s a.id.0).status 1 e))

pub returns-then-lt : goal.returns-then-lt
returns-then-lt c =
    let a = c.args in
    let s = bare_state a.self in
    let w = judged_slot _ _ _ _ _ [] refl c.in_ok-listed.ensures refl in
    let g = status_is a.self _ a.id.0 _ w in
    let l : a.self.counters.ondisk.0 < (get_or a.self.txs c.in_ok-listed.listed.slot no_extents).csn.0 =
    ltb-true _ _ (sym (nat_cmp-ltb _ _) ∙ sym c.lt.ensures ∙ c.if-lt.true) in
    let f : s.ondisk.0 < (tx_of s a.id.0).csn.0 = omega (arith, l, csn_is a.self _ a.id.0 _ w) in
    w.refuses (check14 s a.id.0 ∷ []) 14 refl (rw (ne_eqb (tx_of s a.id.0).status 1 (λ e. c.if-t-eq-RUNNING.false (sym g ∙ e)), lt-ltb _ _ f))

pub returns : goal.returns
returns c =
    let a = c.args in
    let s = bare_state a.self in
    let w = judged_slot _ _ _ _ _ [] refl c.in_ok-listed.ensures refl in
    let g = status_is a.self _ a.id.0 _ w in
    let l : (get_or a.self.txs c.in_ok-listed.listed.slot no_extents).csn.0 ≤ a.self.counters.ondisk.0 = ge_from_not_lt _ _ (sym c.lt.ensures ∙ c.if-lt.false) in
    let f : (tx_of s a.id.0).csn.0 ≤ s.ondisk.0 = omega (arith, l, csn_is a.self _ a.id.0 _ w) in
    w.goes (check14 s a.id.0 ∷ []) (rw (ne_eqb (tx_of s a.id.0).status 1 (λ e. c.if-t-eq-RUNNING.false (sym g ∙ e)), le-ltb _ _ f))
