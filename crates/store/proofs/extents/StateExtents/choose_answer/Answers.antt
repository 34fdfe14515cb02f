use Rattle.std.proofs.Common.{ℕ, List, [], ◌∷◌, ◌≡◌, get_or, refl, sym, ap, ◌∙◌, eq-eqb, ne_eqb}
use Rattle.transaction.specs.declared.Tx.{Tx}
use Rattle.transaction.specs.Rules.{reading}
use Rattle.store.specs.declared.extents.StateExtents.{StateExtents}
use Rattle.store.specs.Extents.{no_extents, bare_state}
use Rattle.store.specs.Numbers.{tx_of, check7, check8, check9, check15, read_checks}
use Rattle.store.specs.Admission.{Choice, admission, judged_choice}
use Rattle.store.proofs.Bare.{slot_is}
use Rattle.store.proofs.Choosing.{exits, refused_on, Slotted, judged_slot}
use Rattle.store.proofs.extents.StateExtents.choose_answer.Goals as goal

module _ (e : StateExtents) (m : ℕ) (t : List ℕ) (id addr len : ℕ) (r : Choice)
    (q : r ≡ judged_choice (bare_state e) m t id (λ room. read_checks (bare_state e) id addr len)) (h : r.number ≡ 0) where
  -- numbers 1, 2 and 6 to 9 do not refuse
  found : Slotted (bare_state e) (admission (bare_state e) m t) id r (check7 (bare_state e) id ∷ check8 addr len ∷ check9 (bare_state e) reading id addr len ∷ [])
  found = judged_slot _ _ _ _ _ (check7 (bare_state e) id ∷ check8 addr len ∷ check9 (bare_state e) reading id addr len ∷ []) refl q h

  -- its read ranges are those in the slot chosen
  ranges : (get_or e.txs r.slot no_extents).extras.reads.count ≡ (tx_of (bare_state e) id).extras.reads.count
  ranges = ap (λ (t : Tx). t.extras.reads.count) (slot_is e found)

pub returns-in_err-free : goal.returns-in_err-free
returns-in_err-free c =
    let a = c.args in
    let s = bare_state a.self in
    let id = a.id.0 in
    exits _ _ c.from_residual.ensures.1 (refused_on s _ id _ (read_checks s id a.addr a.len) (check15 s id ∷ []) refl c.in_err-free.ensures)

pub returns-then-self-free-eq-RECORDS_MAX : goal.returns-then-self-free-eq-RECORDS_MAX
returns-then-self-free-eq-RECORDS_MAX c =
    let a = c.args in
    let s = bare_state a.self in
    let w = found a.self a.memory a.tail.now a.id.0 a.addr a.len _ c.in_ok-free.ensures refl in
    let n = ranges a.self a.memory a.tail.now a.id.0 a.addr a.len _ c.in_ok-free.ensures refl in
    w.refuses (check15 s a.id.0 ∷ []) 15 refl (rw (eq-eqb (tx_of s a.id.0).extras.reads.count 16 (sym n ∙ c.if-self-free-eq-RECORDS_MAX.true)))

pub returns : goal.returns
returns c =
    let a = c.args in
    let s = bare_state a.self in
    let w = found a.self a.memory a.tail.now a.id.0 a.addr a.len _ c.in_ok-free.ensures refl in
    let n = ranges a.self a.memory a.tail.now a.id.0 a.addr a.len _ c.in_ok-free.ensures refl in
    w.goes (check15 s a.id.0 ∷ []) (rw (ne_eqb (tx_of s a.id.0).extras.reads.count 16 (λ e. c.if-self-free-eq-RECORDS_MAX.false (n ∙ e))))
