use Rattle.std.proofs.Common.{ℕ, List, [], ◌∷◌, ◌++◌, ◌≡◌, ◌+◌, ◌≤◌, ◌<◌, true, false, arith, refl, sym, ap, ◌∙◌, eq-eqb, ne_eqb, lt-ltb, le-ltb}
use Rattle.layout.specs.Refusal.{number_of}
use Rattle.recovery.specs.Lists.{any}
use Rattle.transaction.specs.declared.Tx.{Tx}
use Rattle.transaction.specs.Rules.{writing, held_against}
use Rattle.store.specs.declared.State.{State}
use Rattle.store.specs.State.{txs_of}
use Rattle.store.specs.Extents.{bare_state}
use Rattle.store.specs.Numbers.{Check, first_number, tx_of, check8, check9, check10, check13, check16, abort_checks}
use Rattle.store.specs.Admission.{admission}
use Rattle.store.proofs.Bare.{slot_is}
use Rattle.store.proofs.Checks.{passes, refused_some, refused_first}
use Rattle.store.proofs.Choosing.{exits, refused_on, judged_running, range_checked}
use Rattle.store.proofs.extents.StateExtents.choose_write.Goals as goal

-- of the range and its page
abbrev ranged : ℕ → ℕ → List Check
ranged addr len = check8 addr len ∷ check16 addr len ∷ []

module _ (s : State) (room id addr len : ℕ) where
  -- what is checked after the range and its page
  abbrev last : List Check
  last = check9 s writing id addr len ∷ check10 s id ∷ check13 room len ∷ []

  -- what is checked after 7
  abbrev own : List Check
  own = ranged addr len ++ last

  own_last : 0 ≡ first_number (ranged addr len) → first_number own ≡ first_number last
  own_last p = passes (ranged addr len) last refl (sym p)

pub returns-in_err-running : goal.returns-in_err-running
returns-in_err-running c =
    let a = c.args in
    let s = bare_state a.self in
    exits _ _ c.from_residual.ensures.1 (refused_on s _ a.id.0 _ (abort_checks s a.id.0) (own s (admission s a.memory a.tail.now).room a.id.0 a.addr a.len) refl c.in_err-running.ensures)

pub returns-in_err-check_write_range : goal.returns-in_err-check_write_range
returns-in_err-check_write_range c =
    let a = c.args in
    let s = bare_state a.self in
    let r = (admission s a.memory a.tail.now).room in
    let w = judged_running _ _ _ _ _ c.in_ok-running.ensures refl in
    let e = c.in_err-check_write_range.field-0.0 in
    exits _ _ c.from_residual-in_err-check_write_range.ensures.1 (w.refuses (own s r a.id.0 a.addr a.len) (number_of e) (refused_some e)
    (refused_first e (ranged a.addr a.len) (last s r a.id.0 a.addr a.len) c.in_err-check_write_range.ensures))

pub held-requires : goal.held-requires
held-requires c =
    let w = judged_running _ _ _ _ _ c.in_ok-running.ensures refl in
    let g = range_checked c.args.addr c.args.len (check16 c.args.addr c.args.len ∷ []) (sym c.in_ok-check_write_range.ensures) in
    (w.few, omega (arith, g.within), g.short)

pub returns-then-held : goal.returns-then-held
returns-then-held c =
    let a = c.args in
    let s = bare_state a.self in
    let r = (admission s a.memory a.tail.now).room in
    let w = judged_running _ _ _ _ _ c.in_ok-running.ensures refl in
    let held : any (held_against writing a.id.0 a.addr a.len) (txs_of s) ≡ true = sym c.held.ensures ∙ c.if-held.true in
    w.refuses (own s r a.id.0 a.addr a.len) 9 refl (own_last s r a.id.0 a.addr a.len c.in_ok-check_write_range.ensures ∙ rw held)

pub returns-then-self-running-eq-RECORDS_MAX : goal.returns-then-self-running-eq-RECORDS_MAX
returns-then-self-running-eq-RECORDS_MAX c =
    let a = c.args in
    let s = bare_state a.self in
    let r = (admission s a.memory a.tail.now).room in
    let w = judged_running _ _ _ _ _ c.in_ok-running.ensures refl in
    let n = ap (λ (t : Tx). t.undo.ranges.count) (slot_is a.self w) in
    let free : any (held_against writing a.id.0 a.addr a.len) (txs_of s) ≡ false = sym c.held.ensures ∙ c.if-held.false in
    w.refuses (own s r a.id.0 a.addr a.len) 10 refl
    (own_last s r a.id.0 a.addr a.len c.in_ok-check_write_range.ensures
    ∙ rw (free, eq-eqb (tx_of s a.id.0).undo.ranges.count 16 (sym n ∙ c.if-self-running-eq-RECORDS_MAX.true)))

pub returns-then-running-len-gt-LOG_LEN : goal.returns-then-running-len-gt-LOG_LEN
returns-then-running-len-gt-LOG_LEN c =
    let a = c.args in
    let s = bare_state a.self in
    let r = (admission s a.memory a.tail.now).room in
    let w = judged_running _ _ _ _ _ c.in_ok-running.ensures refl in
    let n = ap (λ (t : Tx). t.undo.ranges.count) (slot_is a.self w) in
    let free : any (held_against writing a.id.0 a.addr a.len) (txs_of s) ≡ false = sym c.held.ensures ∙ c.if-held.false in
    let full : 16384 < r + (7 + a.len) = omega (arith, w.room, c.if-running-len-gt-LOG_LEN.true) in
    w.refuses (own s r a.id.0 a.addr a.len) 13 refl
    (own_last s r a.id.0 a.addr a.len c.in_ok-check_write_range.ensures
    ∙ rw (free, ne_eqb (tx_of s a.id.0).undo.ranges.count 16 (λ z. c.if-self-running-eq-RECORDS_MAX.false (n ∙ z)), lt-ltb _ _ full))

pub returns : goal.returns
returns c =
    let a = c.args in
    let s = bare_state a.self in
    let r = (admission s a.memory a.tail.now).room in
    let w = judged_running _ _ _ _ _ c.in_ok-running.ensures refl in
    let n = ap (λ (t : Tx). t.undo.ranges.count) (slot_is a.self w) in
    let free : any (held_against writing a.id.0 a.addr a.len) (txs_of s) ≡ false = sym c.held.ensures ∙ c.if-held.false in
    let enough : r + (7 + a.len) ≤ 16384 = omega (arith, w.room, c.if-running-len-gt-LOG_LEN.false) in
    w.goes (own s r a.id.0 a.addr a.len)
    (own_last s r a.id.0 a.addr a.len c.in_ok-check_write_range.ensures
    ∙ rw (free, ne_eqb (tx_of s a.id.0).undo.ranges.count 16 (λ z. c.if-self-running-eq-RECORDS_MAX.false (n ∙ z)), le-ltb _ _ enough))
