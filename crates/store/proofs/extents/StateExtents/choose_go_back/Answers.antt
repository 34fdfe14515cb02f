use Prim.Native.Nat.{ℕ, zero, suc, ◌+◌, ◌≤◌, ◌<◌}
use native.Mathlib.Omega.{arith}
use mathlib.Core.Bool.{true}
use mathlib.Core.List.{List, [], ◌∷◌}
use mathlib.Core.Path.{◌≡◌, refl, sym, ap, ◌∙◌, subst}
use lib.ListN.{length, get_or, drop, length-drop}
use borrow.Author.Tests.{eqb-false, lt-ltb, le-ltb}
use Rattle.transaction.specs.declared.Tx.{Tx}
use Rattle.transaction.specs.declared.TxExtents.{TxExtents}
use Rattle.transaction.specs.View.{Range, range_at, ranges_of, savepoints_of, bare_tx}
use Rattle.transaction.specs.Rules.{records_ok, savepoints_ok, ranges_size, is_set, stood_at, later_ranges}
use Rattle.transaction.proofs.Lists.{length_up}
use Rattle.transaction.proofs.Heads.{running_status}
use Rattle.transaction.proofs.RangeLaws.{counted, size_bound}
use Rattle.transaction.proofs.StateRule.{few_savepoints, running_savepoints}
use Rattle.image.proofs.Rules.{ruled_at, undo_at_lem}
use Rattle.store.specs.declared.State.{State}
use Rattle.store.specs.declared.extents.StateExtents.{StateExtents}
use Rattle.store.specs.Admission.{Admission, Choice, admission}
use Rattle.store.specs.State.{tx_at, image_of}
use Rattle.store.specs.Extents.{no_extents, bare_state}
use Rattle.store.specs.Numbers.{Check, tx_of, abort_checks, check7, check18, return_check10, return_check13}
use Rattle.store.proofs.Bare.{bare_at, slot_is, slot_ok}
use Rattle.store.proofs.Checks.{passed}
use Rattle.store.proofs.Choosing.{exits, refused_on, Slotted, judged_running}
use Rattle.store.proofs.extents.StateExtents.choose_go_back.Goals as goal

-- its own numbers after 7
abbrev last : State → ℕ → ℕ → ℕ → List Check
last s room id name = check18 s id name ∷ return_check10 s id name ∷ return_check13 s room id name ∷ []

size-drop : (n : ℕ) (rs : List Range) → ranges_size (drop n rs) ≤ ranges_size rs
size-drop zero rs = omega arith
size-drop (suc n) [] = omega arith
size-drop (suc n) (r ∷ rs) = let h = size-drop n rs in omega (arith, h)

-- numbers 1, 2, 6 and 7 do not refuse
module _ (e : StateExtents) (x : Admission) (id name : ℕ) (r : Choice) (w : Slotted (bare_state e) x id r (check7 (bare_state e) id ∷ [])) where
  abbrev s : State
  s = bare_state e

  -- the transaction's extents
  abbrev tx : TxExtents
  tx = get_or e.txs r.slot no_extents

  runs : (bare_tx tx).status ≡ 1
  runs =
      let u = tx_at s r.slot in
      let p = (passed (abort_checks s id) [] refl w.own).0.1.0 in
      let not2 : u.status ≡ 2 → ⊥ = λ z. eqb-false _ _ p (ap (λ (i : ℕ). (tx_at s i).status) (sym w.slot) ∙ z) in
      let one : u.status ≡ 1 = running_status s.lastid.0 s.assigned.0 u.id.0 u.status u.csn.0 (ruled_at (image_of s) w.rules r.slot w.listed) not2 in
      ap (λ (t : Tx). t.status) (sym (bare_at e r.slot)) ∙ one

  saved : savepoints_ok tx.undo.count (savepoints_of (bare_tx tx)) ≡ true
  saved = running_savepoints (bare_tx tx) (slot_ok e w) runs

  records : records_ok (ranges_of tx.undo) ≡ true
  records = subst (λ (t : Tx). records_ok (ranges_of t.undo.ranges) ≡ true) (bare_at e r.slot) (undo_at_lem (image_of s) w.rules r.slot w.listed)

  few_set : tx.extras.savepoints.count ≤ 4
  few_set = few_savepoints (bare_tx tx) (slot_ok e w)

  -- what number 18 asks
  set_is : is_set name (savepoints_of (tx_of s id)) ≡ is_set name (savepoints_of (bare_tx tx))
  set_is = ap (λ (t : Tx). is_set name (savepoints_of t)) (sym (slot_is e w))

  -- the records that there would be
  total : (tx_of s id).undo.ranges.count + length (later_ranges name (tx_of s id)) ≡ tx.undo.count + length (later_ranges name (bare_tx tx))
  total = ap (λ (t : Tx). t.undo.ranges.count + length (later_ranges name t)) (sym (slot_is e w))

  few_later : tx.undo.count + length (later_ranges name (bare_tx tx)) ≤ 32
  few_later =
      let n = length-drop (stood_at name (bare_tx tx)) (ranges_of tx.undo) in
      omega (arith, n, length_up (range_at tx.undo) tx.undo.count 0, counted tx.undo records)

  -- the bytes that there would be
  bytes : ranges_size (later_ranges name (tx_of s id)) ≡ ranges_size (later_ranges name (bare_tx tx))
  bytes = ap (λ (t : Tx). ranges_size (later_ranges name t)) (sym (slot_is e w))

  few_bytes : r.room + ranges_size (later_ranges name (bare_tx tx)) ≤ 65536
  few_bytes =
      let d = size-drop (stood_at name (bare_tx tx)) (ranges_of tx.undo) in
      omega (arith, d, size_bound (ranges_of tx.undo) records, w.room, w.small)

pub returns-in_err-running : goal.returns-in_err-running
returns-in_err-running c =
    let a = c.args in
    let s = bare_state a.self in
    let id = a.id.0 in
    exits _ _ c.from_residual.ensures.1 (refused_on s _ id _ (abort_checks s id) (last s (admission s a.memory a.tail.now).room id a.name) refl c.in_err-running.ensures)

pub has_savepoint-requires : goal.has_savepoint-requires
has_savepoint-requires c =
    let a = c.args in
    let w = judged_running _ _ _ _ _ c.in_ok-running.ensures refl in
    few_set a.self _ a.id.0 a.name _ w

pub returns-then-not-has_savepoint : goal.returns-then-not-has_savepoint
returns-then-not-has_savepoint c =
    let a = c.args in
    let s = bare_state a.self in
    let w = judged_running _ _ _ _ _ c.in_ok-running.ensures refl in
    let q = set_is a.self _ a.id.0 a.name _ w ∙ sym c.has_savepoint.ensures ∙ c.if-not-has_savepoint.true in
    w.refuses (last s (admission s a.memory a.tail.now).room a.id.0 a.name) 18 refl (rw q)

pub later_count-requires : goal.later_count-requires
later_count-requires c =
    let a = c.args in
    let w = judged_running _ _ _ _ _ c.in_ok-running.ensures refl in
    saved a.self _ a.id.0 a.name _ w

pub overflow_add-total : goal.overflow_add-total
overflow_add-total c =
    let a = c.args in
    let w = judged_running _ _ _ _ _ c.in_ok-running.ensures refl in
    omega (arith, c.later_count.ensures, few_later a.self _ a.id.0 a.name _ w)

pub later_size-requires : goal.later_size-requires
later_size-requires c =
    let a = c.args in
    let w = judged_running _ _ _ _ _ c.in_ok-running.ensures refl in
    (records a.self _ a.id.0 a.name _ w, saved a.self _ a.id.0 a.name _ w)

pub overflow_add-used : goal.overflow_add-used
overflow_add-used c =
    let a = c.args in
    let w = judged_running _ _ _ _ _ c.in_ok-running.ensures refl in
    omega (arith, c.later_size.ensures, few_bytes a.self _ a.id.0 a.name _ w)

pub returns-then-total-gt-MAX_RECORDS : goal.returns-then-total-gt-MAX_RECORDS
returns-then-total-gt-MAX_RECORDS c =
    let a = c.args in
    let s = bare_state a.self in
    let w = judged_running _ _ _ _ _ c.in_ok-running.ensures refl in
    let q = set_is a.self _ a.id.0 a.name _ w ∙ sym c.has_savepoint.ensures ∙ c.if-not-has_savepoint.false in
    let t : 16 < (tx_of s a.id.0).undo.ranges.count + length (later_ranges a.name (tx_of s a.id.0)) =
    omega (arith, total a.self _ a.id.0 a.name _ w, c.later_count.ensures, c.if-total-gt-MAX_RECORDS.true) in
    w.refuses (last s (admission s a.memory a.tail.now).room a.id.0 a.name) 10 refl (rw (q, lt-ltb _ _ t))

pub returns-then-used-gt-LOG_LEN : goal.returns-then-used-gt-LOG_LEN
returns-then-used-gt-LOG_LEN c =
    let a = c.args in
    let s = bare_state a.self in
    let w = judged_running _ _ _ _ _ c.in_ok-running.ensures refl in
    let q = set_is a.self _ a.id.0 a.name _ w ∙ sym c.has_savepoint.ensures ∙ c.if-not-has_savepoint.false in
    let t : (tx_of s a.id.0).undo.ranges.count + length (later_ranges a.name (tx_of s a.id.0)) ≤ 16 =
    omega (arith, total a.self _ a.id.0 a.name _ w, c.later_count.ensures, c.if-total-gt-MAX_RECORDS.false) in
    let v : 16384 < (admission s a.memory a.tail.now).room + ranges_size (later_ranges a.name (tx_of s a.id.0)) =
    omega (arith, bytes a.self _ a.id.0 a.name _ w, c.later_size.ensures, c.if-used-gt-LOG_LEN.true, w.room) in
    w.refuses (last s (admission s a.memory a.tail.now).room a.id.0 a.name) 13 refl (rw (q, le-ltb _ _ t, lt-ltb _ _ v))

pub returns : goal.returns
returns c =
    let a = c.args in
    let s = bare_state a.self in
    let w = judged_running _ _ _ _ _ c.in_ok-running.ensures refl in
    let q = set_is a.self _ a.id.0 a.name _ w ∙ sym c.has_savepoint.ensures ∙ c.if-not-has_savepoint.false in
    let t : (tx_of s a.id.0).undo.ranges.count + length (later_ranges a.name (tx_of s a.id.0)) ≤ 16 =
    omega (arith, total a.self _ a.id.0 a.name _ w, c.later_count.ensures, c.if-total-gt-MAX_RECORDS.false) in
    let v : (admission s a.memory a.tail.now).room + ranges_size (later_ranges a.name (tx_of s a.id.0)) ≤ 16384 =
    omega (arith, bytes a.self _ a.id.0 a.name _ w, c.later_size.ensures, c.if-used-gt-LOG_LEN.false, w.room) in
    w.goes (last s (admission s a.memory a.tail.now).room a.id.0 a.name) (rw (q, le-ltb _ _ t, le-ltb _ _ v))
