use Rattle.std.proofs.Common.{arith, ◌≡◌, ◌∙◌, refl, ℕ, ◌+◌, ◌-◌, ◌<◌, List, length, sym, ap}
use Rattle.transaction.specs.View.{Range, used_by}
use Rattle.transaction.specs.Rules.{covered}
use Rattle.store.specs.State.{tx_at}
use Rattle.store.specs.Extents.{bare_state}
use Rattle.store.specs.Numbers.{tx_of, read_checks}
use Rattle.store.proofs.Checks.{named}
use Rattle.store.proofs.Sameness.{used_same}
use Rattle.store.proofs.SameNumbers.{read_first}
use Rattle.store.proofs.Bare.{judged}
use Rattle.store.proofs.Calling.{read_refused, read_uncovered, read_done}
use Rattle.store.proofs.Judging.{Judged, judged_by}
use Rattle.store.proofs.Passing.{ReadPassed, read_passed}
use Rattle.store.proofs.State.read.Goals as goal
use Rattle.store.proofs.State.read.Goals.{In-Ok}

-- what is decided of the extents of the state is decided of the state
pub returns-in_default : goal.returns-in_default
returns-in_default c =
    let a = c.args in
    let h = c.extents-seen.ensures in
    let d =
    judged_by a.self _ h (length a.memory.now) a.tail.now a.id.0 (λ s n. read_checks s a.id.0 a.addr a.len)
    (λ n. read_first _ _ (judged a.self _ h) a.id.0 a.addr a.len) _ c.in_default.ensures in
    rw (read_refused a.self a.memory.now a.tail.now a.id a.addr a.len _ d.number (named c.in_default.field-0))

-- a read that no number refuses
chosen : (c : In-Ok) → let a = c.args in
    Judged a.self (length a.memory.now) a.tail.now a.id.0 (λ n. read_checks a.self a.id.0 a.addr a.len)
    (record { number = 0; slot = c.in-Ok.chosen.slot; end = c.in-Ok.chosen.admitted.end; room = c.in-Ok.chosen.admitted.room })
chosen c =
    let a = c.args in
    let h = c.extents-seen.ensures in
    judged_by a.self _ h (length a.memory.now) a.tail.now a.id.0 (λ s n. read_checks s a.id.0 a.addr a.len)
    (λ n. read_first _ _ (judged a.self _ h) a.id.0 a.addr a.len) _ c.in-Ok.ensures

passed : (c : In-Ok) → let a = c.args in ReadPassed a.self a.memory.now a.tail.now a.id.0 a.addr a.len
passed c = let a = c.args in read_passed a.self a.memory.now a.tail.now a.id a.addr a.len (chosen c).number

listed : (c : In-Ok) → c.in-Ok.chosen.slot < c.extents-seen.result.counters.count
listed c = omega (arith, ((chosen c).placed refl).slot, (passed c).runs.listed, (judged c.args.self _ c.extents-seen.ensures).count)

pub covers-requires : goal.covers-requires
covers-requires c = (passed ((goal.at.covers-requires c).In-Ok)).range.within

-- what is asked of the extents is asked of the state
cover : (c : In-Ok) → let a = c.args in
    covered (used_by (tx_at (bare_state c.extents-seen.result) c.in-Ok.chosen.slot)) a.addr a.len ≡ covered (used_by (tx_of a.self a.id.0)) a.addr a.len
cover c =
    let a = c.args in
    let h = judged a.self _ c.extents-seen.ensures in
    ap (λ (rs : List Range). covered rs a.addr a.len) (used_same _ _ (h.listed c.in-Ok.chosen.slot (listed c)))
    ∙ ap (λ (j : ℕ). covered (used_by (tx_at a.self j)) a.addr a.len) ((chosen c).placed refl).slot

pub overflow_add-result : goal.overflow_add-result
overflow_add-result c = omega (arith, (passed ((goal.at.overflow_add-result c).In-Ok)).range.within)

pub slice_bounds-result-end-2 : goal.slice_bounds-result-end-2
slice_bounds-result-end-2 c =
    let p = passed ((goal.at.slice_bounds-result-end-2 c).In-Ok) in
    omega (arith, p.range.within, p.runs.memory)

pub returns-then-not-covers : goal.returns-then-not-covers
returns-then-not-covers c =
    let a = c.args in
    let x = (goal.at.returns-then-not-covers c).In-Ok in
    rw (read_uncovered a.self a.memory.now a.tail.now a.id a.addr a.len (chosen x).number (sym (cover x) ∙ sym c.covers.ensures ∙ c.if-not-covers.true))

pub returns : goal.returns
returns c =
    let a = c.args in
    let x = (goal.at.returns c).In-Ok in
    let e : a.addr + a.len - a.addr ≡ a.len = omega arith in
    rw (e, read_done a.self a.memory.now a.tail.now a.id a.addr a.len (chosen x).number (sym (cover x) ∙ sym c.covers.ensures ∙ c.if-not-covers.false))
