use Rattle.std.proofs.Common.{arith, rules, ◌≡◌, refl, length}
use Rattle.store.specs.Extents.{bare_state}
use Rattle.store.specs.Numbers.{abort_checks}
use Rattle.store.specs.Admission.{Choice, judged_choice}
use Rattle.store.proofs.Checks.{named}
use Rattle.store.proofs.SameNumbers.{abort_first}
use Rattle.store.proofs.Bare.{judged}
use Rattle.store.proofs.Calling.{abort_refused, abort_done}
use Rattle.store.proofs.Judging.{Judged, judged_by}
use Rattle.store.proofs.Passing.{abort_passed}
use Rattle.store.proofs.State.abort.Goals as goal
use Rattle.store.proofs.State.abort.Goals.{After-extents}

-- what is decided of the extents of the state is decided of the state
decided : (c : After-extents) (r : Choice) → let a = c.args in
    r ≡ judged_choice (bare_state c.extents.result) (length a.memory.now) a.tail.now a.id.0 (λ n. abort_checks (bare_state c.extents.result) a.id.0)
    → Judged a.self (length a.memory.now) a.tail.now a.id.0 (λ n. abort_checks a.self a.id.0) r
decided c =
    let a = c.args in
    let h = c.extents.ensures in
    judged_by a.self _ h (length a.memory.now) a.tail.now a.id.0 (λ s n. abort_checks s a.id.0) (λ n. abort_first _ _ (judged a.self _ h) a.id.0)

pub returns-in-Err : goal.returns-in-Err
returns-in-Err c =
    let a = c.args in
    let d = decided ((goal.at.returns-in-Err c).After-extents) _ c.in-Err.ensures in
    let o = abort_refused a.self a.memory.now a.tail.now a.id _ d.number (named c.in-Err.refusal) in
    record { result_value = rw o; memory_after = rw o; tail_after = rw o }

pub unwrap-memory-requires : goal.unwrap-memory-requires
unwrap-memory-requires c =
    let a = c.args in
    let d = decided ((goal.at.unwrap-memory-requires c).After-extents) _ c.in-Ok.ensures in
    let l = (abort_passed a.self a.memory.now a.tail.now a.id d.number).memory in
    search rules

pub abort_step-s-requires : goal.abort_step-s-requires
abort_step-s-requires c =
    let a = c.args in
    let d = decided ((goal.at.abort_step-s-requires c).After-extents) _ c.in-Ok.ensures in
    let p = abort_passed a.self a.memory.now a.tail.now a.id d.number in
    let w = d.placed refl in
    record {
      slot_lt_count = (omega (arith, w.slot, p.listed), p.few);
      slot_value = (rw w.slot p.undo, omega (arith, w.end, p.tail, p.room));
    }

pub returns : goal.returns
returns c =
    let a = c.args in
    let d = decided ((goal.at.returns c).After-extents) _ c.in-Ok.ensures in
    let p = abort_passed a.self a.memory.now a.tail.now a.id d.number in
    let o = abort_done a.self a.memory.now a.tail.now a.id d.number in
    let w = d.placed refl in
    let e = c.abort_step-s.ensures in
    let same : c.unwrap-memory.result.now ≡ a.memory.now = search rules in
    record {
      result_value = rw (o, e.value, w.slot);
      memory_after = rw (o, e.memory_after, w.slot, same);
      tail_after = rw (o, e.tail_after, w.end, w.slot, p.named);
    }
