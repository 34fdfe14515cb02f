use Rattle.std.proofs.Common.{arith, rules, ◌≡◌, refl, length, Fits, w32}
use Rattle.store.specs.Extents.{bare_state}
use Rattle.store.specs.Numbers.{precommit_checks}
use Rattle.store.specs.Admission.{Choice, judged_choice}
use Rattle.store.proofs.Checks.{named}
use Rattle.store.proofs.SameNumbers.{precommit_first}
use Rattle.store.proofs.Bare.{judged}
use Rattle.store.proofs.Calling.{precommit_refused, precommit_done}
use Rattle.store.proofs.Judging.{Judged, judged_by}
use Rattle.store.proofs.Passing.{precommit_passed}
use Rattle.store.proofs.State.precommit.Goals as goal
use Rattle.store.proofs.State.precommit.Goals.{After-extents}

-- what is decided of the extents of the state is decided of the state
decided : (c : After-extents) (r : Choice) → let a = c.args in
    r ≡ judged_choice (bare_state c.extents.result) (length a.memory.now) a.tail.now a.id.0 (λ n. precommit_checks (bare_state c.extents.result) a.id.0)
    → Judged a.self (length a.memory.now) a.tail.now a.id.0 (λ n. precommit_checks a.self a.id.0) r
decided c =
    let a = c.args in
    let h = c.extents.ensures in
    judged_by a.self _ h (length a.memory.now) a.tail.now a.id.0 (λ s n. precommit_checks s a.id.0) (λ n. precommit_first _ _ (judged a.self _ h) a.id.0)

pub returns-in-Err : goal.returns-in-Err
returns-in-Err c =
    let a = c.args in
    let d = decided ((goal.at.returns-in-Err c).After-extents) _ c.in-Err.ensures in
    let o = precommit_refused a.self a.memory.now a.tail.now a.id _ d.number (named c.in-Err.refusal) in
    record { result_value = rw o; tail_after = rw o }

pub overflow_add-csn : goal.overflow_add-csn
overflow_add-csn c =
    let a = c.args in
    let d = decided ((goal.at.overflow_add-csn c).After-extents) _ c.in-Ok.ensures in
    let p = precommit_passed a.self a.memory.now a.tail.now a.id d.number in
    let f : Fits w32 a.self.assigned.0 = search rules in
    omega (arith, f, p.unspent)

pub precommit_step-s-requires : goal.precommit_step-s-requires
precommit_step-s-requires c =
    let a = c.args in
    let d = decided ((goal.at.precommit_step-s-requires c).After-extents) _ c.in-Ok.ensures in
    let p = precommit_passed a.self a.memory.now a.tail.now a.id d.number in
    let r = p.runs in
    let w = d.placed refl in
    let f : Fits w32 a.self.assigned.0 = search rules in
    record {
      unspent = omega (arith, f, p.unspent);
      slot_value = (rw w.slot r.redo, rw w.slot (omega (arith, w.end, r.tail, r.room)));
    }

pub returns : goal.returns
returns c =
    let a = c.args in
    let d = decided ((goal.at.returns c).After-extents) _ c.in-Ok.ensures in
    let p = precommit_passed a.self a.memory.now a.tail.now a.id d.number in
    let o = precommit_done a.self a.memory.now a.tail.now a.id d.number in
    let w = d.placed refl in
    let e = c.precommit_step-s.ensures in
    record { result_value = rw (o, e.value, w.slot); tail_after = rw (o, e.tail_after, w.end, w.slot, p.runs.named) }
