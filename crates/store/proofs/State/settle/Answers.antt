use Rattle.std.proofs.Common.{arith, ◌≡◌, refl, length}
use Rattle.store.specs.Extents.{bare_state}
use Rattle.store.specs.Numbers.{settle_checks}
use Rattle.store.specs.Admission.{Choice, judged_choice}
use Rattle.store.proofs.Checks.{named}
use Rattle.store.proofs.SameNumbers.{settle_first}
use Rattle.store.proofs.Bare.{judged}
use Rattle.store.proofs.Calling.{settle_refused, settle_done}
use Rattle.store.proofs.Judging.{Judged, judged_by}
use Rattle.store.proofs.Passing.{settle_passed}
use Rattle.store.proofs.State.settle.Goals as goal
use Rattle.store.proofs.State.settle.Goals.{After-extents}

-- what is decided of the extents of the state is decided of the state
decided : (c : After-extents) (r : Choice) → let a = c.args in
    r ≡ judged_choice (bare_state c.extents.result) (length a.memory.now) a.tail.now a.id.0 (λ n. settle_checks (bare_state c.extents.result) a.id.0)
    → Judged a.self (length a.memory.now) a.tail.now a.id.0 (λ n. settle_checks a.self a.id.0) r
decided c =
    let a = c.args in
    let h = c.extents.ensures in
    judged_by a.self _ h (length a.memory.now) a.tail.now a.id.0 (λ s n. settle_checks s a.id.0) (λ n. settle_first _ _ (judged a.self _ h) a.id.0)

pub returns-in-Err : goal.returns-in-Err
returns-in-Err c =
    let a = c.args in
    let d = decided ((goal.at.returns-in-Err c).After-extents) _ c.in-Err.ensures in
    rw (settle_refused a.self a.memory.now a.tail.now a.id _ d.number (named c.in-Err.refusal))

pub drop_step-s-requires : goal.drop_step-s-requires
drop_step-s-requires c =
    let a = c.args in
    let d = decided ((goal.at.drop_step-s-requires c).After-extents) _ c.in-Ok.ensures in
    let p = settle_passed a.self a.memory.now a.tail.now a.id d.number in
    (omega (arith, (d.placed refl).slot, p.listed), p.few)

pub returns : goal.returns
returns c =
    let a = c.args in
    let d = decided ((goal.at.returns c).After-extents) _ c.in-Ok.ensures in
    rw (settle_done a.self a.memory.now a.tail.now a.id d.number, c.drop_step-s.ensures, (d.placed refl).slot)
