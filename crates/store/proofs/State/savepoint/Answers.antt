use Rattle.std.proofs.Common.{◌≡◌, refl, length}
use Rattle.transaction.proofs.SavepointLaws.{few_savepoints, place_fits}
use Rattle.store.specs.Extents.{bare_state}
use Rattle.store.specs.Numbers.{tx_of, savepoint_checks}
use Rattle.store.specs.Admission.{Choice, judged_choice}
use Rattle.store.proofs.Checks.{named}
use Rattle.store.proofs.SameNumbers.{savepoint_first}
use Rattle.store.proofs.Bare.{judged}
use Rattle.store.proofs.Calling.{savepoint_refused, savepoint_done}
use Rattle.store.proofs.Judging.{Judged, judged_by}
use Rattle.store.proofs.Passing.{savepoint_passed}
use Rattle.store.proofs.State.savepoint.Goals as goal
use Rattle.store.proofs.State.savepoint.Goals.{After-extents}

-- what is decided of the extents of the state is decided of the state
decided : (c : After-extents) (r : Choice) → let a = c.args in
    r ≡ judged_choice (bare_state c.extents.result) (length a.memory.now) a.tail.now a.id.0 (λ n. savepoint_checks (bare_state c.extents.result) a.id.0 a.name)
    → Judged a.self (length a.memory.now) a.tail.now a.id.0 (λ n. savepoint_checks a.self a.id.0 a.name) r
decided c =
    let a = c.args in
    let h = c.extents.ensures in
    judged_by a.self _ h (length a.memory.now) a.tail.now a.id.0 (λ s n. savepoint_checks s a.id.0 a.name) (λ n. savepoint_first _ _ (judged a.self _ h) a.id.0 a.name)

pub returns-in-Err : goal.returns-in-Err
returns-in-Err c =
    let a = c.args in
    let d = decided ((goal.at.returns-in-Err c).After-extents) _ c.in-Err.ensures in
    rw (savepoint_refused a.self a.memory.now a.tail.now a.id a.name _ d.number (named c.in-Err.refusal))

pub savepoint_step-s-requires : goal.savepoint_step-s-requires
savepoint_step-s-requires c =
    let a = c.args in
    let d = decided ((goal.at.savepoint_step-s-requires c).After-extents) _ c.in-Ok.ensures in
    let p = savepoint_passed a.self a.memory.now a.tail.now a.id a.name d.number in
    let w = (d.placed refl).slot in
    let x = tx_of a.self a.id.0 in
    let n = x.undo.ranges.count in (
      rw w (few_savepoints x.extras.savepoints n p.saved),
      rw w (place_fits x.extras.savepoints n a.name p.saved p.given),
    )

pub returns : goal.returns
returns c =
    let a = c.args in
    let d = decided ((goal.at.returns c).After-extents) _ c.in-Ok.ensures in
    rw (savepoint_done a.self a.memory.now a.tail.now a.id a.name d.number, c.savepoint_step-s.ensures, (d.placed refl).slot)
