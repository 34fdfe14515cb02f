use Rattle.std.proofs.Common.{arith, ◌≡◌, refl, length}
use Rattle.store.specs.Extents.{bare_state}
use Rattle.store.specs.Numbers.{answer_checks}
use Rattle.store.specs.Admission.{Choice, judged_choice}
use Rattle.store.proofs.Checks.{named}
use Rattle.store.proofs.SameNumbers.{answer_first}
use Rattle.store.proofs.Bare.{judged}
use Rattle.store.proofs.Calling.{answer_refused, answer_done}
use Rattle.store.proofs.Judging.{Judged, judged_by}
use Rattle.store.proofs.Passing.{answer_passed}
use Rattle.store.proofs.State.read_answer.Goals as goal
use Rattle.store.proofs.State.read_answer.Goals.{After-extents}

-- what is decided of the extents of the state is decided of the state
decided : (c : After-extents) (r : Choice) → let a = c.args in
    r ≡ judged_choice (bare_state c.extents.result) (length a.memory.now) a.tail.now a.id.0 (λ n. answer_checks (bare_state c.extents.result) a.id.0 a.addr a.len)
    → Judged a.self (length a.memory.now) a.tail.now a.id.0 (λ n. answer_checks a.self a.id.0 a.addr a.len) r
decided c =
    let a = c.args in
    let h = c.extents.ensures in
    judged_by a.self _ h (length a.memory.now) a.tail.now a.id.0 (λ s n. answer_checks s a.id.0 a.addr a.len) (λ n. answer_first _ _ (judged a.self _ h) a.id.0 a.addr a.len)

pub returns-in-Err : goal.returns-in-Err
returns-in-Err c =
    let a = c.args in
    let d = decided ((goal.at.returns-in-Err c).After-extents) _ c.in-Err.ensures in
    rw (answer_refused a.self a.memory.now a.tail.now a.id a.addr a.len _ d.number (named c.in-Err.refusal))

pub read_step-s-requires : goal.read_step-s-requires
read_step-s-requires c =
    let a = c.args in
    let d = decided ((goal.at.read_step-s-requires c).After-extents) _ c.in-Ok.ensures in
    let p = answer_passed a.self a.memory.now a.tail.now a.id a.addr a.len d.number in
    let r = p.read in
    let w = (d.placed refl).slot in
    (r.range.short, omega (arith, r.range.within), rw w p.reads)

pub returns : goal.returns
returns c =
    let a = c.args in
    let d = decided ((goal.at.returns c).After-extents) _ c.in-Ok.ensures in
    rw (answer_done a.self a.memory.now a.tail.now a.id a.addr a.len d.number, c.read_step-s.ensures, (d.placed refl).slot)
