use Rattle.std.proofs.Common.{rules, ◌≡◌, refl, length}
use Rattle.store.specs.Extents.{bare_state}
use Rattle.store.specs.Numbers.{write_checks}
use Rattle.store.specs.Admission.{Choice, judged_choice}
use Rattle.store.proofs.Checks.{named}
use Rattle.store.proofs.SameNumbers.{write_first}
use Rattle.store.proofs.Bare.{judged}
use Rattle.store.proofs.Calling.{write_refused, write_done}
use Rattle.store.proofs.Judging.{Judged, judged_by}
use Rattle.store.proofs.Passing.{write_passed}
use Rattle.store.proofs.State.write.Goals as goal
use Rattle.store.proofs.State.write.Goals.{After-extents}

-- what is decided of the extents of the state is decided of the state
decided : (c : After-extents) (r : Choice) → let a = c.args in
    r ≡ judged_choice (bare_state c.extents.result) (length a.memory.now) a.tail.now a.id.0 (λ n. write_checks (bare_state c.extents.result) n a.id.0 a.addr (length a.bytes.now))
    → Judged a.self (length a.memory.now) a.tail.now a.id.0 (λ n. write_checks a.self n a.id.0 a.addr (length a.bytes.now)) r
decided c =
    let a = c.args in
    let h = c.extents.ensures in
    judged_by a.self _ h (length a.memory.now) a.tail.now a.id.0 (λ s n. write_checks s n a.id.0 a.addr (length a.bytes.now)) (λ n. write_first _ _ (judged a.self _ h) a.id.0 a.addr (length a.bytes.now) n n refl)

pub returns-in-Err : goal.returns-in-Err
returns-in-Err c =
    let a = c.args in
    let d = decided ((goal.at.returns-in-Err c).After-extents) _ c.in-Err.ensures in
    let o = write_refused a.self a.memory.now a.tail.now a.id a.addr a.bytes.now _ d.number (named c.in-Err.refusal) in
    record { result_value = rw o; memory_after = rw o }

pub unwrap-memory-requires : goal.unwrap-memory-requires
unwrap-memory-requires c =
    let a = c.args in
    let d = decided ((goal.at.unwrap-memory-requires c).After-extents) _ c.in-Ok.ensures in
    let l = (write_passed a.self a.memory.now a.tail.now a.id a.addr (length a.bytes.now) d.number).runs.memory in
    search rules

pub write_step-s-requires : goal.write_step-s-requires
write_step-s-requires c =
    let a = c.args in
    let d = decided ((goal.at.write_step-s-requires c).After-extents) _ c.in-Ok.ensures in
    let p = write_passed a.self a.memory.now a.tail.now a.id a.addr (length a.bytes.now) d.number in
    let w = (d.placed refl).slot in
    record {
      in_range = (p.range.short, p.range.within);
      slot_bound = (rw w p.undo, rw w p.redo);
    }

pub returns : goal.returns
returns c =
    let a = c.args in
    let d = decided ((goal.at.returns c).After-extents) _ c.in-Ok.ensures in
    let o = write_done a.self a.memory.now a.tail.now a.id a.addr a.bytes.now d.number in
    let w = (d.placed refl).slot in
    let e = c.write_step-s.ensures in
    let same : c.unwrap-memory.result.now ≡ a.memory.now = search rules in
    record { result_value = rw (o, e.value, w, same); memory_after = rw (o, e.memory_after, same) }
