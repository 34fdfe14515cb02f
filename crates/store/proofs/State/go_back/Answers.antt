use Rattle.std.proofs.Common.{rules, ◌≡◌, refl, sym, length}
use Rattle.store.specs.Extents.{bare_state}
use Rattle.store.specs.Numbers.{tx_of, go_back_checks}
use Rattle.store.specs.Admission.{Choice, judged_choice}
use Rattle.store.proofs.Checks.{named}
use Rattle.store.proofs.SameNumbers.{go_back_first}
use Rattle.store.proofs.Bare.{judged}
use Rattle.store.proofs.Calling.{go_back_refused, go_back_done}
use Rattle.store.proofs.Judging.{Judged, judged_by}
use Rattle.store.proofs.Passing.{same_count, go_back_passed}
use Rattle.store.proofs.State.go_back.Goals as goal
use Rattle.store.proofs.State.go_back.Goals.{After-extents}

-- what is decided of the extents of the state is decided of the state
decided : (c : After-extents) (r : Choice) → let a = c.args in
    r ≡ judged_choice (bare_state c.extents.result) (length a.memory.now) a.tail.now a.id.0 (λ n. go_back_checks (bare_state c.extents.result) n a.id.0 a.name)
    → Judged a.self (length a.memory.now) a.tail.now a.id.0 (λ n. go_back_checks a.self n a.id.0 a.name) r
decided c =
    let a = c.args in
    let h = c.extents.ensures in
    judged_by a.self _ h (length a.memory.now) a.tail.now a.id.0 (λ s n. go_back_checks s n a.id.0 a.name) (λ n. go_back_first _ _ (judged a.self _ h) a.id.0 a.name n n refl)

pub returns-in-Err : goal.returns-in-Err
returns-in-Err c =
    let a = c.args in
    let d = decided ((goal.at.returns-in-Err c).After-extents) _ c.in-Err.ensures in
    let o = go_back_refused a.self a.memory.now a.tail.now a.id a.name _ d.number (named c.in-Err.refusal) in
    record { result_value = rw o; memory_after = rw o }

pub unwrap-memory-requires : goal.unwrap-memory-requires
unwrap-memory-requires c =
    let a = c.args in
    let d = decided ((goal.at.unwrap-memory-requires c).After-extents) _ c.in-Ok.ensures in
    let l = (go_back_passed a.self a.memory.now a.tail.now a.id a.name d.number).runs.memory in
    search rules

pub go_back_step-s-requires : goal.go_back_step-s-requires
go_back_step-s-requires c =
    let a = c.args in
    let d = decided ((goal.at.go_back_step-s-requires c).After-extents) _ c.in-Ok.ensures in
    let p = go_back_passed a.self a.memory.now a.tail.now a.id a.name d.number in
    let r = p.runs in
    let w = (d.placed refl).slot in
    let t = tx_of a.self a.id.0 in
    record {
      records = (rw w r.undo, rw w (sym (same_count t.undo.ranges t.redo.ranges r.same)));
      slot_value = (rw w p.saved, rw w p.records);
    }

pub returns : goal.returns
returns c =
    let a = c.args in
    let d = decided ((goal.at.returns c).After-extents) _ c.in-Ok.ensures in
    let o = go_back_done a.self a.memory.now a.tail.now a.id a.name d.number in
    let w = (d.placed refl).slot in
    let e = c.go_back_step-s.ensures in
    let same : c.unwrap-memory.result.now ≡ a.memory.now = search rules in
    record { result_value = rw (o, e.value, w, same); memory_after = rw (o, e.memory_after, w, same) }
