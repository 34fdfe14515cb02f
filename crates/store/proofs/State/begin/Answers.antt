use Rattle.std.proofs.Common.{arith, rules, ◌≡◌, ◌∙◌, ℕ, sym, Fits, w16, length}
use mathlib.Core.Path.{ap₂}
use Rattle.store.specs.Extents.{bare_state}
use Rattle.store.specs.Rules.{room_used}
use Rattle.store.specs.Numbers.{number_by, begin_checks}
use Rattle.store.specs.Admission.{judged_number}
use Rattle.store.specs.Calls.{begin_number}
use Rattle.store.proofs.Checks.{named}
use Rattle.store.proofs.Bare.{judged}
use Rattle.store.proofs.Calling.{begin_refused, begin_done}
use Rattle.store.proofs.Judging.{number_call}
use Rattle.store.proofs.Passing.{begin_passed}
use Rattle.store.proofs.State.begin.Goals as goal
use Rattle.store.proofs.State.begin.Goals.{After-extents}

-- what is decided of the extents of the state is decided of the state
decided : (c : After-extents) (n : ℕ) → let a = c.args in
    let e = c.extents.result in
    n ≡ judged_number (bare_state e) (length a.memory.now) a.tail.now (λ k. begin_checks e.counters.count e.counters.lastid.0 k)
    → begin_number a.self a.memory.now a.tail.now ≡ n
decided c n q =
    let a = c.args in
    let e = c.extents.result in
    let h = judged a.self e c.extents.ensures in
    ap₂ (λ (k l : ℕ). number_by a.self (length a.memory.now) a.tail.now (begin_checks k l (room_used a.self a.tail.now))) (sym h.count) (sym h.lastid)
    ∙ number_call a.self e c.extents.ensures (length a.memory.now) a.tail.now (λ k. begin_checks e.counters.count e.counters.lastid.0 k)
    ∙ sym q

pub returns-in-Err : goal.returns-in-Err
returns-in-Err c =
    let a = c.args in
    let d = decided ((goal.at.returns-in-Err c).After-extents) _ c.in-Err.ensures in
    rw (begin_refused a.self a.memory.now a.tail.now _ d (named c.in-Err.refusal))

pub begin_step-s-requires : goal.begin_step-s-requires
begin_step-s-requires c =
    let a = c.args in
    let d = decided ((goal.at.begin_step-s-requires c).After-extents) _ c.in_default.ensures in
    let p = begin_passed a.self a.memory.now a.tail.now d in
    let f : Fits w16 a.self.lastid.0 = search rules in
    (p.free, omega (arith, f, p.unspent))

pub returns : goal.returns
returns c =
    let a = c.args in
    let d = decided ((goal.at.returns c).After-extents) _ c.in_default.ensures in
    rw (begin_done a.self a.memory.now a.tail.now d, c.begin_step-s.ensures)
