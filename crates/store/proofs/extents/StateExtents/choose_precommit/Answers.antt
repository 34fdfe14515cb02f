use Rattle.std.proofs.Common.{[], ◌∷◌, refl, eq-eqb, ne_eqb}
use Rattle.store.specs.Extents.{bare_state}
use Rattle.store.specs.Numbers.{abort_checks, check12}
use Rattle.store.proofs.Choosing.{exits, refused_on, judged_running}
use Rattle.store.proofs.extents.StateExtents.choose_precommit.Goals as goal

pub returns-in_err-running : goal.returns-in_err-running
returns-in_err-running c =
    let a = c.args in
    let s = bare_state a.self in
    let id = a.id.0 in
    exits _ _ c.from_residual.ensures.1 (refused_on s _ id _ (abort_checks s id) (check12 s ∷ []) refl c.in_err-running.ensures)

pub returns-then-self-eq4294967295 : goal.returns-then-self-eq4294967295
returns-then-self-eq4294967295 c =
    let s = bare_state c.args.self in
    let w = judged_running _ _ _ _ _ c.in_ok-running.ensures refl in
    w.refuses (check12 s ∷ []) 12 refl (rw (eq-eqb s.assigned.0 4294967295 c.if-self-eq4294967295.true))

pub returns : goal.returns
returns c =
    let s = bare_state c.args.self in
    let w = judged_running _ _ _ _ _ c.in_ok-running.ensures refl in
    w.goes (check12 s ∷ []) (rw (ne_eqb s.assigned.0 4294967295 c.if-self-eq4294967295.false))
