use Rattle.std.proofs.Common.{refl, sym, [], ◌∷◌, ◌∙◌}
use Rattle.store.specs.Extents.{bare_state}
use Rattle.store.specs.Numbers.{check7}
use Rattle.store.specs.Admission.{listed_checks}
use Rattle.store.proofs.Bare.{status_at}
use Rattle.store.proofs.Choosing.{exits, refused_on, judged_slot, refused_7, passes_7}
use Rattle.store.proofs.extents.StateExtents.choose_running.Goals as goal

pub returns-in_err-listed : goal.returns-in_err-listed
returns-in_err-listed c =
    let s = bare_state c.args.self in
    let id = c.args.id.0 in
    exits _ _ c.from_residual.ensures.1 (refused_on s _ id _ (listed_checks s id) (check7 s id ∷ []) refl c.in_err-listed.ensures)

pub returns-then-self-listed-eq-COMMITTING : goal.returns-then-self-listed-eq-COMMITTING
returns-then-self-listed-eq-COMMITTING c =
    let s = bare_state c.args.self in
    let id = c.args.id.0 in
    let w = judged_slot _ _ _ _ _ [] refl c.in_ok-listed.ensures refl in
    w.refuses (check7 s id ∷ []) 7 refl (refused_7 s id _ w.slot (status_at c.args.self _ ∙ c.if-self-listed-eq-COMMITTING.true))

pub returns : goal.returns
returns c =
    let s = bare_state c.args.self in
    let id = c.args.id.0 in
    let w = judged_slot _ _ _ _ _ [] refl c.in_ok-listed.ensures refl in
    w.goes (check7 s id ∷ []) (passes_7 s id _ w.slot (λ q. c.if-self-listed-eq-COMMITTING.false (sym (status_at c.args.self _) ∙ q)))
