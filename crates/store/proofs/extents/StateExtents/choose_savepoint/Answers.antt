use Rattle.std.proofs.Common.{[], ◌∷◌, refl, sym, ap, ◌∙◌}
use Rattle.transaction.specs.declared.Tx.{Tx}
use Rattle.transaction.specs.View.{savepoints_of}
use Rattle.transaction.specs.Rules.{name_refused}
use Rattle.transaction.proofs.StateRule.{few_savepoints}
use Rattle.store.specs.Extents.{bare_state}
use Rattle.store.specs.Numbers.{abort_checks, check19}
use Rattle.store.proofs.Bare.{slot_is, slot_ok}
use Rattle.store.proofs.Choosing.{exits, refused_on, judged_running}
use Rattle.store.proofs.extents.StateExtents.choose_savepoint.Goals as goal

pub returns-in_err-running : goal.returns-in_err-running
returns-in_err-running c =
    let a = c.args in
    let s = bare_state a.self in
    let id = a.id.0 in
    exits _ _ c.from_residual.ensures.1 (refused_on s _ id _ (abort_checks s id) (check19 s id a.name ∷ []) refl c.in_err-running.ensures)

pub refuses_name-requires : goal.refuses_name-requires
refuses_name-requires c = few_savepoints _ (slot_ok c.args.self (judged_running _ _ _ _ _ c.in_ok-running.ensures refl))

pub returns-then-refuses_name : goal.returns-then-refuses_name
returns-then-refuses_name c =
    let a = c.args in
    let w = judged_running _ _ _ _ _ c.in_ok-running.ensures refl in
    let q = ap (λ (t : Tx). name_refused a.name (savepoints_of t)) (sym (slot_is a.self w)) ∙ sym c.refuses_name.ensures ∙ c.if-refuses_name.true in
    w.refuses (check19 (bare_state a.self) a.id.0 a.name ∷ []) 19 refl (rw q)

pub returns : goal.returns
returns c =
    let a = c.args in
    let w = judged_running _ _ _ _ _ c.in_ok-running.ensures refl in
    let q = ap (λ (t : Tx). name_refused a.name (savepoints_of t)) (sym (slot_is a.self w)) ∙ sym c.refuses_name.ensures ∙ c.if-refuses_name.false in
    w.goes (check19 (bare_state a.self) a.id.0 a.name ∷ []) (rw q)
