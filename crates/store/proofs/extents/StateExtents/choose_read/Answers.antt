use Rattle.std.proofs.Common.{[], ◌∷◌, ◌≡◌, true, false, arith, refl, sym, ◌∙◌}
use Rattle.recovery.specs.Lists.{any}
use Rattle.transaction.specs.Rules.{reading, held_against}
use Rattle.store.specs.State.{txs_of}
use Rattle.store.specs.Extents.{bare_state}
use Rattle.store.specs.Numbers.{check8, check9, abort_checks}
use Rattle.layout.specs.Refusal.{number_of}
use Rattle.store.proofs.Checks.{passes, refused_some, refused_first}
use Rattle.store.proofs.Choosing.{exits, refused_on, judged_running, range_checked}
use Rattle.store.proofs.extents.StateExtents.choose_read.Goals as goal

pub returns-in_err-running : goal.returns-in_err-running
returns-in_err-running c =
    let a = c.args in
    let s = bare_state a.self in
    let id = a.id.0 in
    exits _ _ c.from_residual.ensures.1 (refused_on s _ id _ (abort_checks s id) (check8 a.addr a.len ∷ check9 s reading id a.addr a.len ∷ []) refl c.in_err-running.ensures)

-- number 8
pub returns-in_err-check_range : goal.returns-in_err-check_range
returns-in_err-check_range c =
    let a = c.args in
    let s = bare_state a.self in
    let w = judged_running _ _ _ _ _ c.in_ok-running.ensures refl in
    let e = c.in_err-check_range.field-0.0 in
    exits _ _ c.from_residual-in_err-check_range.ensures.1 (w.refuses (check8 a.addr a.len ∷ check9 s reading a.id.0 a.addr a.len ∷ []) (number_of e) (refused_some e)
    (refused_first e (check8 a.addr a.len ∷ []) (check9 s reading a.id.0 a.addr a.len ∷ []) c.in_err-check_range.ensures))

pub held-requires : goal.held-requires
held-requires c =
    let w = judged_running _ _ _ _ _ c.in_ok-running.ensures refl in
    let g = range_checked c.args.addr c.args.len [] (sym c.in_ok-check_range.ensures) in
    (w.few, omega (arith, g.within), g.short)

pub returns-then-held : goal.returns-then-held
returns-then-held c =
    let a = c.args in
    let s = bare_state a.self in
    let w = judged_running _ _ _ _ _ c.in_ok-running.ensures refl in
    let held : any (held_against reading a.id.0 a.addr a.len) (txs_of s) ≡ true = sym c.held.ensures ∙ c.if-held.true in
    w.refuses (check8 a.addr a.len ∷ check9 s reading a.id.0 a.addr a.len ∷ []) 9 refl
    (passes (check8 a.addr a.len ∷ []) (check9 s reading a.id.0 a.addr a.len ∷ []) refl (sym c.in_ok-check_range.ensures) ∙ rw held)

pub returns : goal.returns
returns c =
    let a = c.args in
    let s = bare_state a.self in
    let w = judged_running _ _ _ _ _ c.in_ok-running.ensures refl in
    let free : any (held_against reading a.id.0 a.addr a.len) (txs_of s) ≡ false = sym c.held.ensures ∙ c.if-held.false in
    w.goes (check8 a.addr a.len ∷ check9 s reading a.id.0 a.addr a.len ∷ [])
    (passes (check8 a.addr a.len ∷ []) (check9 s reading a.id.0 a.addr a.len ∷ []) refl (sym c.in_ok-check_range.ensures) ∙ rw free)
