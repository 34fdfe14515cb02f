use Rattle.std.proofs.Common.{ℕ, arith, ap, ◌∙◌}
use lib.ListN.{replicate}
use Rattle.restart.specs.Turns.{aborts_laid}
use Rattle.disk.specs.Examine.{Examined}
use Rattle.disk.proofs.Examining.{few_undone, laid_front}
use Rattle.disk.proofs.examine.examine.Goals as goal

pub returns-in_err-replayed-clause-tail_after : goal.returns-in_err-replayed-clause-tail_after
returns-in_err-replayed-clause-tail_after c =
    c.fill_zero.ensures ∙ ap (λ (n : ℕ). replicate n 0) c.told-tail ∙ c.in_err-replayed.ensures.judged_as.tail

pub shared_ref_as_front-put_aborts : goal.shared_ref_as_front-put_aborts
shared_ref_as_front-put_aborts c =
    let e = ap (λ (r : Examined). r.undone) c.in_ok-replayed.ensures.judged_as.found in
    omega (arith, few_undone c.args.disk.now, e)

pub returns-clause-tail_after : goal.returns-clause-tail_after
returns-clause-tail_after c =
    let r = c.in_ok-replayed.replayed in
    c.put_aborts.ensures
    ∙ laid_front r.ids r.answer.undone c.fill_zero.new.b
    ∙ ap (aborts_laid r.ids r.answer.undone) (c.fill_zero.ensures ∙ ap (λ (n : ℕ). replicate n 0) c.told-tail)
    ∙ c.in_ok-replayed.ensures.judged_as.tail
