use Rattle.std.proofs.Common.{ℕ, sym, ap, ◌∙◌}
use Rattle.redolog.specs.Stores.{shifted}
use Rattle.redolog.proofs.StoreLaws.{shift_none, shift_done}
use Rattle.redolog.proofs.stores.shift_down.Goals as goal

pub returns-then-n-eq0 : goal.returns-then-n-eq0
returns-then-n-eq0 c =
    let b = c.args.b.now in
    shift_none b ∙ ap (λ (n : ℕ). shifted n b) (sym c.if-n-eq0.true)

pub returns : goal.returns
returns c =
    shift_done c.args.n c.min-gone.result c.args.b.now c.copy_within.new.self c.fill.new.self c.min-gone.ensures c.copy_within.ensures.after
    (c.fill.ensures.after (λ y e. e))
