use Rattle.std.proofs.Common.{Bool, List, ℕ, ◌&&◌, nat_lt, slice_index_or, ◌-◌, sym, ap, ◌∙◌}
use Rattle.std.proofs.lemmas.List.{take_all}
use Rattle.inspect.specs.Outcomes.{rising}
use Rattle.inspect.proofs.Walking.{rising_one, rising_next}
use Rattle.inspect.proofs.outcomes.part_rises.Goals as goal

pub loop-i-init : goal.loop-i-init
loop-i-init c = sym (rising_one c.args.part.now)

pub loop-i-preserved : goal.loop-i-preserved
loop-i-preserved c =
    let s = c.args.part.now in
    let l = c.loop-i in
    ap (λ (b : Bool). b && nat_lt (slice_index_or s (l.i - 1) 0) (slice_index_or s l.i 0)) l.invariant
    ∙ rising_next l.i s l.auto.i c.loop-i-test.true

pub returns : goal.returns
returns c = c.loop-i.invariant ∙ ap (λ (s : List ℕ). rising s) (take_all _ _ c.loop-i-test.false)
