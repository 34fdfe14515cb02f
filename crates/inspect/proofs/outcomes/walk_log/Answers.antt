use Rattle.std.proofs.Common.{arith, sym, ap, ◌∙◌}
use Rattle.inspect.proofs.Walking.{Walks, walk_ended, turned}
use Rattle.inspect.proofs.outcomes.walk_log.Goals as goal

pub loop-group-smaller : goal.loop-group-smaller
loop-group-smaller c =
    let l = c.loop-group in
    let t = turned c.args.ids.now c.args.log.now l.w l.out l.invariant.within l.invariant.groups l.invariant.beside c.in-Some.group
    (sym c.step.ensures ∙ c.in-Some.is) in
    omega (arith, t.within, t.further)

pub loop-group-preserved : goal.loop-group-preserved
loop-group-preserved c =
    let l = c.loop-group in
    let t = turned c.args.ids.now c.args.log.now l.w l.out l.invariant.within l.invariant.groups l.invariant.beside c.in-Some.group
    (sym c.step.ensures ∙ c.in-Some.is) in
    record {
      within = t.within;
      groups = t.groups;
      beside = rw c.note.ensures t.beside;
      same = rw c.note.ensures (l.invariant.same ∙ t.same);
    }

pub returns-clause-value : goal.returns-clause-value
returns-clause-value c =
    let l = c.loop-group in
    let e = l.invariant.same ∙ walk_ended c.args.ids.now c.args.log.now l.w l.out (sym c.step.ensures ∙ c.in_default.is) in
    omega (arith, ap (λ (x : Walks). x.groups) e)

pub returns-clause-out_after : goal.returns-clause-out_after
returns-clause-out_after c =
    let l = c.loop-group in
    let e = l.invariant.same ∙ walk_ended c.args.ids.now c.args.log.now l.w l.out (sym c.step.ensures ∙ c.in_default.is) in
    sym (ap (λ (x : Walks). x.out) e)
