use Rattle.std.proofs.Common.{◌≡◌, Some, None, sym, ap, ◌∙◌, drop, arith}
use Rattle.redolog.proofs.Basics.{from}
use Rattle.image.specs.Heads.{undo_size}
use Rattle.image.proofs.Readings.{undos_stop, undos_within, undos_go}
use Rattle.image.proofs.read.undos_end.Goals.{In_ok-at}
use Rattle.image.proofs.read.undos_end.Goals as goal

-- what the turn read
size : (c : In_ok-at) → undo_size (drop c.loop.at c.args.s.now) ≡ Some c.in_ok-at.field-0
size c = sym (c.undo_size.ensures ∙ ap undo_size (from c.args.s.now c.loop.at)) ∙ c.in_ok-at.was

pub returns-in_err-at : goal.returns-in_err-at
returns-in_err-at c =
    let s = c.args.s.now in
    let l = c.loop in
    let e : undo_size (drop l.at s) ≡ None = sym (c.undo_size.ensures ∙ ap undo_size (from s l.at)) ∙ c.in_err-at.was in
    c.from_residual.ensures ∙ undos_stop s l.at c.args.n l.counter c.loop-test.true e ∙ sym l.invariant.same

pub overflow_add-at : goal.overflow_add-at
overflow_add-at c =
    let l = c.loop in
    let w = undos_within c.args.s.now l.at c.args.n l.counter c.loop-test.true _ (size c) l.invariant.within in
    omega (arith, c.well_formed)

pub loop-preserved : goal.loop-preserved
loop-preserved c =
    let s = c.args.s.now in
    let l = c.loop in
    record {
      within = undos_within s l.at c.args.n l.counter c.loop-test.true _ (size c) l.invariant.within;
      same = l.invariant.same ∙ undos_go s l.at c.args.n l.counter c.loop-test.true _ (size c);
    }
