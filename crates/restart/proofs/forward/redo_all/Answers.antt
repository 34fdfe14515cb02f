use Rattle.std.proofs.Common.{ℕ, List, sym, ap, ◌∙◌, arith}
use Rattle.redolog.specs.Record.{read_record}
use Rattle.redolog.proofs.Basics.{from}
use Rattle.restart.specs.Turns.{lay_front, front_size}
use Rattle.restart.proofs.RedoLaws.{body_here, RedoTurn, redo_turn, redo_done}
use Rattle.restart.proofs.forward.redo_all.Goals.{After-redo_one-k}
use Rattle.restart.proofs.forward.redo_all.Goals as goal

pub redo_one-k-requires : goal.redo_one-k-requires
redo_one-k-requires c =
    let s = c.args.s.now in
    let l = c.loop-at in
    let w = body_here c.args.size s l.at l.invariant.rest c.loop-at-test.true in
    record { by_index = (w.0, w.1, ap read_record (from s l.at) ∙ w.2) }

-- what the turn did
turned : (c : After-redo_one-k)
    → let l = c.loop-at in
    let s = c.args.s.now in
    RedoTurn c.args.size s l.memory c.redo_one-k.new.memory l.at c.redo_one-k.result l.invariant.rest c.loop-at-test.true
    (c.redo_one-k.ensures.value ∙ ap (λ (u : List ℕ). front_size (read_record u)) (from s l.at))
    (c.redo_one-k.ensures.memory_after ∙ ap (λ (u : List ℕ). lay_front (read_record u) l.memory) (from s l.at))
turned c =
    let l = c.loop-at in
    redo_turn c.args.size c.args.s.now l.memory _ l.at _ l.invariant.rest c.loop-at-test.true _ _

pub overflow_add-at : goal.overflow_add-at
overflow_add-at c = let t = turned (goal.at.overflow_add-at c).After-redo_one-k in omega (arith, t.inside, c.well_formed)

pub loop-at-smaller : goal.loop-at-smaller
loop-at-smaller c = let t = turned (goal.at.loop-at-smaller c).After-redo_one-k in omega (arith, t.grows, t.within)

pub loop-at-preserved : goal.loop-at-preserved
loop-at-preserved c =
    let t = turned (goal.at.loop-at-preserved c).After-redo_one-k in
    record { inside = t.inside; within = t.within; same = c.loop-at.invariant.same ∙ t.same; rest = t.rest }

pub returns : goal.returns
returns c =
    let l = c.loop-at in
    sym (l.invariant.same ∙ redo_done c.args.size c.args.s.now l.memory l.at l.invariant.rest c.loop-at-test.false)
