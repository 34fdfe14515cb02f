use Rattle.std.proofs.Common.{◌-◌, Result, Ok, List, ℕ, sym, ap, ◌∙◌, refl, arith, length-drop}
use Rattle.redolog.specs.Group.{read_group, end_of}
use Rattle.redolog.specs.Stop.{stop_of}
use Rattle.redolog.specs.declared.group.GroupEnd.{GroupEnd}
use Rattle.redolog.specs.declared.stop.Stop.{Stop}
use Rattle.redolog.proofs.Basics.{read_from}
use Rattle.redolog.proofs.LogLaws.{first_none, first_turn}
use Rattle.redolog.proofs.GroupLaws.{group_within}
use Rattle.redolog.proofs.Inversions.{end_aborted, end_committed, end_none}
use Rattle.redolog.proofs.scan.read_first.Goals as goal
use Rattle.redolog.proofs.scan.read_first.Goals.{in-Aborted, in-Committed}

-- what the code answers of a group after a commit number
abbrev answer : ℕ → List ℕ → Result GroupEnd Stop
answer prev t = end_of (stop_of t) (read_group prev t)

pub overflow_add-at-in-Committed : goal.overflow_add-at-in-Committed
overflow_add-at-in-Committed c =
    let s = c.args.s.now in
    let e = end_committed _ _ _ _ _ (read_from (answer c.loop.csn.0) s c.loop.at _ _ c.in-Ok.ensures (ap Ok c.in-Committed.is)) in
    omega (arith, group_within _ _ _ e.1, e.2, length-drop c.loop.at s)

pub loop-preserved : goal.loop-preserved
loop-preserved c =
    elim c.match-found.branch [
      | in-Aborted w ↦
          let e = end_aborted _ _ _ _ (read_from (answer c.loop.csn.0) c.args.s.now c.loop.at _ _ c.in-Ok.ensures (ap Ok w.in-Aborted.is)) in
          let t = first_turn _ _ _ _ _ _ _ _ c.loop.invariant.within e.0 e.1 refl (omega arith) in
          rw (w.at-is, w.csn-is) record { within = t.within; same = c.loop.invariant.same ∙ t.same }
      | in-Committed w ↦
          let e = end_committed _ _ _ _ _ (read_from (answer c.loop.csn.0) c.args.s.now c.loop.at _ _ c.in-Ok.ensures (ap Ok w.in-Committed.is)) in
          let t = first_turn _ _ _ _ _ _ _ _ c.loop.invariant.within e.1 e.2 refl (omega arith) in
          rw (w.at-is, w.csn-is) record { within = t.within; same = c.loop.invariant.same ∙ t.same }
    ]

pub returns-in_default : goal.returns-in_default
returns-in_default c =
    let e = (end_none _ _ _ (read_from (answer c.loop.csn.0) c.args.s.now c.loop.at _ _ c.read_group.ensures c.in_default.is)).0 in
    sym (c.loop.invariant.same ∙ first_none _ _ (c.args.k - c.loop.counter) _ e)
