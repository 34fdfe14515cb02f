use Rattle.std.proofs.Common.{◌+◌, Result, Ok, List, ℕ, drop, sym, ap, ◌∙◌, arith}
use Rattle.redolog.specs.Record.{read_record, head_of}
use Rattle.redolog.specs.Stop.{stop_of}
use Rattle.redolog.specs.Found.{found_number, or_one}
use Rattle.redolog.specs.declared.record.Record.{Record}
use Rattle.redolog.specs.declared.stop.Stop.{Stop}
use Rattle.redolog.proofs.Basics.{read_from, Turned}
use Rattle.redolog.proofs.Inversions.{head_redo, head_commit, head_abort, head_nothing}
use Rattle.redolog.proofs.FoundLaws.{found_none, found_commit, redo_turn, abort_turn}
use Rattle.redolog.proofs.found.found_number.Goals as goal

-- what the code answers of a record
abbrev answer : List ℕ → Result Record Stop
answer t = head_of (stop_of t) (read_record t)

-- over a redo record, over an abort record
over_redo : (c : goal.In-Redo)
    → let s = c.args.s.now in
    let at = c.loop-record.at in
    let to = at + (7 + c.in-Redo.len) in
    Turned s at to (or_one (found_number (drop at s))) (or_one (found_number (drop to s)))
over_redo c =
    let w = head_redo _ _ _ _ _ (read_from answer c.args.s.now c.loop-record.at _ _ c.in-Ok.ensures (ap Ok c.in-Redo.is)) in
    redo_turn _ _ w.0 _ _ c.loop-record.invariant.within w.1 (omega (arith, w.3))

over_abort : (c : goal.In-Abort)
    → let s = c.args.s.now in
    let at = c.loop-record.at in
    Turned s at (at + 4) (or_one (found_number (drop at s))) (or_one (found_number (drop (at + 4) s)))
over_abort c =
    abort_turn _ _ _ _ c.loop-record.invariant.within
    (head_abort _ _ _ (read_from answer c.args.s.now c.loop-record.at _ _ c.in-Ok.ensures (ap Ok c.in-Abort.is))) (omega arith)

pub loop-record-smaller-in-Redo : goal.loop-record-smaller-in-Redo
loop-record-smaller-in-Redo c = (over_redo c).less

pub loop-record-preserved-in-Redo : goal.loop-record-preserved-in-Redo
loop-record-preserved-in-Redo c = record { within = (over_redo c).within; same = c.loop-record.invariant.same ∙ (over_redo c).same }

pub returns-in-Commit : goal.returns-in-Commit
returns-in-Commit c =
    let e = head_commit _ _ _ _ (read_from answer c.args.s.now c.loop-record.at _ _ c.in-Ok.ensures (ap Ok c.in-Commit.is)) in
    sym (c.loop-record.invariant.same ∙ ap or_one (found_commit _ _ _ e))

pub loop-record-smaller : goal.loop-record-smaller
loop-record-smaller c = (over_abort c).less

pub loop-record-preserved : goal.loop-record-preserved
loop-record-preserved c = record { within = (over_abort c).within; same = c.loop-record.invariant.same ∙ (over_abort c).same }

pub returns : goal.returns
returns c =
    let e = (head_nothing _ _ _ (read_from answer c.args.s.now c.loop-record.at _ _ c.read_record.ensures c.in_default.is)).0 in
    sym (c.loop-record.invariant.same ∙ ap or_one (found_none _ e))
