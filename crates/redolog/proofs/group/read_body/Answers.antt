use Rattle.std.proofs.Common.{◌≡◌, ◌+◌, true, false, not, Result, Ok, Err, List, ℕ, drop, sym, ap, ◌∙◌, arith}
use Rattle.std.proofs.Math.Dec.{eqb}
use Rattle.std.proofs.lemmas.Bool.{eqb-true, eqb-false, not-true, not-false}
use Rattle.redolog.specs.Record.{read_record, head_of}
use Rattle.redolog.specs.Group.{read_body, committed_if}
use Rattle.redolog.specs.Stop.{stop_of}
use Rattle.redolog.specs.declared.record.Record.{Record}
use Rattle.redolog.specs.declared.stop.Stop.{Stop}
use Rattle.redolog.proofs.Basics.{read_from, Turned}
use Rattle.redolog.proofs.GroupLaws.{
  body_end,
  body_start,
  body_none,
  body_abort,
  body_other_redo,
  body_other_commit,
  body_other_csn,
  body_turn,
  body_last,
  stop_front,
  stop_inside,
}
use Rattle.redolog.proofs.Inversions.{head_redo, head_commit, head_abort, head_nothing}
use Rattle.redolog.proofs.group.read_body.Goals as goal

-- what the code answers of a record
abbrev answer : List ℕ → Result Record Stop
answer t = head_of (stop_of t) (read_record t)

-- what a comparison of ids tells
other : (i id : ℕ) → true ≡ not (eqb i id) → i ≡ id → ⊥
other i id e = eqb-false i id (not-true (eqb i id) (sym e))

own : (i id : ℕ) → false ≡ not (eqb i id) → i ≡ id
own i id e = eqb-true i id (not-false (eqb i id) (sym e))

pub loop-record-init : goal.loop-record-init
loop-record-init c = record {
  within = omega arith;
  same = body_start c.args.s.now (committed_if c.args.id.0 c.args.next (read_body c.args.next c.args.id.0 c.args.s.now));
}

pub returns-then-ne : goal.returns-then-ne
returns-then-ne c =
    let w = head_redo _ _ _ _ _ (read_from answer c.args.s.now c.loop-record.at _ _ c.in-Ok.ensures (ap Ok c.in-Redo.is)) in
    sym (c.loop-record.invariant.same ∙ body_other_redo _ _ _ _ _ w.0 w.1 (other _ _ c.if-ne.ensures))

-- over a redo record of this id
over_redo : (c : goal.Else-ne)
    → let s = c.args.s.now in
    let at = c.loop-record.at in
    let id = c.args.id.0 in
    let next = c.args.next in
    let to = at + (7 + c.in-Redo.len) in
    Turned s at to (body_end next id at (drop at s)) (body_end next id to (drop to s))
over_redo c =
    let w = head_redo _ _ _ _ _ (read_from answer c.args.s.now c.loop-record.at _ _ c.in-Ok.ensures (ap Ok c.in-Redo.is)) in
    body_turn _ _ _ _ w.0 _ _ c.loop-record.invariant.within w.1 (own _ _ c.if-ne.ensures) (omega (arith, w.3))

pub loop-record-smaller : goal.loop-record-smaller
loop-record-smaller c = (over_redo c).less

pub loop-record-preserved : goal.loop-record-preserved
loop-record-preserved c = record { within = (over_redo c).within; same = c.loop-record.invariant.same ∙ (over_redo c).same }

pub returns-then-ne-2 : goal.returns-then-ne-2
returns-then-ne-2 c =
    let e = head_commit _ _ _ _ (read_from answer c.args.s.now c.loop-record.at _ _ c.in-Ok.ensures (ap Ok c.in-Commit.is)) in
    sym (c.loop-record.invariant.same ∙ body_other_commit _ _ _ _ _ _ e (other _ _ c.if-ne-2.ensures))

pub returns-then-csn-next : goal.returns-then-csn-next
returns-then-csn-next c =
    let e = head_commit _ _ _ _ (read_from answer c.args.s.now c.loop-record.at _ _ c.in-Ok.ensures (ap Ok c.in-Commit.is)) in
    sym (c.loop-record.invariant.same ∙ body_other_csn _ _ _ _ _ _ e (own _ _ c.if-ne-2.ensures) c.if-csn-next.true)

pub returns-in-Commit : goal.returns-in-Commit
returns-in-Commit c =
    let e = head_commit _ _ _ _ (read_from answer c.args.s.now c.loop-record.at _ _ c.in-Ok.ensures (ap Ok c.in-Commit.is)) in
    sym (c.loop-record.invariant.same ∙ body_last _ _ _ _ _ _ e (own _ _ c.if-ne-2.ensures) c.if-csn-next.false)

pub returns-in-Abort : goal.returns-in-Abort
returns-in-Abort c =
    let e = head_abort _ _ _ (read_from answer c.args.s.now c.loop-record.at _ _ c.in-Ok.ensures (ap Ok c.in-Abort.is)) in
    sym (c.loop-record.invariant.same ∙ body_abort _ _ _ _ _ e)

pub returns-then-at-ne0 : goal.returns-then-at-ne0
returns-then-at-ne0 c =
    let n = head_nothing _ _ _ (read_from answer c.args.s.now c.loop-record.at _ _ c.read_record.ensures c.in_default.is) in
    sym (c.loop-record.invariant.same ∙ body_none _ _ _ _ n.0 ∙ ap Err (stop_inside c.loop-record.at _ (omega arith)))

pub returns : goal.returns
returns c =
    let s = c.args.s.now in
    let n = head_nothing _ _ _ (read_from answer s c.loop-record.at _ _ c.read_record.ensures c.in_default.is) in
    ap Err (c.stop_at.ensures ∙ ap (λ (k : ℕ). stop_of (drop k s)) (sym c.if-at-ne0.false))
    ∙ sym (c.loop-record.invariant.same ∙ body_none _ _ _ _ n.0 ∙ ap Err (stop_front c.loop-record.at _ c.if-at-ne0.false))
