use Rattle.std.proofs.Common.{◌≡◌, ℕ, ◌+◌, ◌-◌, List, length, take, drop, refl, sym, ap, ◌∙◌, arith}
use Rattle.std.proofs.Math.Option.{some}
use Rattle.std.specs.Prelude.{Result, Ok, Some, None}
use Rattle.recovery.specs.Group.{Write, aborted, committed, redo_size}
use Rattle.recovery.specs.Replay.{redo_all, lay_bytes}
use Rattle.redolog.specs.declared.group.GroupEnd.{GroupEnd}
use Rattle.redolog.specs.declared.stop.Stop.{Stop}
use Rattle.redolog.specs.Group.{read_body, read_group, end_of}
use Rattle.redolog.specs.Stop.{stop_of}
use Rattle.redolog.proofs.Basics.{from}
use Rattle.redolog.proofs.GroupLaws.{group_inv}
use Rattle.redolog.proofs.Inversions.{end_aborted, end_committed, end_none}
use Rattle.restart.specs.declared.forward.Pass.{Pass}
use Rattle.restart.specs.Forward.{went_by}
use Rattle.restart.specs.Turns.{front_writes}
use Rattle.restart.proofs.Steps.{as_turn, turn_none, turn_abort, turn_empty, turn_commit, step_room}
use Rattle.restart.proofs.forward.step.Goals.{In-Ok-Aborted, In-Ok-Committed}
use Rattle.restart.proofs.forward.step.Goals as goal

-- what was read at the end reached
read_at : (log : List ℕ) (at csn : ℕ) (g : Result GroupEnd Stop)
    → let t = take (length log - at) (drop at log) in g ≡ end_of (stop_of t) (read_group csn t)
    → g ≡ end_of (stop_of (drop at log)) (read_group csn (drop at log))
read_at log at csn g e = e ∙ ap (λ (t : List ℕ). end_of (stop_of t) (read_group csn t)) (from log at)

abort-at : (c : In-Ok-Aborted)
    → (read_group c.args.p.csn.0 (drop c.args.p.end c.args.log.now) ≡ some (aborted c.in-Ok-Aborted.id.0)) × (c.in-Ok-Aborted.end ≡ 4)
abort-at c =
    let v = c.in-Ok-Aborted in
    end_aborted _ _ _ _ (sym (read_at c.args.log.now c.args.p.end _ _ c.read_group.ensures) ∙ v.is ∙ ap Ok v.field-0-is)

commit-at : (c : In-Ok-Committed)
    → (ws : List Write)
    × (read_group c.args.p.csn.0 (drop c.args.p.end c.args.log.now) ≡ some (committed c.in-Ok-Committed.id.0 c.in-Ok-Committed.csn.0 ws))
    × (c.in-Ok-Committed.end ≡ redo_size ws + 8)
commit-at c =
    let v = c.in-Ok-Committed in
    end_committed _ _ _ _ _ (sym (read_at c.args.log.now c.args.p.end _ _ c.read_group.ensures) ∙ v.is ∙ ap Ok v.field-0-is)

pub returns-in-Ok-Aborted : goal.returns-in-Ok-Aborted
returns-in-Ok-Aborted c =
    let a = c.args in
    let w = went_by a.memory.now a.p in
    let e = abort-at (goal.at.returns-in-Ok-Aborted c).In-Ok-Aborted in
    let t = turn_abort a.txs.now a.log.now w _ _ _ _ e.0 e.1 c.find-slot.ensures c.unfinished-undo.ensures in
    let p = ap (λ (p : Pass). Some (record { pass = p; undo = c.unfinished-undo.result })) c.past-pass.ensures in
    let r = as_turn a.txs.now a.log.now w _ _ _ t p refl in
    record { value = r.0; memory_after = r.1 }

pub overflow_add-at-in-Ok-Committed : goal.overflow_add-at-in-Ok-Committed
overflow_add-at-in-Ok-Committed c =
    let e = commit-at (goal.at.overflow_add-at-in-Ok-Committed c).In-Ok-Committed in
    omega (arith, step_room c.args.log.now c.args.p _ c.requires.end_in_bounds e.1, e.2, c.well_formed)

pub redo_all-requires : goal.redo_all-requires
redo_all-requires c =
    let p = c.args.p in
    let e = commit-at (goal.at.redo_all-requires c).In-Ok-Committed in
    let g = group_inv _ _ (committed _ _ e.0) e.1 in
    record { by_index = (p.csn.0 + 1, _, e.0, ap (read_body (p.csn.0 + 1) _) (from c.args.log.now p.end) ∙ g.1, omega (arith, e.2)) }

pub returns-then-end-ne-COMMIT_LEN : goal.returns-then-end-ne-COMMIT_LEN
returns-then-end-ne-COMMIT_LEN c =
    let a = c.args in
    let w = went_by a.memory.now a.p in
    let e = commit-at (goal.at.returns-then-end-ne-COMMIT_LEN c).In-Ok-Committed in
    let m = c.redo_all.ensures ∙ ap (λ (t : List ℕ). redo_all lay_bytes (front_writes t) a.memory.now) (from a.log.now a.p.end) in
    let t = turn_commit a.txs.now a.log.now w _ _ _ _ e.0 _ e.1 e.2 c.find-slot-in-Ok-Committed.ensures m in
    let p = ap (λ (p : Pass). Some (record { pass = p; undo = None })) c.past-pass-in-Ok-Committed.ensures in
    let r = as_turn a.txs.now a.log.now w _ _ _ t p refl in
    record { value = r.0; memory_after = r.1 }

pub returns-else-end-ne-COMMIT_LEN : goal.returns-else-end-ne-COMMIT_LEN
returns-else-end-ne-COMMIT_LEN c =
    let a = c.args in
    let w = went_by a.memory.now a.p in
    let e = commit-at (goal.at.returns-else-end-ne-COMMIT_LEN c).In-Ok-Committed in
    let t = turn_empty a.txs.now a.log.now w _ _ _ _ e.0 e.1 e.2 c.if-end-ne-COMMIT_LEN.false c.find-slot-in-Ok-Committed.ensures in
    let p = ap (λ (p : Pass). Some (record { pass = p; undo = None })) c.past-pass-in-Ok-Committed.ensures in
    let r = as_turn a.txs.now a.log.now w _ _ _ t p refl in
    record { value = r.0; memory_after = r.1 }

pub returns-in-Err : goal.returns-in-Err
returns-in-Err c =
    let a = c.args in
    let w = went_by a.memory.now a.p in
    let e = end_none _ _ _ (sym (read_at a.log.now a.p.end _ _ c.read_group.ensures) ∙ c.in-Err.is) in
    let r = as_turn a.txs.now a.log.now w _ _ _ (turn_none a.txs.now a.log.now w e.0) refl refl in
    record { value = r.0; memory_after = r.1 }
