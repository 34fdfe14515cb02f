use Rattle.std.proofs.Common.{rules, ◌≡◌, ◌-◌, List, length, set, arith, ap, ap₂, ◌∙◌}
use Rattle.transaction.specs.declared.Tx.{Tx}
use Rattle.transaction.specs.Flat.{no_tx, empty_tx}
use Rattle.store.specs.State.{with_txs}
use Rattle.store.specs.Steps.{without, dropped_state}
use Rattle.store.proofs.Shift.{moved_down}
use Rattle.store.proofs.Slots.{length_mapped}
use Rattle.store.proofs.State.drop_step.Goals as goal

pub returns : goal.returns
unfolding dropped_state without
returns c =
    let s = c.args.self in
    let l : length s.txs ≡ 8 = search (rules, length_mapped) in
    ap (λ (ts : List Tx). with_txs s s.assigned s.lastid (s.count - 1) ts)
    (ap₂ (λ (ts : List Tx) (t : Tx). set ts (s.count - 1) t) c.copy_within.ensures.after c.empty.ensures
    ∙ moved_down s.txs c.args.chosen.slot s.count (omega arith) (omega (arith, l)) no_tx empty_tx)
