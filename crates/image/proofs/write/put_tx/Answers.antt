use Rattle.std.proofs.Common.{length, ap, ◌∙◌}
use Rattle.transaction.specs.View.{writes_of}
use Rattle.transaction.proofs.Lists.{length_up}
use Rattle.transaction.proofs.Writes.{writes_up}
use Rattle.image.proofs.Pushing.{undo_at}
use Rattle.image.proofs.Writings.{tx_stores}
use Rattle.image.proofs.write.put_tx.Goals as goal

pub returns-clause-b_after : goal.returns-clause-b_after
returns-clause-b_after c =
    let a = c.args in
    let r = a.t.undo in
    let n = ap length (writes_up r.ranges.addr r.ranges.len r.bytes r.ranges.count 0) ∙ length_up (undo_at r) r.ranges.count 0 in
    tx_stores a.b.now _ _ _ a.at a.t.id.0 a.t.status a.t.csn.0 r.ranges.count (writes_of r) c.put16.ensures c.put32.ensures c.put_undos.ensures.b_after n
