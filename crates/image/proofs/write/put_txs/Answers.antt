use Rattle.std.proofs.Common.{◌≡◌, ℕ, ◌<◌, ◌∙◌, length, get_or, ap, take, arith}
use Rattle.std.proofs.Math.ListN.{length-take}
use Rattle.std.proofs.lemmas.List.{get_or-take}
use Rattle.transaction.specs.Flat.{no_tx}
use Rattle.std.proofs.lemmas.List.Edits.{sets}
use Rattle.transaction.specs.declared.Tx.{Tx}
use Rattle.image.specs.declared.Image.{Image}
use Rattle.image.specs.Content.{saved_of}
use Rattle.image.specs.Format.{encode_tx}
use Rattle.image.specs.Slots.{slot_at}
use Rattle.image.proofs.Rules.{undo_at_lem}
use Rattle.image.proofs.Writings.{tx_size_lem, tx_turn}
use Rattle.image.proofs.write.put_txs.Goals as goal

-- the transaction at hand is that in the slot
module _ (i : Image) (k : ℕ) (h : k < length (take i.count i.txs)) where
  below : k < i.count
  below = omega (arith, length-take i.count i.txs)

  there : get_or (take i.count i.txs) k no_tx ≡ slot_at i.txs k
  there = get_or-take i.count i.txs k no_tx below

pub put_tx-o-requires-clause-ranges_value : goal.put_tx-o-requires-clause-ranges_value
put_tx-o-requires-clause-ranges_value c =
    let i = c.args.image in
    rw (there i c.loop-t.t-index c.loop-t-test.true) (undo_at_lem i c.requires.image_value c.loop-t.t-index (below i c.loop-t.t-index c.loop-t-test.true))

pub put_tx-o-requires-clause-t_in_bounds : goal.put_tx-o-requires-clause-t_in_bounds
put_tx-o-requires-clause-t_in_bounds c =
    let i = c.args.image in
    let l = c.loop-t in
    let z = tx_size_lem i.txs i.count l.t-index (below i l.t-index c.loop-t-test.true) in
    rw (there i l.t-index c.loop-t-test.true) (omega (arith, z, l.invariant.size, c.requires.count_in_bounds, l.auto.b))

pub loop-t-preserved : goal.loop-t-preserved
loop-t-preserved c =
    let i = c.args.image in
    let l = c.loop-t in
    let b = below i l.t-index c.loop-t-test.true in
    let v = rw (there i l.t-index c.loop-t-test.true) at c.put_tx-o.ensures.value in
    let e = c.put_tx-o.ensures.b_after ∙ ap (λ (t : Tx). sets l.b l.o (encode_tx (saved_of t))) (there i l.t-index c.loop-t-test.true) in
    let z = tx_size_lem i.txs i.count l.t-index b in
    record {
      size = omega (arith, z, l.invariant.size, v);
      same = l.invariant.same ∙ tx_turn i.txs i.count l.t-index b l.o c.put_tx-o.result l.b c.put_tx-o.new.b v e;
    }
