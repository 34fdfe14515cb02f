use Rattle.std.proofs.Common.{◌≡◌, ◌+◌, ◌-◌}
use Rattle.std.proofs.lemmas.List.Edits.{sets}
use Rattle.transaction.specs.Lists.{up_from}
use Rattle.image.specs.Content.{saved_at, saved_in}
use Rattle.image.specs.Format.{encode_txs, txs_size}
use Rattle.image.proofs.write.put_txs.Given as goal

abbrev pub invariant-loop-t : goal.invariant-loop-t
invariant-loop-t l =
    let i = l.fn.image in
    let rest = up_from (saved_at i.txs) (i.count - l.t-index) l.t-index in
    record {
      size : l.at + txs_size (saved_in i.txs i.count) ≡ l.o + txs_size rest;
      same : sets l.initial.b l.at (encode_txs (saved_in i.txs i.count)) ≡ sets l.b l.o (encode_txs rest);
    }
