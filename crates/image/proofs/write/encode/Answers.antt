use Rattle.std.proofs.Common.{◌≡◌, arith}
use Rattle.std.proofs.lemmas.List.Edits.{sets}
use Rattle.transaction.proofs.Lists.{length_up}
use Rattle.image.specs.Content.{content_of, saved_at}
use Rattle.image.specs.Format.{encode_head}
use Rattle.image.proofs.Sizes.{image_small}
use Rattle.image.proofs.Writings.{image_stores_lem}
use Rattle.image.proofs.write.encode.Goals as goal

pub put_txs-requires-clause-count_in_bounds : goal.put_txs-requires-clause-count_in_bounds
put_txs-requires-clause-count_in_bounds c =
    omega (arith, image_small c.args.image c.requires.image_value, c.requires.image_len, c.copy.auto.b, c.put_head.auto.b)

pub returns-clause-b_after : goal.returns-clause-b_after
returns-clause-b_after c =
    let i = c.args.image in
    -- the count that is written is that of the transactions listed
    let headed : c.put_head.new.b ≡ sets c.args.b.now 0 (encode_head (content_of i)) = rw (length_up (saved_at i.txs) i.count 0) c.put_head.ensures in
    image_stores_lem c.args.b.now _ _ _ (content_of i) c.args.memory.now c.told-memory headed c.copy.ensures c.put_txs.ensures.b_after
