-- A content laid out in flat arrays: in order from the first place on, without redo records and extras, zeros in every place that is not used.
use Rattle.std.specs.Prelude.{ℕ, List, [], ◌∷◌, map, length, replicate}
use Rattle.std.proofs.lemmas.List.Edits.{sets}
use Rattle.layout.specs.{max_txs}
use Rattle.recovery.specs.Group.{Write}
use Rattle.transaction.specs.declared.records.Records.{Records}
use Rattle.transaction.specs.declared.Tx.{Tx}
use Rattle.transaction.specs.Flat.{empty_extras, empty_records, empty_tx}
use Rattle.transaction.specs.Steps.{pushed}
use Rattle.image.specs.declared.Image.{Image}
use Rattle.image.specs.Content.{Saved, saved, Content}

-- records behind those of r
abbrev pub pushed_all : Records → List Write → Records
pushed_all r [] = r
pushed_all r (u ∷ us) = pushed_all (pushed r u.addr u.bytes) us

unfoldable pub loaded : ℕ → ℕ → ℕ → Records → Tx
loaded id status csn undo = record { id = record { 0 = id }; status = status; csn = record { 0 = csn }; undo = undo; redo = empty_records; extras = empty_extras }

abbrev pub packed_tx : Saved → Tx
packed_tx (saved id status csn us) = loaded id status csn (pushed_all empty_records us)

-- eight slots, the first ones used
unfoldable pub packed_txs : List Saved → List Tx
packed_txs ts = sets (replicate max_txs empty_tx) 0 (map packed_tx ts)

unfoldable pub packed : Content → Image
packed c =
    record {
      logend = c.logend;
      ondisk = record { 0 = c.ondisk };
      assigned = record { 0 = c.assigned };
      lastid = record { 0 = c.lastid };
      count = length c.txs;
      txs = packed_txs c.txs;
    }

-- an image that holds nothing
unfoldable pub empty_image : Image
empty_image =
    record {
      logend = 0;
      ondisk = record { 0 = 0 };
      assigned = record { 0 = 0 };
      lastid = record { 0 = 0 };
      count = 0;
      txs = replicate max_txs empty_tx;
    }
