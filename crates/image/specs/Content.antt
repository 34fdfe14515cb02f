-- What an image holds beside the memory, without the unused places of its arrays.
use Rattle.std.specs.Prelude.{ℕ, Bool, List, [], map, eqb}
use Rattle.layout.specs.{status_committing}
use Rattle.recovery.specs.Group.{Write}
use Rattle.recovery.specs.Transaction.{Tx as Transaction}
use Rattle.transaction.specs.declared.Tx.{Tx}
use Rattle.transaction.specs.Lists.{up_from}
use Rattle.transaction.specs.View.{writes_of, range_of, Outline, outline, view_of}
use Rattle.image.specs.declared.Image.{Image}
use Rattle.image.specs.Slots.{slot_at, listed}
use Rattle.image.specs.Rules.{image_ok}

-- a transaction: id, status (1 running, 2 committing), commit number, undo records oldest first
pub data Saved : Type 0 where
  saved : ℕ → ℕ → ℕ → List Write → Saved

-- log end, last commit number on disk, last one assigned, last id given, transactions in order of begin
pub record Content : Type 0 where
  pub logend : ℕ
  pub ondisk : ℕ
  pub assigned : ℕ
  pub lastid : ℕ
  pub txs : List Saved

-- ---- what an image in flat arrays holds

abbrev pub saved_of : Tx → Saved
saved_of t = saved t.id.0 t.status t.csn.0 (writes_of t.undo)

abbrev pub saved_at : List Tx → ℕ → Saved
saved_at txs i = saved_of (slot_at txs i)

abbrev pub saved_in : List Tx → ℕ → List Saved
saved_in txs n = up_from (saved_at txs) n 0

abbrev pub content_of : Image → Content
content_of i =
    record {
      logend = i.logend;
      ondisk = i.ondisk.0;
      assigned = i.assigned.0;
      lastid = i.lastid.0;
      txs = saved_in i.txs i.count;
    }

-- ---- the image rules of a content

abbrev pub outline_in : Saved → Outline
outline_in (saved id status csn us) = outline id status csn (map range_of us)

abbrev pub content_ok : Content → Bool
content_ok c = image_ok c.logend c.ondisk c.assigned c.lastid (map outline_in c.txs)

-- ---- transactions as recovery has them: an image on disk holds no redo records and no savepoints

abbrev pub transaction_of : Saved → Transaction
transaction_of (saved id status csn us) = record { id = id; committing = eqb status status_committing; csn = csn; undo = us; redo = []; savepoints = [] }

abbrev pub transactions_in : Image → List Transaction
transactions_in i = map view_of (listed i.txs i.count)
