-- The transactions in the slots of an array, those that are used being the first ones.
use Rattle.std.specs.Prelude.{ℕ, List, get_or}
use Rattle.transaction.specs.declared.Tx.{Tx}
use Rattle.transaction.specs.Flat.{no_tx}
use Rattle.transaction.specs.Lists.{up_from}
use Rattle.transaction.specs.View.{Outline, outline_of}

-- the transaction in slot i
abbrev pub slot_at : List Tx → ℕ → Tx
slot_at txs i = get_or txs i no_tx

-- the transactions listed, in order of begin
abbrev pub listed : List Tx → ℕ → List Tx
listed txs n = up_from (slot_at txs) n 0

-- what the image rules look at in them
abbrev pub outline_at : List Tx → ℕ → Outline
outline_at txs i = outline_of (slot_at txs i)

abbrev pub outlined : List Tx → ℕ → List Outline
outlined txs n = up_from (outline_at txs) n 0
