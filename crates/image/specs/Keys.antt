-- The id and the commit number of each transaction, apart from its records; in an image also where it begins.
use Rattle.std.specs.Prelude.{List, [], map}
use Rattle.transaction.specs.declared.Key.{Key}
use Rattle.transaction.specs.declared.Tx.{Tx}
use Rattle.transaction.specs.View.{Outline, outline}
use Rattle.image.specs.declared.read.TxHead.{TxHead}

abbrev pub key_of : Tx → Key
key_of t = record { id = t.id; csn = t.csn }

-- those of every slot, used or not
abbrev pub keys_of : List Tx → List Key
keys_of txs = map key_of txs

-- what an unused slot holds
abbrev pub no_head : TxHead
no_head = record { key = record { id = record { 0 = 0 }; csn = record { 0 = 0 } }; at = 0 }

abbrev pub key_in : TxHead → Key
key_in h = h.key

abbrev pub keys_in : List TxHead → List Key
keys_in hs = map key_in hs

-- what is compared of a transaction
abbrev pub outline_by : TxHead → Outline
outline_by h = outline h.key.id.0 0 h.key.csn.0 []
