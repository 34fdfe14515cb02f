-- Laws of the keys: heads that have the keys of transactions are as good as these.
use Prim.Native.Nat.{ℕ}
use mathlib.Core.Bool.{not, ◌&&◌, ◌||◌}
use mathlib.Core.List.{List}
use mathlib.Core.Path.{◌≡◌, sym, ap, ◌∙◌}
use lib.ListN.{get_or, get_or-map}
use lib.Dec.{eqb}
use Rattle.recovery.specs.Lists.{any}
use Rattle.transaction.specs.declared.Key.{Key}
use Rattle.transaction.specs.declared.Tx.{Tx}
use Rattle.transaction.specs.Flat.{no_tx}
use Rattle.transaction.specs.Lists.{up_from}
use Rattle.transaction.specs.Rules.{alike}
use Rattle.transaction.proofs.Lists.{any_same}
use Rattle.image.specs.declared.read.TxHead.{TxHead}
use Rattle.image.specs.Slots.{slot_at, outline_at}
use Rattle.image.specs.Keys.{key_of, keys_of, no_head, key_in, keys_in, outline_by}

module _ (txs : List Tx) (hs : List TxHead) (e : keys_in hs ≡ keys_of txs) (i : ℕ) where
  pub key_at : (get_or hs i no_head).key ≡ key_of (slot_at txs i)
  key_at = sym (get_or-map key_in hs i no_head) ∙ ap (λ (ks : List Key). get_or ks i (key_of no_tx)) e ∙ get_or-map key_of txs i no_tx

  pub key_id : (get_or hs i no_head).key.id ≡ (slot_at txs i).id
  key_id = ap (λ (k : Key). k.id) key_at

  pub key_csn : (get_or hs i no_head).key.csn ≡ (slot_at txs i).csn
  key_csn = ap (λ (k : Key). k.csn) key_at

-- those from i on are alike to an id and a commit number where the transactions are
pub by_keys : (txs : List Tx) (hs : List TxHead) → keys_in hs ≡ keys_of txs → (id csn k i : ℕ)
    → any (alike id csn) (up_from (λ j. outline_by (get_or hs j no_head)) k i) ≡ any (alike id csn) (up_from (outline_at txs) k i)
by_keys txs hs e id csn k i =
    any_same (alike id csn) (alike id csn) (λ j. outline_by (get_or hs j no_head)) (outline_at txs) k i
    (λ x a b. ap (λ (y : Key). eqb id y.id.0 || (not (eqb csn 0) && eqb csn y.csn.0)) (key_at txs hs e x))
