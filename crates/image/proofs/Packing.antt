-- Laws of a content laid out in flat arrays: it is seen there again.
use Prim.Native.Nat.{ℕ, zero, suc, ◌+◌, ◌-◌, ◌≤◌}
use native.Mathlib.Nat.{zero-add, suc-add}
use native.Mathlib.Omega.{arith}
use mathlib.Core.List.{List, [], ◌∷◌, ◌++◌, map}
use mathlib.Core.Path.{◌≡◌, refl, sym, ap, ap₂, ◌∙◌}
use lib.ListN.{length, get_or, drop, replicate, length-map}
use lib.Seq.{sets-eq}
use lib.Dec.{eqb}
use Rattle.recovery.specs.Group.{Write}
use Rattle.transaction.specs.declared.Tx.{Tx}
use Rattle.transaction.specs.Lists.{up_from}
use Rattle.transaction.specs.Flat.{empty_records, empty_tx, no_tx}
use Rattle.transaction.specs.View.{outline, outline_of, view_of}
use Rattle.image.specs.Slots.{slot_at, listed, outlined}
use Rattle.image.specs.Rules.{image_ok, keeps_rules}
use Rattle.image.specs.Content.{Saved, saved, Content, saved_of, saved_in, content_of, outline_in, content_ok, transaction_of}
use Rattle.image.specs.Format.{undos_in}
use Rattle.image.specs.Pack.{loaded, packed_tx, packed_txs, packed}
use Rattle.image.proofs.Lists.{up_map, up_front, map_self}
use Rattle.image.proofs.Pushing.{UndosOk, packed_writes, packed_ranges}

-- ---- transactions

packed_tx_lem : (t : Saved) → UndosOk (undos_in t) → saved_of (packed_tx t) ≡ t
unfolding loaded
packed_tx_lem (saved id status csn us) e = ap (saved id status csn) (packed_writes us e)

packed_outline : (t : Saved) → UndosOk (undos_in t) → outline_of (packed_tx t) ≡ outline_in t
unfolding loaded
packed_outline (saved id status csn us) e = ap (outline id status csn) (packed_ranges us e)

pub packed_transaction : (t : Saved) → UndosOk (undos_in t) → view_of (packed_tx t) ≡ transaction_of t
unfolding loaded empty_records
packed_transaction (saved id status csn us) e =
    ap (λ (ws : List Write). record { id = id; committing = eqb status 2; csn = csn; undo = ws; redo = []; savepoints = [] }) (packed_writes us e)

-- each transaction's records keep the rules
abbrev pub TxsOk : List Saved → Type 0
TxsOk [] = Unit
TxsOk (t ∷ ts) = UndosOk (undos_in t) × TxsOk ts

packed_each : {A : Type 0} (f : Tx → A) (g : Saved → A) → ((t : Saved) → UndosOk (undos_in t) → f (packed_tx t) ≡ g t) → (ts : List Saved) → TxsOk ts
    → map f (map packed_tx ts) ≡ map g ts
packed_each f g h [] k = refl
packed_each {A = A} f g h (t ∷ ts) k = ap₂ (λ (x : A) (xs : List A). x ∷ xs) (h t k.0) (packed_each f g h ts k.1)

-- ---- the slots

drop_same : {A : Type 0} (a : A) (m n : ℕ) → drop m (replicate (m + n) a) ≡ replicate n a
drop_same a zero n = ap (λ (k : ℕ). replicate k a) (zero-add n)
drop_same a (suc m) n = ap (λ (k : ℕ). drop (suc m) (replicate k a)) (suc-add m n) ∙ drop_same a m n

-- the transactions, and after them what an unused slot holds
pub packed_slots : (ts : List Saved) → length ts ≤ 8 → packed_txs ts ≡ map packed_tx ts ++ replicate (8 - length ts) empty_tx
unfolding packed_txs
packed_slots ts h =
    let n = length-map ts packed_tx in
    let k : 0 + length (map packed_tx ts) ≡ length ts = omega (arith, n) in
    let e : 8 ≡ length ts + (8 - length ts) = omega arith in
    sets-eq (map packed_tx ts) (replicate 8 empty_tx) 0 (omega (arith, n, h))
    ∙ ap₂ (λ (i j : ℕ). map packed_tx ts ++ drop i (replicate j empty_tx)) k e
    ∙ ap (λ (l : List Tx). map packed_tx ts ++ l) (drop_same empty_tx (length ts) (8 - length ts))

pub packed_listed : (ts : List Saved) → length ts ≤ 8 → listed (packed_txs ts) (length ts) ≡ map packed_tx ts
packed_listed ts h =
    ap₂ (λ (l : List Tx) (k : ℕ). up_from (λ j. get_or l j no_tx) k 0) (packed_slots ts h) (sym (length-map ts packed_tx))
    ∙ up_front (map packed_tx ts) (replicate (8 - length ts) empty_tx) no_tx

module _ {A : Type 0} (f : Tx → A) (g : Saved → A) (h : (t : Saved) → UndosOk (undos_in t) → f (packed_tx t) ≡ g t) (ts : List Saved) (c : length ts ≤ 8)
    (k : TxsOk ts) where
  packed_seen : up_from (λ j. f (slot_at (packed_txs ts) j)) (length ts) 0 ≡ map g ts
  packed_seen = up_map f (slot_at (packed_txs ts)) (length ts) 0 ∙ ap (map f) (packed_listed ts c) ∙ packed_each f g h ts k

module _ (ts : List Saved) (c : length ts ≤ 8) (k : TxsOk ts) where
  pub packed_saved : saved_in (packed_txs ts) (length ts) ≡ ts
  packed_saved = packed_seen saved_of (λ t. t) packed_tx_lem ts c k ∙ map_self (λ t. t) ts (λ t. refl)

  pub packed_outlines : outlined (packed_txs ts) (length ts) ≡ map outline_in ts
  packed_outlines = packed_seen outline_of outline_in packed_outline ts c k

  -- as recovery has them
  pub packed_transactions : map view_of (listed (packed_txs ts) (length ts)) ≡ map transaction_of ts
  packed_transactions = sym (up_map view_of (slot_at (packed_txs ts)) (length ts) 0) ∙ packed_seen view_of transaction_of packed_transaction ts c k

-- ---- the whole

module _ (x : Content) (c : length x.txs ≤ 8) (k : TxsOk x.txs) where
  pub packed_content : content_of (packed x) ≡ x
  unfolding packed
  packed_content =
      ap (λ (ts : List Saved). record { logend = x.logend; ondisk = x.ondisk; assigned = x.assigned; lastid = x.lastid; txs = ts })
      (packed_saved x.txs c k)

  pub packed_rules : keeps_rules (packed x) ≡ content_ok x
  unfolding packed
  packed_rules = ap (image_ok x.logend x.ondisk x.assigned x.lastid) (packed_outlines x.txs c k)
