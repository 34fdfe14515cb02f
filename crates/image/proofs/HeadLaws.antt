-- Laws of the heads of an image: they are those of the image that was read, and show it again.
use Prim.Native.Nat.{ℕ, zero, suc, ◌+◌, ◌-◌, ◌≤◌, ◌<◌}
use native.Mathlib.Omega.{arith}
use mathlib.Core.Bool.{Bool, not, ◌&&◌, ◌||◌}
use mathlib.Core.List.{List, [], ◌∷◌, ◌++◌, map}
use mathlib.Core.Option.{Option, none, some}
use mathlib.Core.Path.{◌≡◌, refl, sym, ap, ap₂, ◌∙◌, subst}
use lib.ListN.{length, get_or, take, drop, replicate, length-drop, length-map, length-replicate}
use lib.Seq.{sets, sets-eq, drop-drop, take-append_seam}
use Rattle.recovery.specs.Lists.{any}
use Rattle.recovery.specs.Transaction.{Tx as Transaction}
use Rattle.redolog.proofs.Basics.{clash}
use Rattle.transaction.specs.declared.Key.{Key}
use Rattle.transaction.specs.declared.Tx.{Tx}
use Rattle.transaction.specs.Flat.{empty_tx, no_tx}
use Rattle.transaction.specs.View.{outline, range_of, view_of}
use Rattle.transaction.specs.Rules.{alike}
use Rattle.image.specs.declared.read.TxHead.{TxHead}
use Rattle.image.specs.declared.read.Heads.{Heads}
use Rattle.image.specs.Slots.{slot_at}
use Rattle.image.specs.Rules.{distinct}
use Rattle.image.specs.Keys.{key_of, keys_of, no_head, key_in, keys_in, outline_by}
use Rattle.image.specs.Content.{Saved, saved, Content, outline_in, transaction_of}
use Rattle.image.specs.Format.{undos_in, tx_size}
use Rattle.image.specs.Reading.{read_tx, on_tx, read_txs, read_image}
use Rattle.image.specs.Pack.{loaded, packed_tx, packed_txs, packed, empty_image}
use Rattle.image.specs.Heads.{blank_heads, saved_key, heads_from, tx_heads, heads_in, or_none, content_by, image_by, HeadsFit, undos_read}
use Rattle.image.proofs.Lists.{laid_at, map_at, sets_map}
use Rattle.image.proofs.Readings.{and_then_inv}
use Rattle.image.proofs.Packing.{packed_transaction}
use Rattle.image.proofs.TxReadings.{tx_inv, tx_kept, txs_inv}
use Rattle.image.proofs.Soundness.{content_read, image_content}

-- ---- the keys are those of the image's slots

saved_key_lem : (t : Saved) → key_of (packed_tx t) ≡ saved_key t
unfolding loaded
saved_key_lem (saved id status csn us) = refl

keys_from : (at : ℕ) (ts : List Saved) → keys_in (heads_from at ts) ≡ keys_of (map packed_tx ts)
keys_from at [] = refl
keys_from at (t ∷ ts) = ap₂ (λ (k : Key) (ks : List Key). k ∷ ks) (sym (saved_key_lem t)) (keys_from (at + tx_size t) ts)

pub keys_lem : (ts : List Saved) → keys_in (tx_heads ts) ≡ keys_of (packed_txs ts)
unfolding tx_heads packed_txs empty_tx
keys_lem ts =
    sets_map key_in (heads_from 0 ts) (replicate 8 no_head) 0
    ∙ ap (sets (keys_in (replicate 8 no_head)) 0) (keys_from 0 ts)
    ∙ sym (sets_map key_of (map packed_tx ts) (replicate 8 empty_tx) 0)

heads_length : (at : ℕ) (ts : List Saved) → length (heads_from at ts) ≡ length ts
heads_length at [] = refl
heads_length at (t ∷ ts) = ap suc (heads_length (at + tx_size t) ts)

-- the first of them are those of the transactions listed
heads_front : (ts : List Saved) (n : ℕ) → length ts ≡ n → n ≤ 8 → take n (tx_heads ts) ≡ heads_from 0 ts
unfolding tx_heads
heads_front ts n l h =
    let z = heads_length 0 ts in
    let e : n ≡ length (heads_from 0 ts) = omega (arith, z, l) in
    ap (take n) (sets-eq (heads_from 0 ts) (replicate 8 no_head) 0 (omega (arith, z, l, h, length-replicate 8 no_head)))
    ∙ ap (λ (k : ℕ). take k (heads_from 0 ts ++ drop (0 + length (heads_from 0 ts)) (replicate 8 no_head))) e
    ∙ take-append_seam (heads_from 0 ts) (drop (0 + length (heads_from 0 ts)) (replicate 8 no_head))

-- the pairs that the code compares
alike_in : (id csn at : ℕ) (ts : List Saved) → any (alike id csn) (map outline_by (heads_from at ts)) ≡ any (alike id csn) (map outline_in ts)
alike_in id csn at [] = refl
alike_in id csn at (saved j status m us ∷ ts) =
    ap (λ (b : Bool). alike id csn (outline j status m (map range_of us)) || b) (alike_in id csn (at + tx_size (saved j status m us)) ts)

distinct_in : (at : ℕ) (ts : List Saved) → distinct (map outline_by (heads_from at ts)) ≡ distinct (map outline_in ts)
distinct_in at [] = refl
distinct_in at (saved id status csn us ∷ ts) =
    let next = at + tx_size (saved id status csn us) in
    ap₂ (λ (a b : Bool). not a && b) (alike_in id csn next ts) (distinct_in next ts)

pub heads_distinct : (ts : List Saved) (n : ℕ) → length ts ≡ n → n ≤ 8 → distinct (map outline_by (take n (tx_heads ts))) ≡ distinct (map outline_in ts)
heads_distinct ts n l h = ap (λ (hs : List TxHead). distinct (map outline_by hs)) (heads_front ts n l h) ∙ distinct_in 0 ts

-- ---- each transaction at its place

abbrev pub no_saved : Saved
no_saved = saved 0 0 0 []

tx_there : (n : ℕ) (s : List ℕ) (at : ℕ) (ts : List Saved) → read_txs n (drop at s) ≡ some ts → (k : ℕ) → k < n
    → read_tx (drop (get_or (heads_from at ts) k no_head).at s) ≡ some (get_or ts k no_saved)
tx_there zero s at ts e k h = absurd (omega (arith, h))
tx_there (suc n) s at ts e k h = go (read_tx (drop at s)) refl e (tx_there n s)
  where
    found : (t : Saved) (us : List Saved) → read_tx (drop at s) ≡ some t → read_txs n (drop (tx_size t) (drop at s)) ≡ some us
        → ((at : ℕ) (ts : List Saved) → read_txs n (drop at s) ≡ some ts → (k : ℕ) → k < n
        → read_tx (drop (get_or (heads_from at ts) k no_head).at s) ≡ some (get_or ts k no_saved))
        → (k : ℕ) → k < suc n → read_tx (drop (get_or (heads_from at (t ∷ us)) k no_head).at s) ≡ some (get_or (t ∷ us) k no_saved)
    found t us q f ih zero h = q
    found t us q f ih (suc k) h = ih (at + tx_size t) us (ap (read_txs n) (sym (drop-drop (tx_size t) at s)) ∙ f) k (omega (arith, h))

    go : (y : Option Saved) → read_tx (drop at s) ≡ y → on_tx (read_txs n) (drop at s) y ≡ some ts
        → ((at : ℕ) (ts : List Saved) → read_txs n (drop at s) ≡ some ts → (k : ℕ) → k < n
        → read_tx (drop (get_or (heads_from at ts) k no_head).at s) ≡ some (get_or ts k no_saved))
        → read_tx (drop (get_or (heads_from at ts) k no_head).at s) ≡ some (get_or ts k no_saved)
    go none q f ih = clash (cc)
    go (some t) q f ih =
        let w = and_then_inv t (read_txs n (drop (tx_size t) (drop at s))) ts f in
        subst (λ (l : List Saved). read_tx (drop (get_or (heads_from at l) k no_head).at s) ≡ some (get_or l k no_saved)) (sym w.2)
        (found t w.0 q w.1 ih k h)

-- ---- what heads show

module _ (h : Heads) (s : List ℕ) (shows : HeadsFit h s) where
  read_is : (content_by h s).txs ≡ shows.txs
  read_is = ap or_none shows.read

  slots_are : (image_by h s).txs ≡ packed_txs shows.txs
  unfolding image_by packed
  slots_are = ap packed_txs read_is

  pub shown_count : (image_by h s).count ≡ h.counters.count
  unfolding image_by packed
  shown_count = ap length read_is ∙ (txs_inv h.counters.count s shows.txs shows.read).0

  pub shown_keys : keys_in h.txs ≡ keys_of (image_by h s).txs
  shown_keys = ap keys_in shows.heads ∙ keys_lem shows.txs ∙ ap keys_of (sym slots_are)

  module _ (few : h.counters.count ≤ 8) (i : ℕ) (b : i < h.counters.count) where
    listed : length shows.txs ≡ h.counters.count
    listed = (txs_inv h.counters.count s shows.txs shows.read).0

    place : get_or h.txs i no_head ≡ get_or (heads_from 0 shows.txs) i no_head
    unfolding tx_heads
    place =
        let n = heads_length 0 shows.txs in
        ap (λ (l : List TxHead). get_or l i no_head) shows.heads
        ∙ laid_at no_head no_head (heads_from 0 shows.txs) 8 i (omega (arith, n, listed, few)) (omega (arith, n, listed, b))

    -- a transaction is read at its place
    pub shown_read : read_tx (drop (get_or h.txs i no_head).at s) ≡ some (get_or shows.txs i no_saved)
    shown_read = ap (λ (x : TxHead). read_tx (drop x.at s)) place ∙ tx_there h.counters.count s 0 shows.txs shows.read i b

    pub shown_within : (get_or h.txs i no_head).at ≤ length s
    shown_within =
        let t = get_or shows.txs i no_saved in
        let k : tx_size t ≤ length s - (get_or h.txs i no_head).at = rw length-drop at (tx_kept _ t (tx_inv _ t shown_read)).0 in
        omega (arith, k)

    shown_slot : slot_at (image_by h s).txs i ≡ packed_tx (get_or shows.txs i no_saved)
    unfolding packed_txs
    shown_slot =
        let l = length-map shows.txs packed_tx in
        ap (λ (txs : List Tx). slot_at txs i) slots_are
        ∙ laid_at empty_tx no_tx (map packed_tx shows.txs) 8 i (omega (arith, l, listed, few)) (omega (arith, l, listed, b))
        ∙ map_at packed_tx shows.txs i no_saved no_tx (omega (arith, listed, b))

    -- with the undo records that the image has of it
    pub shown_undo : undos_read (read_tx (drop (get_or h.txs i no_head).at s)) ≡ (view_of (slot_at (image_by h s).txs i)).undo
    shown_undo =
        let t = get_or shows.txs i no_saved in
        let k = (tx_kept _ t (tx_inv _ t shown_read)).1 in
        ap undos_read shown_read
        ∙ undo_of_lem t
        ∙ sym (ap (λ (x : Tx). (view_of x).undo) shown_slot ∙ ap (λ (x : Transaction). x.undo) (packed_transaction t k))
      where
        undo_of_lem : (t : Saved) → undos_in t ≡ (transaction_of t).undo
        undo_of_lem (saved id status csn us) = refl

-- ---- the heads of the image that was read

module _ (s : List ℕ) (c : Content) (e : read_image s ≡ some c) where
  pub read_shows : HeadsFit (heads_in c) (drop 4109 s)
  read_shows = record { txs = c.txs; read = content_read s c (image_content s c e); heads = refl }

  pub read_image_lem : image_by (heads_in c) (drop 4109 s) ≡ packed c
  unfolding image_by
  read_image_lem =
      ap (λ (ts : List Saved).
      packed (record { logend = c.logend; ondisk = c.ondisk; assigned = c.assigned; lastid = c.lastid; txs = ts }))
      (ap or_none (content_read s c (image_content s c e)))

-- of no image
module _ (s : List ℕ) where
  pub blank_shows : HeadsFit blank_heads s
  unfolding blank_heads tx_heads
  blank_shows = record { txs = []; read = refl; heads = refl }

  pub blank_image : image_by blank_heads s ≡ empty_image
  unfolding image_by blank_heads packed packed_txs empty_image
  blank_image = refl

pub shown_logend : (h : Heads) (s : List ℕ) → (image_by h s).logend ≡ h.counters.logend
unfolding image_by packed
shown_logend h s = refl
