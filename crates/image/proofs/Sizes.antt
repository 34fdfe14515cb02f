-- How many bytes an image and its parts take: 4,109, 8 for each transaction, 3 + length for each undo record; at most 8,653.
use Prim.Native.Nat.{ℕ, zero, suc, ◌+◌, ◌*◌, ◌≤◌, ◌<◌}
use native.Mathlib.Omega.{arith}
use mathlib.Core.Bool.{true}
use mathlib.Core.List.{List, [], ◌∷◌, map}
use mathlib.Core.Path.{◌≡◌, refl, ap₂, ◌∙◌}
use lib.ListN.{length, get_or, take, drop, length-append, length-map}
use Rattle.recovery.specs.Group.{Write}
use Rattle.redolog.specs.Flat.{writes_from}
use Rattle.redolog.proofs.Basics.{and_left, and_right}
use Rattle.transaction.specs.declared.records.Records.{Records}
use Rattle.transaction.specs.declared.Tx.{Tx}
use Rattle.transaction.specs.Lists.{up_from, every}
use Rattle.transaction.specs.View.{ranges_of, range_of, writes_of, outline}
use Rattle.transaction.specs.Rules.{range_ok, head_ok, records_ok, outline_ok}
use Rattle.transaction.proofs.RangeLaws.{in_range_lem, counted, ranged}
use Rattle.image.specs.declared.Image.{Image}
use Rattle.image.specs.Slots.{slot_at}
use Rattle.image.specs.Rules.{keeps_rules}
use Rattle.image.specs.Content.{Saved, saved, Content, saved_at, outline_in, content_ok}
use Rattle.image.specs.Format.{encode_undo, encode_undos, encode_tx, encode_txs, encode_content, undos_size, tx_size, txs_size, content_size, image_size}
use Rattle.image.proofs.Rules.{rules_length, rules_each, image_count, undo_at_lem}
use Rattle.image.proofs.Pushing.{first_ranged, rest_ranged}
use Rattle.image.proofs.Packing.{TxsOk}

-- ---- the length of what is written

pub length_undo : (u : Write) → length (encode_undo u) ≡ 3 + length u.bytes
length_undo u = omega arith

pub length_undos : (us : List Write) → length (encode_undos us) ≡ undos_size us
length_undos [] = refl
length_undos (u ∷ us) = length-append (encode_undo u) (encode_undos us) ∙ ap₂ ◌+◌ (length_undo u) (length_undos us)

pub length_tx : (t : Saved) → length (encode_tx t) ≡ tx_size t
length_tx (saved id status csn us) = omega (arith, length_undos us)

pub length_txs : (ts : List Saved) → length (encode_txs ts) ≡ txs_size ts
length_txs [] = refl
length_txs (t ∷ ts) = length-append (encode_tx t) (encode_txs ts) ∙ ap₂ ◌+◌ (length_tx t) (length_txs ts)

pub length_content : (c : Content) (m : List ℕ) → length m ≡ 4096 → length (encode_content c m) ≡ content_size c
length_content c m l = omega (arith, length-append m (encode_txs c.txs), length_txs c.txs, l)

-- ---- a content that keeps the rules

each_ok : (l a : ℕ) (ts : List Saved) → every (outline_ok l a) (map outline_in ts) ≡ true → TxsOk ts
each_ok l a [] e = tt
each_ok l a (saved id status csn us ∷ ts) e = (
  and_right (head_ok l a id status csn) (records_ok (map range_of us))
      (and_left (outline_ok l a (outline id status csn (map range_of us))) (every (outline_ok l a) (map outline_in ts)) e),
  each_ok l a ts (and_right (outline_ok l a (outline id status csn (map range_of us))) (every (outline_ok l a) (map outline_in ts)) e),
)

pub undos_small : (us : List Write) → every range_ok (map range_of us) ≡ true → undos_size us ≤ 35 * length us
undos_small [] e = omega arith
undos_small (u ∷ us) e =
    let h = in_range_lem u.addr (length u.bytes) (first_ranged u us e) in
    let i = undos_small us (rest_ranged u us e) in
    omega arith

module _ (c : Content) (e : content_ok c ≡ true) where
  pub content_few : length c.txs ≤ 8
  content_few =
      let h = rules_length c.logend c.ondisk c.assigned c.lastid (map outline_in c.txs) e in
      omega (arith, h, length-map c.txs outline_in)

  pub content_each : TxsOk c.txs
  content_each =
      each_ok c.lastid c.assigned c.txs (rules_each c.logend c.ondisk c.assigned c.lastid (map outline_in c.txs) e)

-- ---- an image that keeps the rules, whatever its arrays

take_short : (n : ℕ) (l : List ℕ) → length (take n l) ≤ n
take_short zero l = omega arith
take_short (suc n) [] = omega arith
take_short (suc n) (x ∷ l) = omega (arith, take_short n l)

records_from : (r : Records) (k i : ℕ) → ((j : ℕ) → j < i + k → get_or r.ranges.len j 0 ≤ 32)
    → undos_size (writes_from r.ranges.addr r.ranges.len r.bytes k i) ≤ 35 * k
records_from r zero i s = omega arith
records_from r (suc k) i s =
    let n = s i (omega arith) in
    let l = take_short (get_or r.ranges.len i 0) (drop (i * 32) r.bytes) in
    let h = records_from r k (suc i) (λ j b. s j (omega arith)) in
    omega arith

records_small : (r : Records) → records_ok (ranges_of r.ranges) ≡ true → undos_size (writes_of r) ≤ 560
records_small r e =
    let n = counted r.ranges e in
    let h = records_from r r.ranges.count 0 (λ j b. (ranged r.ranges e j (omega arith)).1) in
    omega arith

slots_small : (txs : List Tx) (k i : ℕ) → ((j : ℕ) → j < i + k → records_ok (ranges_of (slot_at txs j).undo.ranges) ≡ true)
    → txs_size (up_from (saved_at txs) k i) ≤ 568 * k
slots_small txs zero i s = omega arith
slots_small txs (suc k) i s =
    let l = records_small (slot_at txs i).undo (s i (omega arith)) in
    let h = slots_small txs k (suc i) (λ j b. s j (omega arith)) in
    omega arith

-- an image fits its slot on disk
pub image_small : (i : Image) → keeps_rules i ≡ true → image_size i ≤ 8653
image_small i e =
    let n = image_count i e in
    let h = slots_small i.txs i.count 0 (λ j b. undo_at_lem i e j (omega arith)) in
    omega arith
