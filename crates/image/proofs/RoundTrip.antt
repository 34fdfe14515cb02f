-- Round trip: an image that was written is read as exactly the memory, counters and transactions meant, whatever follows it.
use Prim.Native.Nat.{ℕ, suc, ◌+◌, ◌*◌, ◌/◌, ◌%◌, ◌≤◌, ◌<◌}
use native.Mathlib.Omega.{arith}
use mathlib.Core.Bool.{true}
use mathlib.Core.List.{List, [], ◌∷◌, ◌++◌, append_assoc, map}
use mathlib.Core.Option.{some}
use mathlib.Core.Path.{◌≡◌, refl, sym, ap, ap₂, ◌∙◌}
use lib.ListN.{length, take, drop, length-append}
use lib.Seq.{sets, sets-eq, take_at, drop_at}
use Rattle.recovery.specs.Group.{Write}
use Rattle.recovery.specs.Transaction.{Tx as Transaction}
use Rattle.recovery.specs.Machine.{without_redo}
use Rattle.redolog.specs.Number.{be16, be32}
use Rattle.redolog.specs.Record.{in_range}
use Rattle.redolog.specs.Group.{and_then}
use Rattle.redolog.proofs.RoundTrip.{joined2}
use Rattle.transaction.specs.declared.Tx.{Tx}
use Rattle.transaction.specs.Lists.{every}
use Rattle.transaction.specs.View.{range_of, outline, view_of}
use Rattle.transaction.specs.Rules.{range_ok}
use Rattle.transaction.proofs.Lists.{up_same}
use Rattle.transaction.proofs.RangeLaws.{counted, ranged}
use Rattle.image.specs.declared.Image.{Image}
use Rattle.image.specs.Slots.{slot_at, listed, outline_at}
use Rattle.image.specs.Rules.{image_ok, keeps_rules}
use Rattle.image.specs.Content.{Saved, saved, Content, saved_at, saved_in, content_of, outline_in, content_ok, transaction_of, transactions_in}
use Rattle.image.specs.Format.{encode_head, encode_undo, encode_undos, encode_tx, encode_txs, encode_content, encode_image, undos_in, tx_size, image_size}
use Rattle.image.specs.Reading.{undo_here, first_undo, read_undos, saved_if, read_tx, on_tx, read_txs, content_if, read_content, memory_of}
use Rattle.image.specs.Pack.{packed}
use Rattle.image.specs.Decode.{Decoded, decode_of}
use Rattle.image.proofs.Lists.{up_map}
use Rattle.image.proofs.Rules.{undo_at_lem}
use Rattle.image.proofs.Pushing.{UndosOk, undos_few, undos_ranged, first_ranged, rest_ranged, ranges_of_lem}
use Rattle.image.proofs.Packing.{TxsOk, packed_transactions, packed_content, packed_rules}
use Rattle.image.proofs.Readings.{here_yes}
use Rattle.image.proofs.TxReadings.{tx_undos, content_txs, decode_good}
use Rattle.image.proofs.Sizes.{length_tx, length_content, content_few, content_each, image_small}

joined4 : (n : ℕ) → (n / 65536 / 256 * 256 + n / 65536 % 256) * 65536 + (n % 65536 / 256 * 256 + n % 65536 % 256) ≡ n
joined4 n = omega arith

-- ---- undo records

module _ (u : Write) (t : List ℕ) where
  undo_here_lem : in_range u.addr (length u.bytes) ≡ true → undo_here (encode_undo u ++ t) ≡ true
  undo_here_lem e =
      here_yes (encode_undo u ++ t) (ap (λ (a : ℕ). in_range a (length u.bytes)) (joined2 u.addr) ∙ e) (omega (arith, length-append u.bytes t))

  undo_first : first_undo (encode_undo u ++ t) ≡ u
  undo_first = ap₂ (λ (a : ℕ) (bs : List ℕ). record { addr = a; bytes = bs }) (joined2 u.addr) (take_at u.bytes t (length u.bytes) refl)

  undo_after : drop (3 + length u.bytes) (encode_undo u ++ t) ≡ t
  undo_after = drop_at (encode_undo u) t (3 + length u.bytes) (omega arith)

undos_written : (us : List Write) (rest : List ℕ) → every range_ok (map range_of us) ≡ true → read_undos (length us) (encode_undos us ++ rest) ≡ some us
undos_written [] rest e = refl
undos_written (u ∷ us) rest e =
    let t = encode_undos us ++ rest in
    ap (read_undos (suc (length us))) (append_assoc (encode_undo u) (encode_undos us) rest)
    ∙ rw (undo_here_lem u t (first_ranged u us e))
    (ap₂ (λ (v : Write) (s : List ℕ). and_then v (read_undos (length us) s)) (undo_first u t) (undo_after u t)
    ∙ ap (and_then u) (undos_written us rest (rest_ranged u us e)))

-- ---- transactions

tx_written : (t : Saved) (rest : List ℕ) → UndosOk (undos_in t) → read_tx (encode_tx t ++ rest) ≡ some t
tx_written (saved id status csn us) rest e =
    tx_undos (encode_tx (saved id status csn us) ++ rest) (omega arith) (undos_few us e)
    ∙ ap₂ (λ (i k : ℕ). saved_if i status k (read_undos (length us) (encode_undos us ++ rest))) (joined2 id) (joined4 csn)
    ∙ ap (saved_if id status csn) (undos_written us rest (undos_ranged us e))

txs_written : (ts : List Saved) (rest : List ℕ) → TxsOk ts → read_txs (length ts) (encode_txs ts ++ rest) ≡ some ts
txs_written [] rest k = refl
txs_written (t ∷ ts) rest k =
    let r = encode_txs ts ++ rest in
    ap (read_txs (suc (length ts))) (append_assoc (encode_tx t) (encode_txs ts) rest)
    ∙ ap (on_tx (read_txs (length ts)) (encode_tx t ++ r)) (tx_written t r k.0)
    ∙ ap (λ (s : List ℕ). and_then t (read_txs (length ts) s)) (drop_at (encode_tx t) r (tx_size t) (length_tx t))
    ∙ ap (and_then t) (txs_written ts rest k.1)

-- ---- the whole

module _ (c : Content) (m rest : List ℕ) (l : length m ≡ 4096) where
  parts : encode_content c m ++ rest ≡ encode_head c ++ (m ++ (encode_txs c.txs ++ rest))
  parts =
      append_assoc (encode_head c) (m ++ encode_txs c.txs) rest
      ∙ ap (λ (t : List ℕ). encode_head c ++ t) (append_assoc m (encode_txs c.txs) rest)

  pub memory_written : memory_of (encode_content c m ++ rest) ≡ m
  unfolding memory_of
  memory_written = ap (λ (s : List ℕ). take 4096 (drop 13 s)) parts ∙ take_at m (encode_txs c.txs ++ rest) 4096 l

  module _ (e : content_ok c ≡ true) where
    parts_read : read_content (encode_head c ++ (m ++ (encode_txs c.txs ++ rest))) ≡ some c
    parts_read =
        let s = encode_head c ++ (m ++ (encode_txs c.txs ++ rest)) in
        let t : drop 4109 s ≡ encode_txs c.txs ++ rest = drop_at m (encode_txs c.txs ++ rest) 4096 l in
        content_txs s (omega (arith, length-append m (encode_txs c.txs ++ rest), l)) (content_few c e)
        ∙ ap (λ (r : List ℕ). content_if (be16 s 0) (be32 s 2) (be32 s 6) (be16 s 10) (read_txs (length c.txs) r)) t
        ∙ ap (content_if (be16 s 0) (be32 s 2) (be32 s 6) (be16 s 10)) (txs_written c.txs rest (content_each c e))
        ∙ ap₂ (λ (x y : ℕ). content_if x y (be32 s 6) (be16 s 10) (some c.txs)) (joined2 c.logend) (joined4 c.ondisk)
        ∙ ap₂ (λ (x y : ℕ). content_if c.logend c.ondisk x y (some c.txs)) (joined4 c.assigned) (joined2 c.lastid)

    pub content_written : read_content (encode_content c m ++ rest) ≡ some c
    content_written = ap read_content parts ∙ parts_read

    pub decode_written : decode_of (encode_content c m ++ rest) ≡ record { ok = true; image = packed c }
    decode_written = decode_good (encode_content c m ++ rest) c content_written e

-- ---- an image in flat arrays

-- the bytes of each transaction listed have their length, as those of every value of the code do
abbrev pub Whole : Image → Type 0
Whole i = (j : ℕ) → j < i.count → length (slot_at i.txs j).undo.bytes ≡ 512

-- the layout of a content that keeps the rules: it holds that content, keeps the rules, has these transactions for recovery, and is whole
module _ (c : Content) (e : content_ok c ≡ true) where
  pub packed_holds : content_of (packed c) ≡ c
  packed_holds = packed_content c (content_few c e) (content_each c e)

  pub packed_keeps : keeps_rules (packed c) ≡ true
  packed_keeps = packed_rules c (content_few c e) (content_each c e) ∙ e

  pub packed_recovers : transactions_in (packed c) ≡ map transaction_of c.txs
  unfolding packed
  packed_recovers = packed_transactions c.txs (content_few c e) (content_each c e)

saved_transactions : (i : Image) → map transaction_of (saved_in i.txs i.count) ≡ map without_redo (transactions_in i)
saved_transactions i =
    sym (up_map transaction_of (saved_at i.txs) i.count 0)
    ∙ up_map (λ t. without_redo (view_of t)) (slot_at i.txs) i.count 0
    ∙ twice (listed i.txs i.count)
  where
    twice : (ts : List Tx) → map (λ t. without_redo (view_of t)) ts ≡ map without_redo (map view_of ts)
    twice [] = refl
    twice (t ∷ ts) = ap (λ (us : List Transaction). without_redo (view_of t) ∷ us) (twice ts)

-- s is read as the image i with the memory m: ids, statuses, commit numbers and undo records of its transactions, for recovery all but
-- their redo records
pub record Restored (i : Image) (m s : List ℕ) : Type 0 where
  pub ok : (decode_of s).ok ≡ true
  pub memory : memory_of s ≡ m
  pub content : content_of (decode_of s).image ≡ content_of i
  pub recovers : transactions_in (decode_of s).image ≡ map without_redo (transactions_in i)

module _ (i : Image) (w : Whole i) (e : keeps_rules i ≡ true) where
  pub image_content : content_ok (content_of i) ≡ true
  image_content =
      ap (image_ok i.logend i.ondisk.0 i.assigned.0 i.lastid.0)
      (sym (up_map outline_in (saved_at i.txs) i.count 0)
      ∙ up_same (λ j. outline_in (saved_at i.txs j)) (outline_at i.txs) i.count 0 (λ j g h. same j (omega arith)))
      ∙ e
    where
      same : (j : ℕ) → j < i.count → outline_in (saved_at i.txs j) ≡ outline_at i.txs j
      same j h =
          let t = slot_at i.txs j in
          let k = undo_at_lem i e j h in
          ap (outline t.id.0 t.status t.csn.0) (ranges_of_lem t.undo (w j h) (counted t.undo.ranges k) (λ n b. (ranged t.undo.ranges k n b).1))

  module _ (m rest : List ℕ) (l : length m ≡ 4096) where
    pub image_decoded : decode_of (encode_image i m ++ rest) ≡ record { ok = true; image = packed (content_of i) }
    image_decoded = decode_written (content_of i) m rest l image_content

    pub image_restored : Restored i m (encode_image i m ++ rest)
    image_restored =
        record {
          ok = ap (λ (d : Decoded). d.ok) image_decoded;
          memory = memory_written (content_of i) m rest l;
          content = ap (λ (d : Decoded). content_of d.image) image_decoded ∙ packed_holds (content_of i) image_content;
          recovers = ap (λ (d : Decoded). transactions_in d.image) image_decoded ∙ packed_recovers (content_of i) image_content ∙ saved_transactions i;
        }

-- ---- a buffer that an image was written into: the used bytes are the image, and the others stay

module _ (i : Image) (e : keeps_rules i ≡ true) (m b : List ℕ) (l : length m ≡ 4096) (z : 8653 ≤ length b) where
  pub encode_stored : sets b 0 (encode_image i m) ≡ encode_image i m ++ drop (image_size i) b
  encode_stored =
      let n = length_content (content_of i) m l in
      let k : 0 + length (encode_image i m) ≡ image_size i = omega (arith, n) in
      sets-eq (encode_image i m) b 0 (omega (arith, image_small i e, n, z)) ∙ ap (λ (j : ℕ). encode_image i m ++ drop j b) k

  pub encode_used : take (image_size i) (sets b 0 (encode_image i m)) ≡ encode_image i m
  encode_used = ap (take (image_size i)) encode_stored ∙ take_at (encode_image i m) _ (image_size i) (length_content (content_of i) m l)
