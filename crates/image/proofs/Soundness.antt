-- Soundness: what the reader accepts keeps the image rules and is the encoding of its answer, and then the rest. So a string of bytes has
-- one reading at most.
use Prim.Native.Nat.{ℕ, zero, suc, ◌+◌, ◌≤◌}
use native.Mathlib.Omega.{arith}
use mathlib.Core.Bool.{Bool, true, false, cond}
use mathlib.Core.List.{List, [], ◌∷◌, ◌++◌, append_assoc}
use mathlib.Core.Option.{Option, none, some}
use mathlib.Core.Path.{◌≡◌, refl, sym, ap, ap₂, ◌∙◌, subst}
use lib.ListN.{length, get_or, take, drop, take-append-drop, length-drop}
use lib.Seq.{drop-drop, drop-cons, length-take-le}
use lib.Dec.{leb}
use borrow.Author.Tests.{leb-true}
use Rattle.recovery.specs.Group.{Write}
use Rattle.redolog.specs.Number.{be16, be32, bytes16, bytes32}
use Rattle.redolog.proofs.Basics.{clash}
use Rattle.redolog.proofs.Soundness.{Bytes, bytes_drop, bytes16_read, bytes32_read}
use Rattle.image.specs.Rules.{keeps_rules}
use Rattle.image.specs.Content.{Saved, saved, Content, content_of, content_ok}
use Rattle.image.specs.Format.{head_bytes, encode_head, encode_tx_head, encode_undo, encode_undos, encode_tx, encode_txs, encode_content, encode_image}
use Rattle.image.specs.Format.{undos_size, tx_size, txs_size, content_size, image_size}
use Rattle.image.specs.Reading.{undo_here, first_undo, read_txs, content_if, read_content, keeping_rules, read_image, memory_of}
use Rattle.image.specs.Decode.{not_decoded, decoded_of, decode_of}
use Rattle.image.proofs.Readings.{here_within, first_length, UndosAt}
use Rattle.image.proofs.TxReadings.{TxAt, TxsAt, txs_inv}
use Rattle.image.proofs.RoundTrip.{memory_written, content_written, packed_holds, packed_keeps}

-- the k elements from place i on
abbrev items : List ℕ → ℕ → ℕ → List ℕ
items s zero i = []
items s (suc k) i = get_or s i 0 ∷ items s k (suc i)

items_front : (s : List ℕ) (k i : ℕ) → i + k ≤ length s → drop i s ≡ items s k i ++ drop (i + k) s
items_front s zero i h = let z : i ≡ i + 0 = omega arith in ap (λ (j : ℕ). drop j s) z
items_front s (suc k) i h =
    let z : suc i + k ≡ i + suc k = omega arith in
    drop-cons s i 0 (omega arith)
    ∙ ap (λ (l : List ℕ). get_or s i 0 ∷ l) (items_front s k (suc i) (omega arith) ∙ ap (λ (j : ℕ). items s k (suc i) ++ drop j s) z)

-- ---- undo records

undo_sound : (s : List ℕ) → Bytes s → undo_here s ≡ true → s ≡ encode_undo (first_undo s) ++ drop (3 + get_or s 2 0) s
undo_sound s b e =
    let n = get_or s 2 0 in
    let w = here_within s e in
    let bs = take n (drop 3 s) in
    let p : drop 3 s ≡ bs ++ drop (3 + n) s = sym (take-append-drop n (drop 3 s)) ∙ ap (λ (l : List ℕ). bs ++ l) (drop-drop n 3 s) in
    items_front s 3 0 (omega arith)
    ∙ ap₂ (λ (h l : List ℕ). h ++ (n ∷ l)) (sym (bytes16_read s 0 b)) p
    ∙ ap (λ (k : ℕ). bytes16 (be16 s 0) ++ (k ∷ (bs ++ drop (3 + n) s))) (sym (first_length s e))

undos_sound : (us : List Write) (s : List ℕ) → Bytes s → UndosAt s us → s ≡ encode_undos us ++ drop (undos_size us) s
undos_sound [] s b a = refl
undos_sound (u ∷ us) s b a =
    let m = 3 + get_or s 2 0 in
    let z : length u.bytes ≡ get_or s 2 0 = ap (λ (v : Write). length v.bytes) a.1 ∙ first_length s a.0 in
    let i = undos_sound us (drop m s) (bytes_drop m s b) a.2 in
    let k : m + undos_size us ≡ 3 + length u.bytes + undos_size us = omega (arith, z) in
    undo_sound s b a.0
    ∙ ap₂ (λ (v : Write) (l : List ℕ). encode_undo v ++ l) (sym a.1)
    (i ∙ ap (λ (l : List ℕ). encode_undos us ++ l) (drop-drop (undos_size us) m s ∙ ap (λ (j : ℕ). drop j s) k))
    ∙ sym (append_assoc (encode_undo u) (encode_undos us) (drop (3 + length u.bytes + undos_size us) s))

-- ---- transactions

tx_sound : (t : Saved) (s : List ℕ) → Bytes s → TxAt s t → s ≡ encode_tx t ++ drop (tx_size t) s
tx_sound (saved id status csn us) s b a =
    let w = a.0 in
    let u = undos_sound us (drop 8 s) (bytes_drop 8 s b) a.6 in
    let front : items s 8 0 ≡ encode_tx_head (saved id status csn us) =
    sym
    (ap₂ (λ (i n : ℕ). bytes16 i ++ (status ∷ (bytes32 n ++ (length us ∷ [])))) a.2 a.4
    ∙ ap₂ (λ (x k : ℕ). bytes16 (be16 s 0) ++ (x ∷ (bytes32 (be32 s 3) ++ (k ∷ [])))) a.3 a.5
    ∙ ap₂ (λ (x y : List ℕ). x ++ (get_or s 2 0 ∷ (y ++ (get_or s 7 0 ∷ [])))) (bytes16_read s 0 b) (bytes32_read s 3 b)) in
    items_front s 8 0 (omega arith)
    ∙ ap₂ (λ (h l : List ℕ). h ++ l) front (u ∙ ap (λ (l : List ℕ). encode_undos us ++ l) (drop-drop (undos_size us) 8 s))
    ∙ sym (append_assoc (encode_tx_head (saved id status csn us)) (encode_undos us) (drop (8 + undos_size us) s))

txs_sound : (ts : List Saved) (s : List ℕ) → Bytes s → TxsAt s ts → s ≡ encode_txs ts ++ drop (txs_size ts) s
txs_sound [] s b a = refl
txs_sound (t ∷ ts) s b a =
    let i = txs_sound ts (drop (tx_size t) s) (bytes_drop (tx_size t) s b) a.1 in
    tx_sound t s b a.0
    ∙ ap (λ (l : List ℕ). encode_tx t ++ l) (i ∙ ap (λ (l : List ℕ). encode_txs ts ++ l) (drop-drop (txs_size ts) (tx_size t) s))
    ∙ sym (append_assoc (encode_tx t) (encode_txs ts) (drop (tx_size t + txs_size ts) s))

-- ---- the whole

-- a content that is read: its numbers, its count and its transactions in place
pub record ContentAt (s : List ℕ) (c : Content) : Type 0 where
  pub within : 4109 ≤ length s
  pub logend : c.logend ≡ be16 s 0
  pub ondisk : c.ondisk ≡ be32 s 2
  pub assigned : c.assigned ≡ be32 s 6
  pub lastid : c.lastid ≡ be16 s 10
  pub count : length c.txs ≡ get_or s 12 0
  pub txs : TxsAt (drop 4109 s) c.txs

abbrev content_or : Content → Option Content → Content
content_or c none = c
content_or c (some x) = x

content_inv : (s : List ℕ) (c : Content) → read_content s ≡ some c → ContentAt s c
unfolding read_content
content_inv s c e = go (leb 4109 (length s)) (leb (get_or s 12 0) 8) refl refl
  where
    read : 4109 ≤ length s → (y : Option (List Saved)) → read_txs (get_or s 12 0) (drop 4109 s) ≡ y
        → content_if (be16 s 0) (be32 s 2) (be32 s 6) (be16 s 10) y ≡ some c → ContentAt s c
    read h none q f = clash (cc)
    read h (some ts) q f =
        let i = txs_inv (get_or s 12 0) (drop 4109 s) ts q in
        subst (λ (x : Content). ContentAt s x) (ap (content_or c) f)
        (record { within = h; logend = refl; ondisk = refl; assigned = refl; lastid = refl; count = i.0; txs = i.1 })

    go : (a b : Bool) → leb 4109 (length s) ≡ a → leb (get_or s 12 0) 8 ≡ b → ContentAt s c
    go true true p q = read (leb-true _ _ p) (read_txs (get_or s 12 0) (drop 4109 s)) refl (rw (p, q) at e)
    go true false p q = let f : ◌≡◌ {A = Option Content} none (some c) = rw (p, q) at e in clash (cc)
    go false b p q = let f : ◌≡◌ {A = Option Content} none (some c) = rw p at e in clash (cc)

-- its transactions are those read
pub content_read : (s : List ℕ) (c : Content) → read_content s ≡ some c → read_txs (length c.txs) (drop 4109 s) ≡ some c.txs
unfolding read_content
content_read s c e = go (leb 4109 (length s)) (leb (get_or s 12 0) 8) refl refl
  where
    read : (y : Option (List Saved)) → read_txs (get_or s 12 0) (drop 4109 s) ≡ y
        → content_if (be16 s 0) (be32 s 2) (be32 s 6) (be16 s 10) y ≡ some c → read_txs (length c.txs) (drop 4109 s) ≡ some c.txs
    read none q f = clash (cc)
    read (some ts) q f =
        let i = txs_inv (get_or s 12 0) (drop 4109 s) ts q in
        subst (λ (x : Content). read_txs (length x.txs) (drop 4109 s) ≡ some x.txs) (ap (content_or c) f)
        (ap (λ (n : ℕ). read_txs n (drop 4109 s)) i.0 ∙ q)

    go : (a b : Bool) → leb 4109 (length s) ≡ a → leb (get_or s 12 0) 8 ≡ b → read_txs (length c.txs) (drop 4109 s) ≡ some c.txs
    go true true p q = read (read_txs (get_or s 12 0) (drop 4109 s)) refl (rw (p, q) at e)
    go true false p q = let f : ◌≡◌ {A = Option Content} none (some c) = rw (p, q) at e in clash (cc)
    go false b p q = let f : ◌≡◌ {A = Option Content} none (some c) = rw p at e in clash (cc)

head_sound : (s : List ℕ) (c : Content) → Bytes s → ContentAt s c → items s 13 0 ≡ encode_head c
head_sound s c b a =
    sym
    (ap₂ (λ (x y : ℕ). head_bytes x y c.assigned c.lastid (length c.txs)) a.logend a.ondisk
    ∙ ap₂ (λ (x y : ℕ). head_bytes (be16 s 0) (be32 s 2) x y (length c.txs)) a.assigned a.lastid
    ∙ ap (head_bytes (be16 s 0) (be32 s 2) (be32 s 6) (be16 s 10)) a.count
    ∙ ap₂ (λ (x y : List ℕ). x ++ (y ++ (bytes32 (be32 s 6) ++ (bytes16 (be16 s 10) ++ (get_or s 12 0 ∷ []))))) (bytes16_read s 0 b) (bytes32_read s 2 b)
    ∙ ap₂ (λ (x y : List ℕ). items s 6 0 ++ (x ++ (y ++ (get_or s 12 0 ∷ [])))) (bytes32_read s 6 b) (bytes16_read s 10 b))

content_sound : (s : List ℕ) (c : Content) → Bytes s → ContentAt s c → s ≡ encode_content c (memory_of s) ++ drop (content_size c) s
unfolding memory_of
content_sound s c b a =
    let w = a.within in
    let m = take 4096 (drop 13 s) in
    let ts = encode_txs c.txs in
    let end = drop (4109 + txs_size c.txs) s in
    let t : drop 4109 s ≡ ts ++ end =
    txs_sound c.txs (drop 4109 s) (bytes_drop 4109 s b) a.txs ∙ ap (λ (l : List ℕ). ts ++ l) (drop-drop (txs_size c.txs) 4109 s) in
    let d : drop 13 s ≡ m ++ drop 4109 s = sym (take-append-drop 4096 (drop 13 s)) ∙ ap (λ (l : List ℕ). m ++ l) (drop-drop 4096 13 s) in
    items_front s 13 0 (omega arith)
    ∙ ap₂ (λ (h l : List ℕ). h ++ l) (head_sound s c b a) (d ∙ ap (λ (l : List ℕ). m ++ l) t ∙ sym (append_assoc m ts end))
    ∙ sym (append_assoc (encode_head c) (m ++ ts) end)

keeping_inv : (y : Option Content) (c : Content) → keeping_rules y ≡ some c → (y ≡ some c) × (content_ok c ≡ true)
keeping_inv none c e = clash (cc)
keeping_inv (some x) c e = go (content_ok x) refl e
  where
    go : (b : Bool) → content_ok x ≡ b → cond b (some x) none ≡ some c → (some x ≡ some c) × (content_ok c ≡ true)
    go true p f = (f, subst (λ (w : Content). content_ok w ≡ true) (ap (content_or x) f) p)
    go false p f = clash (cc)

module _ (s : List ℕ) (c : Content) (e : read_image s ≡ some c) where
  pub image_content : read_content s ≡ some c
  image_content = (keeping_inv (read_content s) c e).0

  in_place : ContentAt s c
  in_place = content_inv s c image_content

  pub image_keeps : content_ok c ≡ true
  image_keeps = (keeping_inv (read_content s) c e).1

  pub memory_length : length (memory_of s) ≡ 4096
  unfolding memory_of
  memory_length = let w = in_place.within in length-take-le 4096 (drop 13 s) (simp length-drop (omega arith))

  -- what is accepted is the encoding of the answer, and then the rest
  pub image_sound : Bytes s → s ≡ encode_content c (memory_of s) ++ drop (content_size c) s
  image_sound b = content_sound s c b in_place

-- two images never share their bytes
module _ (c d : Content) (m n t u : List ℕ) (p : content_ok c ≡ true) (q : content_ok d ≡ true) (k : length m ≡ 4096) (l : length n ≡ 4096)
    (e : encode_content c m ++ t ≡ encode_content d n ++ u) where
  pub content_unique : c ≡ d
  content_unique = ap (content_or c) (sym (content_written c m t k p) ∙ ap read_content e ∙ content_written d n u l q)

  pub memory_unique : m ≡ n
  memory_unique = sym (memory_written c m t k) ∙ ap memory_of e ∙ memory_written d n u l

-- ---- the same of decode

decoded_some : (y : Option Content) → (decoded_of y).ok ≡ true → (c : Content) × (y ≡ some c)
unfolding not_decoded
decoded_some none e = clash (cc)
decoded_some (some c) e = (c, refl)

module _ (s : List ℕ) (e : (decode_of s).ok ≡ true) where
  pub decode_keeps : keeps_rules (decode_of s).image ≡ true
  decode_keeps =
      let w = decoded_some (read_image s) e in
      ap (λ (y : Option Content). keeps_rules (decoded_of y).image) w.1 ∙ packed_keeps w.0 (image_keeps s w.0 w.1)

  pub decode_sound : Bytes s → s ≡ encode_image (decode_of s).image (memory_of s) ++ drop (image_size (decode_of s).image) s
  decode_sound b =
      let w = decoded_some (read_image s) e in
      let h : content_of (decode_of s).image ≡ w.0 =
      ap (λ (y : Option Content). content_of (decoded_of y).image) w.1 ∙ packed_holds w.0 (image_keeps s w.0 w.1) in
      image_sound s w.0 w.1 b ∙ ap (λ (c : Content). encode_content c (memory_of s) ++ drop (content_size c) s) (sym h)
