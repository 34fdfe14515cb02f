-- Laws of the readers of transactions and of the whole image.
use Prim.Native.Nat.{ℕ, zero, suc, ◌+◌, ◌-◌, ◌≤◌, ◌<◌}
use native.Mathlib.Numerals.{add-one}
use native.Mathlib.Omega.{arith}
use mathlib.Core.Bool.{Bool, true, false, cond, ◌&&◌}
use mathlib.Core.List.{List, [], ◌∷◌, map}
use mathlib.Core.Option.{Option, none, some}
use mathlib.Core.Path.{◌≡◌, refl, sym, ap, ap₂, ◌∙◌, subst}
use lib.ListN.{length, get_or, drop, set, replicate, length-drop, length-map}
use lib.Seq.{sets, drop-drop, length-take-le}
use lib.Dec.{leb}
use borrow.Author.Tests.{le-leb, lt-leb, leb-true, leb-false}
use Rattle.std.specs.Prelude.{Option as Maybe, Some, None}
use Rattle.std.proofs.lemmas.Option.{cond_some}
use Rattle.recovery.specs.Group.{Write}
use Rattle.redolog.specs.Number.{be16, be32}
use Rattle.redolog.specs.Group.{and_then}
use Rattle.redolog.proofs.Basics.{clash, and_right, and_both}
use Rattle.transaction.specs.declared.Key.{Key}
use Rattle.transaction.specs.Lists.{every}
use Rattle.transaction.specs.View.{range_of}
use Rattle.transaction.specs.Rules.{range_ok, head_ok, outline_ok}
use Rattle.image.specs.declared.read.TxHead.{TxHead}
use Rattle.image.specs.Rules.{distinct, outlines_ok, bounds_ok}
use Rattle.image.specs.Keys.{no_head}
use Rattle.image.specs.Content.{Saved, saved, Content, outline_in, content_ok}
use Rattle.image.specs.Format.{undos_in, undos_size, tx_size, txs_size}
use Rattle.image.specs.Reading.{undo_here, first_undo, read_undos, saved_if, read_tx, on_tx, read_txs, content_if, read_content, keeping_rules, read_image}
use Rattle.image.specs.Pack.{packed}
use Rattle.image.specs.Decode.{decoded_of, decode_of}
use Rattle.image.specs.Heads.{undos_end, tx_span, ruled_span, ruled, saved_key, heads_from, tx_heads, listed_of, undo_starts, undo_places, undos_read}
use Rattle.image.proofs.Readings.{no_write, and_then_inv, UndosAt, undos_inv, undos_kept, place_of, starts_length}
use Rattle.image.proofs.Lists.{laid_at}
use Rattle.image.proofs.Pushing.{UndosOk}
use Rattle.image.proofs.Packing.{TxsOk}

-- ---- one transaction

module _ (s : List ℕ) where
  pub tx_short : length s < 8 → read_tx s ≡ none
  unfolding read_tx
  tx_short h = rw (lt-leb _ _ h)

  pub tx_many : 8 ≤ length s → 16 < get_or s 7 0 → read_tx s ≡ none
  unfolding read_tx
  tx_many h l = rw (le-leb _ _ h, lt-leb _ _ l)

  pub tx_undos : 8 ≤ length s → get_or s 7 0 ≤ 16 → read_tx s ≡ saved_if (be16 s 0) (get_or s 2 0) (be32 s 3) (read_undos (get_or s 7 0) (drop 8 s))
  unfolding read_tx
  tx_undos h l = rw (le-leb _ _ h, le-leb _ _ l)

-- a transaction that is read: its numbers, its count and its records in place
abbrev pub TxAt : List ℕ → Saved → Type 0
TxAt s (saved id status csn us) =
    (8 ≤ length s) × (length us ≤ 16) × (id ≡ be16 s 0) × (status ≡ get_or s 2 0) × (csn ≡ be32 s 3) × (length us ≡ get_or s 7 0) × UndosAt (drop 8 s) us

pub tx_inv : (s : List ℕ) (t : Saved) → read_tx s ≡ some t → TxAt s t
unfolding read_tx
tx_inv s t e = go (leb 8 (length s)) (leb (get_or s 7 0) 16) refl refl
  where
    read : 8 ≤ length s → get_or s 7 0 ≤ 16 → (y : Option (List Write)) → read_undos (get_or s 7 0) (drop 8 s) ≡ y
        → saved_if (be16 s 0) (get_or s 2 0) (be32 s 3) y ≡ some t → TxAt s t
    read h l none q f = clash (cc)
    read h l (some us) q f =
        let g : saved (be16 s 0) (get_or s 2 0) (be32 s 3) us ≡ t = cc in
        let i = undos_inv (get_or s 7 0) (drop 8 s) us q in
        subst (λ (v : Saved). TxAt s v) g (h, omega (arith, i.0), refl, refl, refl, i.0, i.1)

    go : (a b : Bool) → leb 8 (length s) ≡ a → leb (get_or s 7 0) 16 ≡ b → TxAt s t
    go true true p q =
        let f : saved_if (be16 s 0) (get_or s 2 0) (be32 s 3) (read_undos (get_or s 7 0) (drop 8 s)) ≡ some t = rw (p, q) at e in
        read (leb-true _ _ p) (leb-true _ _ q) (read_undos (get_or s 7 0) (drop 8 s)) refl f
    go true false p q = let f : ◌≡◌ {A = Option Saved} none (some t) = rw (p, q) at e in clash (cc)
    go false b p q = let f : ◌≡◌ {A = Option Saved} none (some t) = rw p at e in clash (cc)

-- it lies within the list, and its records keep the rules
pub tx_kept : (s : List ℕ) (t : Saved) → TxAt s t → (tx_size t ≤ length s) × UndosOk (undos_in t)
tx_kept s (saved id status csn us) a =
    let k = undos_kept (drop 8 s) us a.6 in
    let d : undos_size us ≤ length s - 8 = rw length-drop at k.0 in
    let l : length (map range_of us) ≤ 16 = omega (arith, a.1, length-map us range_of) in
    (omega (arith, d, a.0), and_both (leb (length (map range_of us)) 16) (every range_ok (map range_of us)) (le-leb _ _ l) k.1)

-- its undo records in place
pub record RecordsAt (s : List ℕ) : Type 0 where
  pub head : 8 ≤ length s
  pub few : get_or s 7 0 ≤ 16
  pub count : length (undos_read (read_tx s)) ≡ get_or s 7 0
  pub read : read_undos (get_or s 7 0) (drop 8 s) ≡ some (undos_read (read_tx s))
  pub there : UndosAt (drop 8 s) (undos_read (read_tx s))

pub tx_records : (s : List ℕ) (t : Saved) → read_tx s ≡ some t → RecordsAt s
tx_records s (saved id status csn us) e =
    let a = tx_inv s (saved id status csn us) e in
    let u : undos_read (read_tx s) ≡ us = ap undos_read e in
    let n : get_or s 7 0 ≤ 16 = omega (arith, a.1, a.5) in
    let r = records (read_undos (get_or s 7 0) (drop 8 s)) (sym (tx_undos s a.0 n) ∙ e) in
    record {
      head = a.0;
      few = n;
      count = ap length u ∙ a.5;
      read = r ∙ ap (λ (xs : List Write). some xs) (sym u);
      there = subst (λ (xs : List Write). UndosAt (drop 8 s) xs) (sym u) a.6;
    }
  where
    us_of : Saved → List Write
    us_of (saved i j k xs) = xs

    records : (y : Option (List Write)) → saved_if (be16 s 0) (get_or s 2 0) (be32 s 3) y ≡ some (saved id status csn us) → y ≡ some us
    records none f = clash (cc)
    records (some vs) f = cc

-- what a loop over them asks first
pub tx_head_within : (s : List ℕ) (t : Saved) → read_tx s ≡ some t → 8 ≤ length s
tx_head_within s t e = (tx_records s t e).head

pub tx_few : (s : List ℕ) (t : Saved) → read_tx s ≡ some t → get_or s 7 0 ≤ 16
tx_few s t e = (tx_records s t e).few

pub ruleset few_records = (tx_head_within, tx_few, length-take-le)

-- what stands where the k-th of them begins
pub place_at : (s ps : List ℕ) (k : ℕ) → RecordsAt s → ps ≡ undo_places (read_undos (get_or s 7 0) (drop 8 s)) → k < get_or s 7 0
    → let at = get_or ps k 0 in (undo_here (drop at s) ≡ true) × (first_undo (drop at s) ≡ get_or (undos_read (read_tx s)) k no_write)
place_at s ps k r e h =
    let us = undos_read (read_tx s) in
    let n = starts_length 8 us in
    let at : get_or (undo_starts 8 us) k 0 ≡ get_or ps k 0 =
    sym (ap (λ (l : List ℕ). get_or l k 0) (e ∙ ap undo_places r.read)
    ∙ laid_at 0 0 (undo_starts 8 us) 16 k (omega (arith, n, r.count, r.few)) (omega (arith, n, r.count, h))) in
    subst (λ (j : ℕ). (undo_here (drop j s) ≡ true) × (first_undo (drop j s) ≡ get_or us k no_write)) at
    (place_of s 8 us k r.there (omega (arith, r.count, h)))

-- its size, if one stands there
pub span_of : (id status csn : ℕ) (y : Option (List Write)) → tx_span (saved_if id status csn y) ≡ undos_end y
span_of id status csn none = refl
span_of id status csn (some us) = refl

pub span_some : (y : Option Saved) (z : ℕ) → tx_span y ≡ Some z → (t : Saved) × (y ≡ some t) × (tx_size t ≡ z)
span_some none z e = clash (cc)
span_some (some t) z e = (t, refl, cc)

-- one that is read keeps the rules if its head does
pub head_read : (last assigned : ℕ) (s : List ℕ) (t : Saved) → read_tx s ≡ some t
    → head_ok last assigned (be16 s 0) (get_or s 2 0) (be32 s 3) ≡ outline_ok last assigned (outline_in t)
head_read last assigned s (saved id status csn us) e =
    let a = tx_inv s (saved id status csn us) e in
    let k = (tx_kept s (saved id status csn us) a).1 in
    ap₂ (λ (x y : ℕ). head_ok last assigned x y (be32 s 3)) (sym a.2) (sym a.3)
    ∙ ap (head_ok last assigned id status) (sym a.4)
    ∙ go (head_ok last assigned id status csn)
    ∙ ap (λ (b : Bool). head_ok last assigned id status csn && b) (sym k)
  where
    go : (b : Bool) → b ≡ b && true
    go true = refl
    go false = refl

-- ---- a turn of the loop over transactions

txs_turn : (t : List ℕ) (n k : ℕ) → k < n → read_txs (n - k) t ≡ on_tx (read_txs (n - (k + 1))) t (read_tx t)
txs_turn t n k h = let e : n - k ≡ suc (n - (k + 1)) = omega arith in ap (λ (j : ℕ). read_txs j t) e

-- those that keep the rules by themselves
ruled_then : (last assigned : ℕ) (t : Saved) (y : Option (List Saved)) → outline_ok last assigned (outline_in t) ≡ true
    → ruled last assigned (and_then t y) ≡ and_then t (ruled last assigned y)
ruled_then last assigned t none e = refl
ruled_then last assigned t (some ts) e = rw e (go (every (outline_ok last assigned) (map outline_in ts)))
  where
    go : (b : Bool) → cond b (some (t ∷ ts)) none ≡ and_then t (cond b (some ts) none)
    go true = refl
    go false = refl

ruled_not : (last assigned : ℕ) (t : Saved) (y : Option (List Saved)) → outline_ok last assigned (outline_in t) ≡ false
    → ruled last assigned (and_then t y) ≡ none
ruled_not last assigned t none e = refl
ruled_not last assigned t (some ts) e = rw e

-- the answer of transactions from slot k on, the first of them at this place
abbrev pub listed_from : List TxHead → ℕ → ℕ → Option (List Saved) → Maybe (List TxHead)
listed_from hs at k none = None
listed_from hs at k (some ts) = Some (sets hs k (heads_from at ts))

pub list_start : (y : Option (List Saved)) → listed_of y ≡ listed_from (replicate 8 no_head) 0 0 y
unfolding tx_heads
list_start none = refl
list_start (some ts) = refl

list_laid : (hs : List TxHead) (at k : ℕ) (t : Saved) (y : Option (List Saved))
    → listed_from hs at k (and_then t y) ≡ listed_from (set hs k (record { key = saved_key t; at = at })) (at + tx_size t) (k + 1) y
list_laid hs at k t none = refl
list_laid hs at k t (some ts) = ap (λ (j : ℕ). Some (sets (set hs k (record { key = saved_key t; at = at })) j (heads_from (at + tx_size t) ts))) (sym (add-one k))

module _ (last assigned : ℕ) (s : List ℕ) (at n k : ℕ) (h : k < n) where
  pub list_stop : ruled_span last assigned (read_tx (drop at s)) ≡ None → ruled last assigned (read_txs (n - k) (drop at s)) ≡ none
  list_stop e = ap (ruled last assigned) (txs_turn (drop at s) n k h) ∙ go (read_tx (drop at s)) refl
    where
      broken : (t : Saved) → read_tx (drop at s) ≡ some t → (b : Bool) → outline_ok last assigned (outline_in t) ≡ b
          → ruled last assigned (on_tx (read_txs (n - (k + 1))) (drop at s) (some t)) ≡ none
      broken t q false p = ruled_not last assigned t (read_txs (n - (k + 1)) (drop (tx_size t) (drop at s))) p
      broken t q true p =
          let w : Some (tx_size t) ≡ None = sym (ap (ruled_span last assigned) q ∙ ap (λ (b : Bool). cond b (Some (tx_size t)) None) p) ∙ e in
          clash (cc)

      go : (y : Option Saved) → read_tx (drop at s) ≡ y → ruled last assigned (on_tx (read_txs (n - (k + 1))) (drop at s) y) ≡ none
      go none q = refl
      go (some t) q = broken t q (outline_ok last assigned (outline_in t)) refl

  module _ (z : ℕ) (e : ruled_span last assigned (read_tx (drop at s)) ≡ Some z) where
    -- what a turn found
    found : (t : Saved) × (read_tx (drop at s) ≡ some t) × (outline_ok last assigned (outline_in t) ≡ true) × (tx_size t ≡ z)
    found = go (read_tx (drop at s)) refl e
      where
        go : (y : Option Saved) → read_tx (drop at s) ≡ y → ruled_span last assigned y ≡ Some z
            → (t : Saved) × (read_tx (drop at s) ≡ some t) × (outline_ok last assigned (outline_in t) ≡ true) × (tx_size t ≡ z)
        go none q w = clash (cc)
        go (some t) q w = let k = cond_some _ _ _ w in (t, q, k.0, k.1)

    pub list_within : at ≤ length s → (at + z ≤ length s) × (at + 8 ≤ length s)
    list_within b =
        let w = found in
        let d : tx_size w.0 ≤ length s - at = rw length-drop at (tx_kept (drop at s) w.0 (tx_inv (drop at s) w.0 w.1)).0 in
        (omega (arith, w.3, d, b), omega (arith, d, b))

    -- the key that the code reads there
    key_read : (key : Key) (t : Saved) → TxAt (drop at s) t → key.id.0 ≡ be16 (drop at s) 0 → key.csn.0 ≡ be32 (drop at s) 3 → saved_key t ≡ key
    key_read key (saved id status csn us) a i m =
        ap₂ (λ (x y : ℕ). record { id = record { 0 = x }; csn = record { 0 = y } }) (a.2 ∙ sym i) (a.4 ∙ sym m)

    pub list_go : (hs : List TxHead) (key : Key) → key.id.0 ≡ be16 (drop at s) 0 → key.csn.0 ≡ be32 (drop at s) 3
        → listed_from hs at k (ruled last assigned (read_txs (n - k) (drop at s)))
        ≡ listed_from (set hs k (record { key = key; at = at })) (at + z) (k + 1) (ruled last assigned (read_txs (n - (k + 1)) (drop (at + z) s)))
    list_go hs key i m =
        let w = found in
        let t = w.0 in
        let r = key_read key t (tx_inv (drop at s) t w.1) i m in
        let rest = read_txs (n - (k + 1)) in
        ap (λ (y : Option (List Saved)). listed_from hs at k (ruled last assigned y)) (txs_turn (drop at s) n k h ∙ ap (on_tx rest (drop at s)) w.1)
        ∙ ap (listed_from hs at k) (ruled_then last assigned t (rest (drop (tx_size t) (drop at s))) w.2)
        ∙ list_laid hs at k t (ruled last assigned (rest (drop (tx_size t) (drop at s))))
        ∙ ap₂ (λ (x : Key) (l : List ℕ). listed_from (set hs k (record { key = x; at = at })) (at + tx_size t) (k + 1) (ruled last assigned (rest l))) r
        (drop-drop (tx_size t) at s)
        ∙ ap (λ (m : ℕ). listed_from (set hs k (record { key = key; at = at })) (at + m) (k + 1) (ruled last assigned (rest (drop (at + m) s)))) w.3

-- ---- a reading of transactions, one at a time

abbrev pub TxsAt : List ℕ → List Saved → Type 0
TxsAt s [] = Unit
TxsAt s (t ∷ ts) = TxAt s t × TxsAt (drop (tx_size t) s) ts

pub txs_inv : (k : ℕ) (s : List ℕ) (ts : List Saved) → read_txs k s ≡ some ts → (length ts ≡ k) × TxsAt s ts
txs_inv zero s [] e = (refl, tt)
txs_inv zero s (t ∷ ts) e = clash (cc)
txs_inv (suc k) s ts e = go (read_tx s) refl e (txs_inv k)
  where
    go : (y : Option Saved) → read_tx s ≡ y → on_tx (read_txs k) s y ≡ some ts
        → ((r : List ℕ) (us : List Saved) → read_txs k r ≡ some us → (length us ≡ k) × TxsAt r us) → (length ts ≡ suc k) × TxsAt s ts
    go none q f ih = clash (cc)
    go (some t) q f ih =
        let w = and_then_inv t (read_txs k (drop (tx_size t) s)) ts f in
        let i = ih (drop (tx_size t) s) w.0 w.1 in
        subst (λ (l : List Saved). (length l ≡ suc k) × TxsAt s l) (sym w.2) (ap suc i.0, (tx_inv s t q, i.1))

pub txs_kept : (s : List ℕ) (ts : List Saved) → TxsAt s ts → (txs_size ts ≤ length s) × TxsOk ts
txs_kept s [] a = (omega arith, tt)
txs_kept s (t ∷ ts) a =
    let k = tx_kept s t a.0 in
    let i = txs_kept (drop (tx_size t) s) ts a.1 in
    let d : txs_size ts ≤ length s - tx_size t = rw length-drop at i.0 in
    (omega (arith, k.0, d), (k.1, i.1))

-- ---- the whole

-- what is read, if it keeps the rules or not
module _ (s : List ℕ) where
  pub decode_good : (c : Content) → read_content s ≡ some c → content_ok c ≡ true → decode_of s ≡ record { ok = true; image = packed c }
  decode_good c e f = ap (λ (y : Option Content). decoded_of (keeping_rules y)) e ∙ ap (λ (b : Bool). decoded_of (cond b (some c) none)) f

  pub content_short : length s < 4109 → read_content s ≡ none
  unfolding read_content
  content_short h = rw (lt-leb _ _ h)

  pub content_many : 4109 ≤ length s → 8 < get_or s 12 0 → read_content s ≡ none
  unfolding read_content
  content_many h l = rw (le-leb _ _ h, lt-leb _ _ l)

  pub content_txs : 4109 ≤ length s → get_or s 12 0 ≤ 8
      → read_content s ≡ content_if (be16 s 0) (be32 s 2) (be32 s 6) (be16 s 10) (read_txs (get_or s 12 0) (drop 4109 s))
  unfolding read_content
  content_txs h l = rw (le-leb _ _ h, le-leb _ _ l)

  abbrev pub content_with : List Saved → Content
  content_with ts = record { logend = be16 s 0; ondisk = be32 s 2; assigned = be32 s 6; lastid = be16 s 10; txs = ts }

  abbrev bounds : Bool
  bounds = bounds_ok (be16 s 0) (be32 s 2) (be32 s 6) (get_or s 12 0)

  -- the rules that are left once the counters and each transaction keep theirs
  abbrev pub apart : Option (List Saved) → Option Content
  apart none = none
  apart (some ts) = cond (distinct (map outline_in ts)) (some (content_with ts)) none

  pub apart_not : (ts : List Saved) → distinct (map outline_in ts) ≡ false → apart (some ts) ≡ none
  apart_not ts e = ap (λ (b : Bool). cond b (some (content_with ts)) none) e

  pub apart_yes : (ts : List Saved) → distinct (map outline_in ts) ≡ true → apart (some ts) ≡ some (content_with ts)
  apart_yes ts e = ap (λ (b : Bool). cond b (some (content_with ts)) none) e

  module _ (h : 4109 ≤ length s) where
    ok_by : (ts : List Saved) → read_txs (get_or s 12 0) (drop 4109 s) ≡ some ts
        → content_ok (content_with ts) ≡ bounds && (every (outline_ok (be16 s 10) (be32 s 6)) (map outline_in ts) && distinct (map outline_in ts))
    ok_by ts q =
        let l = (txs_inv (get_or s 12 0) (drop 4109 s) ts q).0 in
        ap (λ (n : ℕ). bounds_ok (be16 s 0) (be32 s 2) (be32 s 6) n && outlines_ok (be16 s 10) (be32 s 6) (map outline_in ts)) (length-map ts outline_in ∙ l)

    image_by_lem : get_or s 12 0 ≤ 8 → (y : Option (List Saved)) → read_txs (get_or s 12 0) (drop 4109 s) ≡ y
        → read_image s ≡ keeping_rules (content_if (be16 s 0) (be32 s 2) (be32 s 6) (be16 s 10) y)
    image_by_lem l y q = ap keeping_rules (content_txs h l ∙ ap (content_if (be16 s 0) (be32 s 2) (be32 s 6) (be16 s 10)) q)

    pub heads_bounds : bounds ≡ false → read_image s ≡ none
    heads_bounds e = count (leb (get_or s 12 0) 8) refl
      where
        few : get_or s 12 0 ≤ 8 → (y : Option (List Saved)) → read_txs (get_or s 12 0) (drop 4109 s) ≡ y → read_image s ≡ none
        few l none q = image_by_lem l none q
        few l (some ts) q =
            let f : content_ok (content_with ts) ≡ false = ok_by ts q
            ∙ ap (λ (b : Bool). b && (every (outline_ok (be16 s 10) (be32 s 6)) (map outline_in ts) && distinct (map outline_in ts))) e in
            image_by_lem l (some ts) q ∙ ap (λ (b : Bool). cond b (some (content_with ts)) none) f

        count : (b : Bool) → leb (get_or s 12 0) 8 ≡ b → read_image s ≡ none
        count true q = few (leb-true _ _ q) (read_txs (get_or s 12 0) (drop 4109 s)) refl
        count false q = ap keeping_rules (content_many h (omega (arith, leb-false (get_or s 12 0) 8 q)))

    module _ (e : bounds ≡ true) where
      pub heads_few : get_or s 12 0 ≤ 8
      heads_few = leb-true (get_or s 12 0) 8 (and_right (leb (be16 s 0) 16384 && leb (be32 s 2) (be32 s 6)) _ e)

      pub heads_by : read_image s ≡ apart (ruled (be16 s 10) (be32 s 6) (read_txs (get_or s 12 0) (drop 4109 s)))
      heads_by = go (read_txs (get_or s 12 0) (drop 4109 s)) refl
        where
          both : (ts : List Saved) (b : Bool) → every (outline_ok (be16 s 10) (be32 s 6)) (map outline_in ts) ≡ b
              → cond (b && distinct (map outline_in ts)) (some (content_with ts)) none ≡ apart (cond b (some ts) none)
          both ts true p = refl
          both ts false p = refl

          go : (y : Option (List Saved)) → read_txs (get_or s 12 0) (drop 4109 s) ≡ y → read_image s ≡ apart (ruled (be16 s 10) (be32 s 6) y)
          go none q = image_by_lem heads_few none q
          go (some ts) q =
              image_by_lem heads_few (some ts) q
              ∙ ap (λ (b : Bool). cond b (some (content_with ts)) none)
              (ok_by ts q
              ∙ ap (λ (b : Bool). b && (every (outline_ok (be16 s 10) (be32 s 6)) (map outline_in ts) && distinct (map outline_in ts))) e)
              ∙ both ts (every (outline_ok (be16 s 10) (be32 s 6)) (map outline_in ts)) refl

-- what was listed
pub list_none : (y : Option (List Saved)) → listed_of y ≡ None → y ≡ none
list_none none e = refl
list_none (some ts) e = clash (cc)

pub list_some : (y : Option (List Saved)) (x : List TxHead) → listed_of y ≡ Some x → (ts : List Saved) × (y ≡ some ts) × (x ≡ tx_heads ts)
list_some none x e = clash (cc)
list_some (some ts) x e = (ts, refl, cc)

-- of those, the rules are kept
pub ruled_some : (last assigned : ℕ) (y : Option (List Saved)) (ts : List Saved) → ruled last assigned y ≡ some ts → y ≡ some ts
ruled_some last assigned none ts e = clash (cc)
ruled_some last assigned (some us) ts e = go (every (outline_ok last assigned) (map outline_in us)) e
  where
    go : (b : Bool) → cond b (some us) none ≡ some ts → some us ≡ some ts
    go true f = f
    go false f = clash (cc)
