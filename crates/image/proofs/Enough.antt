-- Number 4 "under the stated condition alone": a slot of 8,653 bytes has bytes enough for any reading. Whatever stands behind the slot, the
-- reading is the same, so that one that fails does so for a broken rule, never for want of bytes.
use Prim.Native.Nat.{ℕ, zero, suc, ◌+◌, ◌*◌, ◌≤◌, ◌<◌}
use native.Mathlib.Omega.{arith}
use mathlib.Core.Bool.{Bool, true, false, cond, ◌&&◌}
use mathlib.Core.List.{List, ◌++◌}
use mathlib.Core.Option.{Option, none, some}
use mathlib.Core.Path.{◌≡◌, refl, sym, ap, ap₂, ◌∙◌}
use lib.ListN.{length, get_or, take, drop, get_or-append, length-append, length-drop}
use lib.Seq.{take-append-le, drop-append-le}
use lib.Dec.{leb}
use borrow.Author.Tests.{le-leb, leb-true, leb-false}
use Rattle.layout.specs.{image_len}
use Rattle.recovery.specs.Group.{Write}
use Rattle.redolog.specs.Number.{be16, be32}
use Rattle.redolog.specs.Record.{in_range}
use Rattle.redolog.specs.Group.{and_then}
use Rattle.transaction.proofs.RangeLaws.{in_range_lem}
use Rattle.image.specs.Content.{Saved}
use Rattle.image.specs.Format.{undos_in, undos_size, tx_size}
use Rattle.image.specs.Reading.{undo_here, first_undo, read_undos, saved_if, read_tx, on_tx, read_txs, content_if, read_content, keeping_rules, read_image}
use Rattle.image.proofs.Pushing.{UndosOk, undos_few, undos_ranged}
use Rattle.image.proofs.Readings.{here_within, here_ranged}
use Rattle.image.proofs.TxReadings.{tx_inv, tx_kept, tx_many, tx_undos, content_many, content_txs}
use Rattle.image.proofs.Sizes.{undos_small}

-- ---- with x behind: the numbers

module _ (x t : List ℕ) where
  at_more : (i : ℕ) → i < length t → get_or (t ++ x) i 0 ≡ get_or t i 0
  at_more i h = get_or-append t x 0 i h

  be16_more : (i : ℕ) → i + 2 ≤ length t → be16 (t ++ x) i ≡ be16 t i
  be16_more i h = ap₂ (λ (a b : ℕ). a * 256 + b) (at_more i (omega arith)) (at_more (i + 1) (omega arith))

  be32_more : (i : ℕ) → i + 4 ≤ length t → be32 (t ++ x) i ≡ be32 t i
  be32_more i h = ap₂ (λ (a b : ℕ). a * 65536 + b) (be16_more i (omega arith)) (be16_more (i + 2) (omega arith))

  -- ---- an undo record, of 35 bytes at most

  here_more : 35 ≤ length t → undo_here (t ++ x) ≡ undo_here t
  unfolding undo_here
  here_more h =
      ap₂ (λ (a n : ℕ). in_range a n && leb (3 + n) (length (t ++ x))) (be16_more 0 (omega arith)) (at_more 2 (omega arith))
      ∙ go (in_range (be16 t 0) (get_or t 2 0)) refl
    where
      go : (b : Bool) → in_range (be16 t 0) (get_or t 2 0) ≡ b → b && leb (3 + get_or t 2 0) (length (t ++ x)) ≡ b && leb (3 + get_or t 2 0) (length t)
      go true e =
          let n = (in_range_lem (be16 t 0) (get_or t 2 0) e).1 in
          le-leb (3 + get_or t 2 0) (length (t ++ x)) (omega (arith, n, h, length-append t x)) ∙ sym (le-leb (3 + get_or t 2 0) (length t) (omega (arith, n, h)))
      go false e = refl

  first_more : undo_here t ≡ true → first_undo (t ++ x) ≡ first_undo t
  first_more e =
      let w = here_within t e in
      let b : take (get_or t 2 0) (drop 3 t ++ x) ≡ take (get_or t 2 0) (drop 3 t) = take-append-le (get_or t 2 0) (drop 3 t) x (simp length-drop (omega arith)) in
      ap₂ (λ (a : ℕ) (bs : List ℕ). record { addr = a; bytes = bs }) (be16_more 0 (omega arith))
      (ap₂ (λ (n : ℕ) (l : List ℕ). take n l) (at_more 2 (omega arith)) (drop-append-le 3 t x (omega arith)) ∙ b)

  next_more : undo_here t ≡ true → drop (3 + get_or (t ++ x) 2 0) (t ++ x) ≡ drop (3 + get_or t 2 0) t ++ x
  next_more e =
      let w = here_within t e in
      ap (λ (n : ℕ). drop (3 + n) (t ++ x)) (at_more 2 (omega arith)) ∙ drop-append-le (3 + get_or t 2 0) t x w

module _ (x : List ℕ) where
  undos_more : (n : ℕ) (t : List ℕ) → 35 * n ≤ length t → read_undos n (t ++ x) ≡ read_undos n t
  undos_more zero t h = refl
  undos_more (suc n) t h =
      ap (λ (b : Bool). cond b (and_then (first_undo (t ++ x)) (read_undos n (drop (3 + get_or (t ++ x) 2 0) (t ++ x)))) none) (here_more x t (omega arith))
      ∙ go (undo_here t) refl (undos_more n)
    where
      go : (b : Bool) → undo_here t ≡ b → ((r : List ℕ) → 35 * n ≤ length r → read_undos n (r ++ x) ≡ read_undos n r)
          → cond b (and_then (first_undo (t ++ x)) (read_undos n (drop (3 + get_or (t ++ x) 2 0) (t ++ x)))) none
          ≡ cond b (and_then (first_undo t) (read_undos n (drop (3 + get_or t 2 0) t))) none
      go true e ih =
          let m = (in_range_lem (be16 t 0) (get_or t 2 0) (here_ranged t e)).1 in
          ap₂ (λ (u : Write) (y : Option (List Write)). and_then u y) (first_more x t e)
          (ap (read_undos n) (next_more x t e) ∙ ih (drop (3 + get_or t 2 0) t) (simp length-drop (omega arith)))
      go false e ih = refl

-- ---- a transaction, of 8 + 16 × 35 bytes at most

tx_bound : (t : List ℕ) (v : Saved) → read_tx t ≡ some v → (tx_size v ≤ length t) × (tx_size v ≤ 568)
tx_bound t v e = let k = tx_kept t v (tx_inv t v e) in (k.0, small (undos_in v) k.1)
  where
    small : (us : List Write) → UndosOk us → 8 + undos_size us ≤ 568
    small us k = let n = undos_few us k in let h = undos_small us (undos_ranged us k) in omega arith

module _ (x t : List ℕ) (h : 568 ≤ length t) where
  longer : 568 ≤ length (t ++ x)
  longer = omega (arith, length-append t x, h)

  tx_more : read_tx (t ++ x) ≡ read_tx t
  tx_more = go (leb (get_or t 7 0) 16) refl
    where
      count : get_or (t ++ x) 7 0 ≡ get_or t 7 0
      count = at_more x t 7 (omega arith)

      records : get_or t 7 0 ≤ 16 → read_undos (get_or (t ++ x) 7 0) (drop 8 (t ++ x)) ≡ read_undos (get_or t 7 0) (drop 8 t)
      records n =
          ap₂ (λ (k : ℕ) (r : List ℕ). read_undos k r) count (drop-append-le 8 t x (omega arith))
          ∙ undos_more x (get_or t 7 0) (drop 8 t) (simp length-drop (omega arith))

      go : (b : Bool) → leb (get_or t 7 0) 16 ≡ b → read_tx (t ++ x) ≡ read_tx t
      go true e =
          let n = leb-true (get_or t 7 0) 16 e in
          let l = longer in
          tx_undos (t ++ x) (omega arith) (omega (arith, n, count))
          ∙ ap₂ (λ (i : ℕ) (y : Option (List Write)). saved_if i (get_or (t ++ x) 2 0) (be32 (t ++ x) 3) y) (be16_more x t 0 (omega arith)) (records n)
          ∙ ap₂ (λ (s k : ℕ). saved_if (be16 t 0) s k (read_undos (get_or t 7 0) (drop 8 t))) (at_more x t 2 (omega arith)) (be32_more x t 3 (omega arith))
          ∙ sym (tx_undos t (omega arith) n)
      go false e =
          let n = leb-false (get_or t 7 0) 16 e in
          let l = longer in
          tx_many (t ++ x) (omega arith) (omega (arith, n, count)) ∙ sym (tx_many t (omega arith) n)

module _ (x : List ℕ) where
  txs_more : (n : ℕ) (t : List ℕ) → 568 * n ≤ length t → read_txs n (t ++ x) ≡ read_txs n t
  txs_more zero t h = refl
  txs_more (suc n) t h = ap (on_tx (read_txs n) (t ++ x)) (tx_more x t (omega arith)) ∙ go (read_tx t) refl (txs_more n)
    where
      go : (y : Option Saved) → read_tx t ≡ y → ((r : List ℕ) → 568 * n ≤ length r → read_txs n (r ++ x) ≡ read_txs n r)
          → on_tx (read_txs n) (t ++ x) y ≡ on_tx (read_txs n) t y
      go none e ih = refl
      go (some v) e ih =
          let b = tx_bound t v e in
          ap (and_then v) (ap (read_txs n) (drop-append-le (tx_size v) t x b.0) ∙ ih (drop (tx_size v) t) (simp length-drop (omega arith)))

-- ---- the whole, of 4,109 + 8 × 568 bytes at most

module _ (s x : List ℕ) (h : image_len ≤ length s) where
  content_more : read_content (s ++ x) ≡ read_content s
  content_more = go (leb (get_or s 12 0) 8) refl
    where
      l : 4109 ≤ length (s ++ x)
      l = omega (arith, length-append s x, h)

      count : get_or (s ++ x) 12 0 ≡ get_or s 12 0
      count = at_more x s 12 (omega arith)

      txs : get_or s 12 0 ≤ 8 → read_txs (get_or (s ++ x) 12 0) (drop 4109 (s ++ x)) ≡ read_txs (get_or s 12 0) (drop 4109 s)
      txs n =
          ap₂ (λ (k : ℕ) (r : List ℕ). read_txs k r) count (drop-append-le 4109 s x (omega arith))
          ∙ txs_more x (get_or s 12 0) (drop 4109 s) (simp length-drop (omega arith))

      go : (b : Bool) → leb (get_or s 12 0) 8 ≡ b → read_content (s ++ x) ≡ read_content s
      go true e =
          let n = leb-true (get_or s 12 0) 8 e in
          content_txs (s ++ x) l (omega (arith, n, count))
          ∙ ap (content_if (be16 (s ++ x) 0) (be32 (s ++ x) 2) (be32 (s ++ x) 6) (be16 (s ++ x) 10)) (txs n)
          ∙ ap₂ (λ (a b : ℕ). content_if a b (be32 (s ++ x) 6) (be16 (s ++ x) 10) (read_txs (get_or s 12 0) (drop 4109 s))) (be16_more x s 0 (omega arith))
          (be32_more x s 2 (omega arith))
          ∙ ap₂ (λ (a b : ℕ). content_if (be16 s 0) (be32 s 2) a b (read_txs (get_or s 12 0) (drop 4109 s))) (be32_more x s 6 (omega arith))
          (be16_more x s 10 (omega arith))
          ∙ sym (content_txs s (omega arith) n)
      go false e =
          let n = leb-false (get_or s 12 0) 8 e in
          content_many (s ++ x) l (omega (arith, n, count)) ∙ sym (content_many s (omega arith) n)

  pub never_short : read_image (s ++ x) ≡ read_image s
  never_short = ap keeping_rules content_more
