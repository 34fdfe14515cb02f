-- The stores of an image's parts, and a turn of each loop over them.
use Prim.Native.Nat.{ℕ, ◌+◌, ◌-◌, ◌*◌, ◌<◌}
use native.Mathlib.Omega.{arith}
use native.Mathlib.Numerals.{towards_suc}
use mathlib.Core.List.{List, ◌++◌}
use mathlib.Core.Path.{◌≡◌, refl, sym, ap, ap₂, ◌∙◌}
use lib.ListN.{length, get_or, take, drop, set}
use lib.Seq.{sets}
use Rattle.recovery.specs.Group.{Write}
use Rattle.redolog.specs.Number.{bytes16, bytes32}
use Rattle.redolog.specs.Flat.{writes_from}
use Rattle.redolog.proofs.StoreLaws.{sets_append}
use Rattle.redolog.proofs.FlatLaws.{turn_size, turn_stores}
use Rattle.transaction.specs.declared.Tx.{Tx}
use Rattle.transaction.specs.Lists.{up_from}
use Rattle.transaction.proofs.Lists.{up_turn}
use Rattle.image.specs.Content.{Saved, saved, Content, saved_at}
use Rattle.image.specs.Format.{encode_head, encode_tx_head, encode_undo, encode_undos, encode_tx, encode_txs, encode_content, undos_size, tx_size}
use Rattle.image.specs.Format.{txs_size}
use Rattle.image.proofs.Sizes.{length_undo, length_tx}

-- ---- stores one after the other

tx_head_stores : (b₀ b₁ b₂ : List ℕ) (at id status csn n : ℕ) (us : List Write) → b₁ ≡ sets b₀ at (bytes16 id)
    → b₂ ≡ sets (set b₁ (at + 2) status) (at + 3) (bytes32 csn) → length us ≡ n → set b₂ (at + 7) n ≡ sets b₀ at (encode_tx_head (saved id status csn us))
tx_head_stores b₀ b₁ b₂ at id status csn n us e₁ e₂ l = rw (e₂, e₁, l) (simp towards_suc)

pub tx_stores : (b₀ b₁ b₂ b₃ : List ℕ) (at id status csn n : ℕ) (us : List Write) → b₁ ≡ sets b₀ at (bytes16 id)
    → b₂ ≡ sets (set b₁ (at + 2) status) (at + 3) (bytes32 csn) → b₃ ≡ sets (set b₂ (at + 7) n) (at + 8) (encode_undos us) → length us ≡ n
    → b₃ ≡ sets b₀ at (encode_tx (saved id status csn us))
tx_stores b₀ b₁ b₂ b₃ at id status csn n us e₁ e₂ e₃ l =
    e₃
    ∙ ap (λ (b : List ℕ). sets b (at + 8) (encode_undos us)) (tx_head_stores b₀ b₁ b₂ at id status csn n us e₁ e₂ l)
    ∙ sym (sets_append b₀ at (encode_tx_head (saved id status csn us)) (encode_undos us))

pub image_stores_lem : (b₀ b₁ b₂ b₃ : List ℕ) (c : Content) (m : List ℕ) → length m ≡ 4096 → b₁ ≡ sets b₀ 0 (encode_head c) → b₂ ≡ sets b₁ 13 m
    → b₃ ≡ sets b₂ 4109 (encode_txs c.txs) → b₃ ≡ sets b₀ 0 (encode_content c m)
image_stores_lem b₀ b₁ b₂ b₃ c m l e₁ e₂ e₃ =
    let txs = encode_txs c.txs in
    let d : 13 + length m ≡ 4109 = omega arith in
    e₃
    ∙ ap (λ (b : List ℕ). sets b 4109 txs) (e₂ ∙ ap (λ (b : List ℕ). sets b 13 m) e₁)
    ∙ sym
    (sets_append b₀ 0 (encode_head c) (m ++ txs)
    ∙ sets_append (sets b₀ 0 (encode_head c)) 13 m txs
    ∙ ap (λ (k : ℕ). sets (sets (sets b₀ 0 (encode_head c)) 13 m) k txs) d)

-- ---- a turn at i of the loop over records, where the part of the bytes that is lent has as many bytes as it should

module _ (addr len bytes : List ℕ) (n i : ℕ) (h : i < n)
    (p : length (take (i * 32 + get_or len i 0 - i * 32) (drop (i * 32) bytes)) ≡ i * 32 + get_or len i 0 - i * 32) where
  pub undo_size_lem : undos_size (writes_from addr len bytes (n - i) i) ≡ 3 + get_or len i 0 + undos_size (writes_from addr len bytes (n - (i + 1)) (i + 1))
  undo_size_lem = turn_size addr len bytes n i h p 3 undos_size (λ u us. refl)

  pub undo_turn : (o : ℕ) (b c : List ℕ)
      → c ≡ sets b o (encode_undo (record { addr = get_or addr i 0; bytes = take (i * 32 + get_or len i 0 - i * 32) (drop (i * 32) bytes) }))
      → sets b o (encode_undos (writes_from addr len bytes (n - i) i))
      ≡ sets c (o + (3 + get_or len i 0)) (encode_undos (writes_from addr len bytes (n - (i + 1)) (i + 1)))
  undo_turn = turn_stores addr len bytes n i h p 3 encode_undo encode_undos (λ u us. refl) length_undo

-- ---- a turn of the loop over transactions

module _ (txs : List Tx) (n i : ℕ) (h : i < n) where
  pub tx_size_lem : txs_size (up_from (saved_at txs) (n - i) i) ≡ tx_size (saved_at txs i) + txs_size (up_from (saved_at txs) (n - (i + 1)) (i + 1))
  tx_size_lem = ap txs_size (up_turn (saved_at txs) n i h)

  pub tx_turn : (o q : ℕ) (b c : List ℕ) → q ≡ o + tx_size (saved_at txs i) → c ≡ sets b o (encode_tx (saved_at txs i))
      → sets b o (encode_txs (up_from (saved_at txs) (n - i) i)) ≡ sets c q (encode_txs (up_from (saved_at txs) (n - (i + 1)) (i + 1)))
  tx_turn o q b c z e =
      let ts = encode_txs (up_from (saved_at txs) (n - (i + 1)) (i + 1)) in
      let t = saved_at txs i in
      ap (λ (vs : List Saved). sets b o (encode_txs vs)) (up_turn (saved_at txs) n i h)
      ∙ sets_append b o (encode_tx t) ts
      ∙ ap₂ (λ (m : List ℕ) (k : ℕ). sets m k ts) (sym e) (ap (λ (k : ℕ). o + k) (length_tx t) ∙ sym z)
