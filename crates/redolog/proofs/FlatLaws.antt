-- A turn of a loop that writes records from flat arrays, over plain lists.
use Prim.Native.Nat.{ℕ, suc, ◌+◌, ◌-◌, ◌*◌, ◌<◌}
use native.Mathlib.Omega.{arith}
use native.Mathlib.Numerals.{add-one}
use mathlib.Core.List.{List, ◌∷◌, ◌++◌}
use mathlib.Core.Path.{◌≡◌, refl, sym, ap, ap₂, ◌∙◌}
use lib.ListN.{length, get_or, take, drop}
use lib.Seq.{sets}
use Rattle.recovery.specs.Group.{Write, redo_size}
use Rattle.redolog.specs.Record.{redo, encode}
use Rattle.redolog.specs.Group.{encode_body}
use Rattle.redolog.specs.Flat.{write_at, writes_from}
use Rattle.redolog.proofs.StoreLaws.{sets_append}
use Rattle.redolog.proofs.RoundTrip.{length_encode}

pub writes_step : (addr len bytes : List ℕ) (n i : ℕ) → i < n
    → writes_from addr len bytes (n - i) i ≡ write_at addr len bytes i ∷ writes_from addr len bytes (n - (i + 1)) (i + 1)
writes_step addr len bytes n i h =
    let e : n - i ≡ suc (n - (i + 1)) = omega arith in
    ap (λ (k : ℕ). writes_from addr len bytes k i) e ∙ ap (λ (j : ℕ). write_at addr len bytes i ∷ writes_from addr len bytes (n - (i + 1)) j) (sym (add-one i))

-- A turn at i of a loop that writes what flat arrays hold, record after record, where the part of the bytes that is lent has as many bytes as
-- it should. A record takes k bytes beside its data.
module _ (addr len bytes : List ℕ) (n i : ℕ) (h : i < n)
    (p : length (take (i * 32 + get_or len i 0 - i * 32) (drop (i * 32) bytes)) ≡ i * 32 + get_or len i 0 - i * 32) (k : ℕ) where
  lent : i * 32 + get_or len i 0 - i * 32 ≡ get_or len i 0
  lent = omega arith

  lent_length : length (take (get_or len i 0) (drop (i * 32) bytes)) ≡ get_or len i 0
  lent_length = rw lent at p

  -- the size that is left
  pub turn_size : (size : List Write → ℕ) → ((w : Write) (ws : List Write) → size (w ∷ ws) ≡ k + length w.bytes + size ws)
      → size (writes_from addr len bytes (n - i) i) ≡ k + get_or len i 0 + size (writes_from addr len bytes (n - (i + 1)) (i + 1))
  turn_size size more =
      let ws = writes_from addr len bytes (n - (i + 1)) (i + 1) in
      ap size (writes_step addr len bytes n i h) ∙ more (write_at addr len bytes i) ws ∙ ap (λ (l : ℕ). k + l + size ws) lent_length

  -- the stores that are left, where one encodes a record and all encodes them one after the other
  pub turn_stores : (one : Write → List ℕ) (all : List Write → List ℕ) → ((w : Write) (ws : List Write) → all (w ∷ ws) ≡ one w ++ all ws)
      → ((w : Write) → length (one w) ≡ k + length w.bytes) → (o : ℕ) (b c : List ℕ)
      → c ≡ sets b o (one (record { addr = get_or addr i 0; bytes = take (i * 32 + get_or len i 0 - i * 32) (drop (i * 32) bytes) }))
      → sets b o (all (writes_from addr len bytes (n - i) i)) ≡ sets c (o + (k + get_or len i 0)) (all (writes_from addr len bytes (n - (i + 1)) (i + 1)))
  turn_stores one all split sized o b c e =
      let w = write_at addr len bytes i in
      let ws = writes_from addr len bytes (n - (i + 1)) (i + 1) in
      ap (λ (vs : List Write). sets b o (all vs)) (writes_step addr len bytes n i h)
      ∙ ap (sets b o) (split w ws)
      ∙ sets_append b o (one w) (all ws)
      ∙ ap₂ (λ (m : List ℕ) (l : ℕ). sets m (o + l) (all ws))
      (sym (e ∙ ap (λ (l : ℕ). sets b o (one (record { addr = get_or addr i 0; bytes = take l (drop (i * 32) bytes) }))) lent))
      (sized w ∙ ap (λ (l : ℕ). k + l) lent_length)

-- ---- a group's records

module _ (addr len bytes : List ℕ) (n i : ℕ) (h : i < n)
    (p : length (take (i * 32 + get_or len i 0 - i * 32) (drop (i * 32) bytes)) ≡ i * 32 + get_or len i 0 - i * 32) where
  pub redo_size_lem : redo_size (writes_from addr len bytes (n - i) i) ≡ 7 + get_or len i 0 + redo_size (writes_from addr len bytes (n - (i + 1)) (i + 1))
  redo_size_lem = turn_size addr len bytes n i h p 7 redo_size (λ w ws. refl)

  pub redo_stores : (id csn o : ℕ) (b c : List ℕ)
      → c ≡ sets b o (encode (redo id (record { addr = get_or addr i 0; bytes = take (i * 32 + get_or len i 0 - i * 32) (drop (i * 32) bytes) })))
      → sets b o (encode_body id csn (writes_from addr len bytes (n - i) i))
      ≡ sets c (o + (7 + get_or len i 0)) (encode_body id csn (writes_from addr len bytes (n - (i + 1)) (i + 1)))
  redo_stores id csn = turn_stores addr len bytes n i h p 7 (λ w. encode (redo id w)) (encode_body id csn) (λ w ws. refl) (λ w. length_encode (redo id w))
