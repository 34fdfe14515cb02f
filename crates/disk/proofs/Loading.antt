-- The image that a pointer byte names, and the bytes that are taken of it.
use Prim.Native.Nat.{ℕ, ◌+◌, ◌-◌, ◌≤◌}
use native.Mathlib.Omega.{arith}
use mathlib.Core.Bool.{Bool, true, false, cond}
use mathlib.Core.List.{List}
use mathlib.Core.Option.{Option, none, some}
use mathlib.Core.Path.{◌≡◌, refl, sym, ap, ◌∙◌, subst}
use lib.ListN.{take, drop}
use lib.Seq.{take-take, drop-drop}
use lib.Dec.{eqb}
use borrow.Author.Tests.{ne_eqb}
use Rattle.std.specs.Prelude.{Some, None}
use Rattle.layout.specs.Parts.{image_at, image_part}
use Rattle.redolog.proofs.RoundTrip.{drop_take}
use Rattle.redolog.proofs.Basics.{clash}
use Rattle.image.specs.declared.read.Heads.{Heads}
use Rattle.image.specs.Content.{Content}
use Rattle.image.specs.Reading.{memory_of, read_image}
use Rattle.image.specs.Decode.{Decoded, not_decoded, decoded_of}
use Rattle.image.specs.Heads.{blank_heads, heads_in, heads_if, heads_of, image_by, HeadsFit}
use Rattle.image.proofs.HeadLaws.{read_shows, read_image_lem, blank_shows, blank_image}
use Rattle.disk.specs.Open.{no_image, image_named, load_of}
use Rattle.disk.specs.Heads.{heads_named}

pub slot_within : (pointer : ℕ) → image_at pointer ≤ 8654
slot_within pointer = go (eqb pointer 1)
  where
    go : (b : Bool) → cond b 1 8654 ≤ 8654
    go true = omega arith
    go false = omega arith

pub load_none : (pointer : ℕ) (disk : List ℕ) → pointer ≡ 0
    → load_of pointer disk ≡ no_image
unfolding load_of
load_none pointer disk e = rw e

pub load_image : (pointer : ℕ) (disk : List ℕ) → (pointer ≡ 0 → ⊥)
    → load_of pointer disk ≡ image_named pointer disk
unfolding load_of
load_image pointer disk n = rw (ne_eqb pointer 0 n)

-- the part of a slice that is lent from a slot on
pub lent : (from a e : ℕ) (disk : List ℕ) → a ≤ e → take (from + e - (from + a)) (drop (from + a) disk) ≡ take (e - a) (drop (from + a) disk)
lent from a e disk h = let z : from + e - (from + a) ≡ e - a = omega arith in ap (λ (n : ℕ). take n (drop (from + a) disk)) z

-- the memory bytes of an image
pub memory_part : (slot : ℕ) (disk : List ℕ) → take 4096 (drop (slot + 13) disk) ≡ memory_of (take 8653 (drop slot disk))
unfolding memory_of
memory_part slot disk =
    sym
    (ap (take 4096) (drop_take 13 8640 (drop slot disk))
    ∙ take-take 4096 8640 (drop 13 (drop slot disk)) (omega arith)
    ∙ ap (take 4096) (drop-drop 13 slot disk))

-- as it is lent
pub memory_loaded : (slot : ℕ) (disk : List ℕ) → take (slot + 4109 - (slot + 13)) (drop (slot + 13) disk) ≡ memory_of (take 8653 (drop slot disk))
memory_loaded slot disk = lent slot 13 4109 disk (omega arith) ∙ memory_part slot disk

-- ---- the heads in place of the image

-- the bytes of its transactions
abbrev pub txs_part : ℕ → List ℕ → List ℕ
txs_part pointer disk = take 4544 (drop (image_at pointer + 4109) disk)

txs_part_lem : (pointer : ℕ) (disk : List ℕ) → drop 4109 (image_part pointer disk) ≡ txs_part pointer disk
txs_part_lem pointer disk = drop_take 4109 4544 (drop (image_at pointer) disk) ∙ ap (take 4544) (drop-drop 4109 (image_at pointer) disk)

pub heads_none : (pointer : ℕ) (disk : List ℕ) → pointer ≡ 0 → heads_named pointer disk ≡ Some blank_heads
unfolding heads_named
heads_none pointer disk e = rw e

pub heads_image : (pointer : ℕ) (disk : List ℕ) → (pointer ≡ 0 → ⊥) → heads_named pointer disk ≡ heads_of (image_part pointer disk)
unfolding heads_named
heads_image pointer disk n = rw (ne_eqb pointer 0 n)

-- they show the image that step 1 takes
pub record Named (h : Heads) (s : List ℕ) (d : Decoded) : Type 0 where
  pub shows : HeadsFit h s
  pub image : image_by h s ≡ d.image
  pub ok : d.ok ≡ true

read_named : (pointer : ℕ) (disk : List ℕ) (y : Option Content) (h : Heads) → read_image (image_part pointer disk) ≡ y → heads_if y ≡ Some h
    → Named h (txs_part pointer disk) (decoded_of y)
read_named pointer disk none h q e = clash (cc)
read_named pointer disk (some c) h q e =
    let k : heads_in c ≡ h = cc in
    subst (λ (g : Heads). Named g (txs_part pointer disk) (decoded_of (some c))) k
    (subst (λ (s : List ℕ). Named (heads_in c) s (decoded_of (some c))) (txs_part_lem pointer disk)
    (record { shows = read_shows (image_part pointer disk) c q; image = read_image_lem (image_part pointer disk) c q; ok = refl }))

pub named : (pointer : ℕ) (disk : List ℕ) (h : Heads) → heads_named pointer disk ≡ Some h → Named h (txs_part pointer disk) (load_of pointer disk).decoded
unfolding heads_named load_of
named pointer disk h = go (eqb pointer 0)
  where
    go : (b : Bool) → cond b (Some blank_heads) (heads_of (image_part pointer disk)) ≡ Some h
        → Named h (txs_part pointer disk) (cond b no_image (image_named pointer disk)).decoded
    go true e =
        let k : blank_heads ≡ h = cc in
        subst (λ (g : Heads). Named g (txs_part pointer disk) no_image.decoded) k
        (record { shows = blank_shows (txs_part pointer disk); image = blank_image (txs_part pointer disk); ok = refl })
    go false e = read_named pointer disk (read_image (image_part pointer disk)) h refl e

pub not_named : (pointer : ℕ) (disk : List ℕ) → heads_named pointer disk ≡ None → (load_of pointer disk).decoded.ok ≡ false
unfolding heads_named load_of not_decoded
not_named pointer disk = go (eqb pointer 0)
  where
    unread : (y : Option Content) → heads_if y ≡ None → (decoded_of y).ok ≡ false
    unread none e = refl
    unread (some c) e = clash (cc)

    go : (b : Bool) → cond b (Some blank_heads) (heads_of (image_part pointer disk)) ≡ None → (cond b no_image (image_named pointer disk)).decoded.ok ≡ false
    go true e = clash (cc)
    go false e = unread (read_image (image_part pointer disk)) e
