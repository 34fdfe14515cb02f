-- Step 1 by cases, what the code hands on of it, and which disks open alike.
use Prim.Native.Nat.{ℕ, ◌+◌, ◌-◌, ◌≤◌, ◌<◌}
use native.Mathlib.Omega.{arith}
use mathlib.Core.Bool.{Bool, true, false, cond}
use mathlib.Core.List.{List}
use mathlib.Core.Path.{◌≡◌, refl, sym, ap, ap₂, ◌∙◌, subst}
use lib.ListN.{length, take, drop, replicate, length-take, length-drop, length-replicate}
use lib.Seq.{drop-drop, take_all, length-take-le}
use lib.Dec.{eqb, ltb}
use borrow.Author.Tests.{eq-eqb, ne_eqb, eqb-true, lt-ltb, le-ltb, ltb-true, ltb-false}
use Rattle.std.specs.Prelude.{Option, Some, None, Ok, Err}
use Rattle.layout.specs.declared.refusal.Refusal.{Refusal}
use Rattle.layout.specs.Refusal.{number_of}
use Rattle.layout.specs.Parts.{part, pointer_of, image_at, image_part, log_part}
use Rattle.redolog.specs.Stores.{Store, apply}
use Rattle.redolog.proofs.Basics.{clash}
use Rattle.redolog.proofs.PartLaws.{moved, Within, outside_take, outside_within, part_outside, byte_same}
use Rattle.redolog.proofs.RoundTrip.{drop_take}
use Rattle.image.specs.declared.Image.{Image}
use Rattle.image.specs.declared.read.Heads.{Heads}
use Rattle.image.specs.Rules.{keeps_rules}
use Rattle.image.specs.Reading.{memory_of}
use Rattle.image.specs.Pack.{empty_image}
use Rattle.image.specs.Decode.{decode_of}
use Rattle.image.specs.Heads.{image_by, HeadsFit}
use Rattle.image.proofs.Soundness.{decode_keeps}
use Rattle.image.proofs.Rules.{image_logend}
use Rattle.image.proofs.HeadLaws.{shown_logend}
use Rattle.disk.specs.declared.open.Opened.{Opened}
use Rattle.disk.specs.Layout.{log_from}
use Rattle.disk.specs.Open.{Loaded, no_image, image_named, load_of, OpenedDisk, not_opened, opened_by, of_loaded, open_of}
use Rattle.disk.specs.Heads.{heads_named, or_blank, HandedOn, shut_by, parts_in, opened_of, handed_on}
use Rattle.disk.proofs.Loading.{slot_within, txs_part, named, not_named}

-- ---- the log

pub log_length : (disk : List ℕ) → length disk ≡ 33691 → length (log_part disk) ≡ 16384
log_length disk d = length-take-le 16384 (drop 17307 disk) (rw (length-drop 17307 disk) (omega arith))

-- a disk of its length ends with the log
pub log_last : (at : ℕ) (disk : List ℕ) → length disk ≡ 33691 → log_from at disk ≡ drop (17307 + at) disk
log_last at disk d =
    ap (drop at) (take_all 16384 (drop 17307 disk) (rw (length-drop 17307 disk) (omega arith))) ∙ drop-drop at 17307 disk

-- as it is lent, from a place of it to its end
pub log_lent : (at : ℕ) (disk : List ℕ) → at ≤ 16384 → part (17307 + at) (33691 - (17307 + at)) disk ≡ log_from at disk
log_lent at disk h =
    let n : 33691 - (17307 + at) ≡ 16384 - at = omega arith in
    let k : at + (16384 - at) ≡ 16384 = omega (arith, h) in
    ap (λ (j : ℕ). take j (drop (17307 + at) disk)) n
    ∙ ap (take (16384 - at)) (sym (drop-drop at 17307 disk))
    ∙ sym (drop_take at (16384 - at) (drop 17307 disk))
    ∙ ap (λ (j : ℕ). drop at (take j (drop 17307 disk))) k

pub log_short : (at : ℕ) (disk : List ℕ) → length (log_from at disk) ≤ 16384 - at
log_short at disk = omega (arith, length-drop at (take 16384 (drop 17307 disk)), length-take 16384 (drop 17307 disk))

-- ---- by cases

pub shut_3 : (disk : List ℕ) → 2 < pointer_of disk → open_of disk ≡ not_opened 3
unfolding open_of
shut_3 disk h = rw (lt-ltb 2 (pointer_of disk) h)

module _ (disk : List ℕ) (p : pointer_of disk ≤ 2) where
  pub shut_4 : (load_of (pointer_of disk) disk).decoded.ok ≡ false → open_of disk ≡ not_opened 4
  unfolding open_of
  shut_4 e = rw (le-ltb 2 (pointer_of disk) p, e)

  pub open_is : (load_of (pointer_of disk) disk).decoded.ok ≡ true → open_of disk ≡ opened_by (load_of (pointer_of disk) disk) disk
  unfolding open_of
  open_is e = rw (le-ltb 2 (pointer_of disk) p, e)

not_opened_lem : (n : ℕ) → (not_opened n).number ≡ n
unfolding not_opened
not_opened_lem n = refl

-- nothing refuses
pub record IsOpen (disk : List ℕ) : Type 0 where
  pub low : pointer_of disk ≤ 2
  pub ok : (load_of (pointer_of disk) disk).decoded.ok ≡ true
  pub is : open_of disk ≡ opened_by (load_of (pointer_of disk) disk) disk

data Ways (disk : List ℕ) : Type 0 where
  shut : (n : ℕ) → 0 < n → open_of disk ≡ not_opened n → Ways disk
  opened : IsOpen disk → Ways disk

ways : (disk : List ℕ) → Ways disk
ways disk = first (ltb 2 (pointer_of disk)) refl
  where
    second : pointer_of disk ≤ 2 → (b : Bool) → (load_of (pointer_of disk) disk).decoded.ok ≡ b → Ways disk
    second p true t = opened (record { low = p; ok = t; is = open_is disk p t })
    second p false t = shut 4 (omega arith) (shut_4 disk p t)

    first : (b : Bool) → ltb 2 (pointer_of disk) ≡ b → Ways disk
    first true t = shut 3 (omega arith) (shut_3 disk (ltb-true 2 (pointer_of disk) t))
    first false t = second (ltb-false 2 (pointer_of disk) t) (load_of (pointer_of disk) disk).decoded.ok refl

pub open_inv : (disk : List ℕ) → (open_of disk).number ≡ 0 → IsOpen disk
open_inv disk e = go (ways disk)
  where
    go : Ways disk → IsOpen disk
    go (shut n h o) = absurd (omega (arith, h, e, ap (λ (x : OpenedDisk). x.number) o, not_opened_lem n))
    go (opened o) = o

-- refused, memory is zero
pub shut_memory : (disk : List ℕ) → ((open_of disk).number ≡ 0 → ⊥) → (open_of disk).memory ≡ replicate 4096 0
unfolding not_opened
shut_memory disk e = go (ways disk)
  where
    go : Ways disk → (open_of disk).memory ≡ replicate 4096 0
    go (shut n h o) = ap (λ (x : OpenedDisk). x.memory) o
    go (opened o) = absurd (e (ap (λ (x : OpenedDisk). x.number) o.is))

-- what is loaded keeps the image rules
loaded_keeps : (pointer : ℕ) (disk : List ℕ) → (load_of pointer disk).decoded.ok ≡ true → keeps_rules (load_of pointer disk).decoded.image ≡ true
unfolding load_of empty_image
loaded_keeps pointer disk = go (eqb pointer 0)
  where
    go : (b : Bool) → (cond b no_image (image_named pointer disk)).decoded.ok ≡ true
        → keeps_rules (cond b no_image (image_named pointer disk)).decoded.image ≡ true
    go true e = refl
    go false e = decode_keeps (image_part pointer disk) e

loaded_length : (pointer : ℕ) (disk : List ℕ) → length disk ≡ 33691 → length (load_of pointer disk).memory ≡ 4096
unfolding load_of memory_of
loaded_length pointer disk d = go (eqb pointer 0)
  where
    go : (b : Bool) → length (cond b no_image (image_named pointer disk)).memory ≡ 4096
    go true = length-replicate {A = ℕ} 4096 0
    go false =
        let s = slot_within pointer in
        let a : length (image_part pointer disk) ≡ 8653 =
        length-take-le 8653 (drop (image_at pointer) disk) (rw (length-drop (image_at pointer) disk) (omega arith)) in
        length-take-le 4096 (drop 13 (image_part pointer disk)) (rw (length-drop 13 (image_part pointer disk)) (omega arith))

module _ (disk : List ℕ) (e : (open_of disk).number ≡ 0) where
  pub opened_rules : keeps_rules (open_of disk).image ≡ true
  opened_rules =
      let o = open_inv disk e in
      ap (λ (x : OpenedDisk). keeps_rules x.image) o.is ∙ loaded_keeps (pointer_of disk) disk o.ok

  pub opened_memory : length disk ≡ 33691 → length (open_of disk).memory ≡ 4096
  opened_memory d = ap (λ (x : OpenedDisk). length x.memory) (open_inv disk e).is ∙ loaded_length (pointer_of disk) disk d

  pub opened_log : (open_of disk).log ≡ log_from (open_of disk).image.logend disk
  opened_log = let is = (open_inv disk e).is in ap (λ (x : OpenedDisk). x.log) is ∙ sym (ap (λ (x : OpenedDisk). log_from x.image.logend disk) is)

-- ---- what the code hands on

pub handed_shut : (disk : List ℕ) (n : ℕ) → 0 < n → open_of disk ≡ not_opened n → opened_of disk ≡ shut_by n
unfolding opened_of
handed_shut disk n h e =
    let k : (open_of disk).number ≡ n = ap (λ (x : OpenedDisk). x.number) e ∙ not_opened_lem n in
    rw (k, ne_eqb n 0 (λ z. omega (arith, h, z)))

pub handed_parts : (disk : List ℕ) → (open_of disk).number ≡ 0 → opened_of disk ≡ parts_in disk
unfolding opened_of
handed_parts disk e = rw (eq-eqb (open_of disk).number 0 e)

pub handed_number : (disk : List ℕ) → (opened_of disk).number ≡ (open_of disk).number
unfolding opened_of shut_by
handed_number disk = go (eqb (open_of disk).number 0) refl
  where
    go : (b : Bool) → eqb (open_of disk).number 0 ≡ b → (cond b (parts_in disk) (shut_by (open_of disk).number)).number ≡ (open_of disk).number
    go true e = sym (eqb-true (open_of disk).number 0 e)
    go false e = refl

pub shut_zeros : (disk : List ℕ) (n : ℕ) → open_of disk ≡ not_opened n → (open_of disk).memory ≡ replicate 4096 0
unfolding not_opened
shut_zeros disk n e = ap (λ (x : OpenedDisk). x.memory) e

-- refused, it tells by which number
pub handed_not : (disk : List ℕ) (r : Refusal) → handed_on (Err r) ≡ opened_of disk → (open_of disk).number ≡ number_of r
unfolding shut_by
handed_not disk r e = sym (ap (λ (o : HandedOn). o.number) e ∙ handed_number disk)

-- else the heads show the image by the bytes of its transactions, and the log is that from its place on
pub record Handed (o : HandedOn) (disk : List ℕ) : Type 0 where
  pub shows : HeadsFit o.heads o.txs
  pub image : image_by o.heads o.txs ≡ (open_of disk).image
  pub logend : o.heads.counters.logend ≡ (open_of disk).image.logend
  pub log : o.log ≡ (open_of disk).log

pub handed : (disk : List ℕ) → (open_of disk).number ≡ 0 → Handed (opened_of disk) disk
handed disk e = subst (λ (o : HandedOn). Handed o disk) (sym (handed_parts disk e)) (go (heads_named p disk) refl)
  where
    p : ℕ
    p = pointer_of disk

    o : IsOpen disk
    o = open_inv disk e

    go : (h : Option Heads) → heads_named p disk ≡ h → Handed (parts_in disk) disk
    go None q = let z : false ≡ true = sym (not_named p disk q) ∙ o.ok in clash (cc)
    go (Some h) q =
        let n = named p disk h q in
        let i : image_by h (txs_part p disk) ≡ (open_of disk).image = n.image ∙ sym (ap (λ (x : OpenedDisk). x.image) o.is) in
        rw q (record {
          shows = n.shows;
          image = i;
          logend = sym (shown_logend h (txs_part p disk)) ∙ ap (λ (x : Image). x.logend) i;
          log = sym (opened_log disk e);
        })

-- the same of what the code answers
pub record HandedOk (o : Opened) (disk : List ℕ) : Type 0 where
  pub opened : (open_of disk).number ≡ 0
  pub shows : HeadsFit o.heads o.txs.now
  pub image : image_by o.heads o.txs.now ≡ (open_of disk).image
  pub logend : o.heads.counters.logend ≡ (open_of disk).image.logend
  pub log : o.log.now ≡ (open_of disk).log

pub handed_ok : (disk : List ℕ) (o : Opened) → handed_on (Ok o) ≡ opened_of disk → HandedOk o disk
handed_ok disk o e =
    let z : (open_of disk).number ≡ 0 = sym (ap (λ (x : HandedOn). x.number) e ∙ handed_number disk) in
    let s = subst (λ (x : HandedOn). Handed x disk) (sym e) (handed disk z) in
    record { opened = z; shows = s.shows; image = s.image; logend = s.logend; log = s.log }

-- the code, with the heads that it read: what it hands on, and what it has in memory
pub record LoadedAs (disk : List ℕ) (h : Heads) : Type 0 where
  pub within : h.counters.logend ≤ 16384
  pub memory : (load_of (pointer_of disk) disk).memory ≡ (open_of disk).memory
  pub is : record { number = 0; heads = h; txs = txs_part (pointer_of disk) disk; log = log_from h.counters.logend disk } ≡ opened_of disk

pub loaded : (disk : List ℕ) → pointer_of disk ≤ 2 → (h : Heads) → heads_named (pointer_of disk) disk ≡ Some h → LoadedAs disk h
loaded disk p h e =
    let n = named (pointer_of disk) disk h e in
    let is = open_is disk p n.ok in
    let z : (open_of disk).number ≡ 0 = ap (λ (x : OpenedDisk). x.number) is in
    let l : h.counters.logend ≡ (open_of disk).image.logend =
    sym (shown_logend h (txs_part (pointer_of disk) disk)) ∙ ap (λ (x : Image). x.logend) (n.image ∙ sym (ap (λ (x : OpenedDisk). x.image) is)) in
    record {
      within = omega (arith, l, image_logend (open_of disk).image (opened_rules disk z));
      memory = sym (ap (λ (x : OpenedDisk). x.memory) is);
      is = ap₂ (λ (g : Heads) (i : ℕ). record { number = 0; heads = g; txs = txs_part (pointer_of disk) disk; log = log_from i disk }) (sym (ap or_blank e)) l
          ∙ sym (handed_parts disk z);
    }

-- ---- disks that open alike, but for the log

pub record OpenAlike (x y : List ℕ) : Type 0 where
  pub number : (open_of x).number ≡ (open_of y).number
  pub image : (open_of x).image ≡ (open_of y).image
  pub memory : (open_of x).memory ≡ (open_of y).memory

abbrev chosen : ℕ → Loaded → List ℕ → OpenedDisk
chosen pointer l disk = cond (ltb 2 pointer) (not_opened 3) (of_loaded l disk)

pub open_alike : (x y : List ℕ) → pointer_of x ≡ pointer_of y → image_part (pointer_of y) x ≡ image_part (pointer_of y) y → OpenAlike x y
unfolding load_of open_of
open_alike x y p e =
    let q = pointer_of y in
    let l : load_of (pointer_of x) x ≡ load_of q y =
    ap (λ (j : ℕ). load_of j x) p ∙ ap (λ (s : List ℕ). cond (eqb q 0) no_image (record { decoded = decode_of s; memory = memory_of s })) e in
    let o : open_of x ≡ chosen q (load_of q y) x = ap (λ (j : ℕ). chosen j (load_of (pointer_of x) x) x) p ∙ ap (λ (z : Loaded). chosen q z x) l in
    let s = same (ltb 2 q) (load_of q y).decoded.ok (load_of q y) in
    record {
      number = ap (λ (z : OpenedDisk). z.number) o ∙ s.0;
      image = ap (λ (z : OpenedDisk). z.image) o ∙ s.1;
      memory = ap (λ (z : OpenedDisk). z.memory) o ∙ s.2;
    }
  where
    picked : Bool → Bool → Loaded → List ℕ → OpenedDisk
    picked b c l disk = cond b (not_opened 3) (cond c (opened_by l disk) (not_opened 4))

    same : (b c : Bool) (l : Loaded)
        → ((picked b c l x).number ≡ (picked b c l y).number) × ((picked b c l x).image ≡ (picked b c l y).image) × ((picked b c l x).memory ≡ (picked b c l y).memory)
    same true c l = (refl, refl, refl)
    same false true l = (refl, refl, refl)
    same false false l = (refl, refl, refl)

-- stores into the log
pub log_stores_alike : (k : ℕ) (ss : List Store) (disk : List ℕ) → Within 16384 ss → OpenAlike (apply (take k (moved 17307 ss)) disk) disk
log_stores_alike k ss disk w =
    let left = apply (take k (moved 17307 ss)) disk in
    let kept : (at n : ℕ) → at + n ≤ 17307 → part at n left ≡ part at n disk =
    λ at n h. part_outside at n (take k (moved 17307 ss)) disk (outside_take at n k (moved 17307 ss) (outside_within at n 17307 16384 ss w (λ l. h))) in
    open_alike left disk (byte_same 0 1 left disk (omega arith) (kept 0 1 (omega arith)))
    (kept (image_at (pointer_of disk)) 8653 (omega (arith, slot_within (pointer_of disk))))
