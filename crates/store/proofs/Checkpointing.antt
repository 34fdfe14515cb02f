-- Checkpoint: the image rules, its stores as the code makes them, what they leave on the disk, and its cases.
use Prim.Native.Nat.{ℕ, zero, suc, ◌+◌, ◌≤◌, ◌<◌, min}
use native.Mathlib.Omega.{arith}
use mathlib.Core.Bool.{Bool, true, false, cond}
use mathlib.Core.List.{List, [], ◌∷◌, ◌++◌}
use mathlib.Core.Path.{◌≡◌, refl, sym, ap, ap₂, ◌∙◌}
use lib.ListN.{length, take, drop, get_or, set, length-append, length-drop}
use lib.Seq.{sets, sets-eq, length-sets, take_all, take-length, take-append-le, length-take-le, get_or-set_same}
use Rattle.layout.specs.Parts.{part, pointer_of, image_at, image_part, log_part}
use Rattle.redolog.specs.Stores.{Store, store, apply, copies}
use Rattle.redolog.proofs.StoreLaws.{length_copies, copies_cut}
use Rattle.redolog.proofs.PartLaws.{part_copied, outside_take, outside_append, outside_copies, part_outside, byte_same}
use Rattle.image.specs.declared.Image.{Image}
use Rattle.image.specs.Rules.{keeps_rules}
use Rattle.image.specs.Content.{content_of}
use Rattle.image.specs.Format.{encode_image, image_size}
use Rattle.image.proofs.Sizes.{length_content, image_small}
use Rattle.image.proofs.RoundTrip.{encode_used}
use Rattle.store.specs.declared.State.{State}
use Rattle.store.specs.State.{image_of, unrecovered}
use Rattle.store.specs.Answer.{done, cut, tells}
use Rattle.store.specs.Calls.{refusing}
use Rattle.store.specs.Stored.{zeroed}
use Rattle.store.specs.Checkpoint.{stores_at, into_a, target_at, target_name, image_stores, checkpoint_stores, checkpoint_plan, checkpoint_of}
use Rattle.store.proofs.Storing.{disk_number, disk_admitted, stored_refused, stored_cut, stored_done}

-- ---- the stores

apply_append : (xs ys : List Store) (d : List ℕ) → apply (xs ++ ys) d ≡ apply ys (apply xs d)
apply_append [] ys d = refl
apply_append (store i v ∷ xs) ys d = apply_append xs ys (set d i v)

module _ (at name : ℕ) (bytes : List ℕ) where
  pub length_slot : length (stores_at at name bytes) ≡ length bytes + 1
  length_slot = simp (length-append, length_copies) (omega arith)

  module _ (d : List ℕ) (allowed made : ℕ) (e : made ≡ min allowed (length (copies at bytes))) where
    -- the allowance ends within the image, or right after it
    pub slot_short : made ≡ allowed
        → (made ≡ min allowed (length (stores_at at name bytes))) × (apply (take allowed (copies at bytes)) d ≡ apply (take allowed (stores_at at name bytes)) d)
    slot_short h =
        let c = length_copies at bytes in (
          omega (arith, length_slot, c, e, h),
          ap (λ (ss : List Store). apply ss d) (sym (take-append-le allowed (copies at bytes) (store 0 name ∷ []) (omega (arith, e, h)))),
        )

    -- one more store is allowed
    pub slot_whole : (made ≡ allowed → ⊥)
        → (made + 1 ≡ min allowed (length (stores_at at name bytes)))
        × (set (apply (take allowed (copies at bytes)) d) 0 name ≡ apply (take allowed (stores_at at name bytes)) d)
    slot_whole h =
        let c = length_copies at bytes in
        let p : made + 1 ≡ min allowed (length (stores_at at name bytes)) = omega (arith, length_slot, c, e, h) in (
          p,
          sym
              (ap (λ (ss : List Store). apply ss d) (take_all allowed (stores_at at name bytes) (omega (arith, length_slot, c, e, h)))
              ∙ apply_append (copies at bytes) (store 0 name ∷ []) d
              ∙ ap (λ (ss : List Store). set (apply ss d) 0 name) (sym (take_all allowed (copies at bytes) (omega (arith, e, h))))),
        )

-- "only its used bytes", and the pointer byte
pub checkpoint_length : (s : State) (d m : List ℕ) → length m ≡ 4096 → length (checkpoint_stores s d m) ≡ image_size (image_of s) + 1
checkpoint_length s d m l =
    length_slot (target_at (pointer_of d)) (target_name (pointer_of d)) (encode_image (image_of s) m)
    ∙ ap (λ (n : ℕ). n + 1) (length_content (content_of (image_of s)) m l)

-- ---- what stands on the disk after n stores

module _ (s : State) (d m : List ℕ) (n : ℕ) (l : length m ≡ 4096) where
  abbrev bytes : List ℕ
  bytes = encode_image (image_of s) m

  -- cut: the pointer byte is old, and of the slot that it doesn't name the first n bytes are new
  pub checkpoint_part : n ≤ image_size (image_of s) → apply (take n (checkpoint_stores s d m)) d ≡ sets d (target_at (pointer_of d)) (take n bytes)
  checkpoint_part h =
      let p = pointer_of d in
      let c = length_copies (target_at p) bytes in
      let k = length_content (content_of (image_of s)) m l in
      ap (λ (ss : List Store). apply ss d) (take-append-le n (copies (target_at p) bytes) (store 0 (target_name p) ∷ []) (omega (arith, c, k, h)))
      ∙ copies_cut n (target_at p) bytes d

  -- done: the whole image, and the pointer byte names it
  pub checkpoint_whole : image_size (image_of s) < n
      → apply (take n (checkpoint_stores s d m)) d ≡ set (sets d (target_at (pointer_of d)) bytes) 0 (target_name (pointer_of d))
  checkpoint_whole h =
      let p = pointer_of d in
      let c = length_copies (target_at p) bytes in
      let k = length_content (content_of (image_of s)) m l in
      ap (λ (ss : List Store). apply ss d)
      (take_all n (stores_at (target_at p) (target_name p) bytes) (omega (arith, length_slot (target_at p) (target_name p) bytes, k, h)))
      ∙ apply_append (copies (target_at p) bytes) (store 0 (target_name p) ∷ []) d
      ∙ ap (λ (x : List ℕ). set x 0 (target_name p))
      (ap (λ (ss : List Store). apply ss d) (sym (take_all n (copies (target_at p) bytes) (omega (arith, c, k, h))))
      ∙ copies_cut n (target_at p) bytes d
      ∙ ap (sets d (target_at p)) (take_all n bytes (omega (arith, k, h))))

-- the image that a pointer byte names stands beside the place where the next one goes
slots_apart : (pointer n : ℕ) → pointer ≤ 2 → n ≤ 8653 → image_at pointer < target_at pointer + n → image_at pointer + 8653 ≤ target_at pointer
slots_apart zero n l h g = absurd (omega (arith, h, g))
slots_apart (suc zero) n l h g = omega arith
slots_apart (suc (suc zero)) n l h g = absurd (omega (arith, h, g))
slots_apart (suc (suc (suc p))) n l h g = absurd (omega (arith, l))

module _ (s : State) (d m t : List ℕ) (n : ℕ) (z : disk_number s d m t ≡ 0) where
  abbrev left : List ℕ
  left = apply (take n (checkpoint_stores s d m)) d

  abbrev image : List ℕ
  image = encode_image (image_of s) m

  abbrev slot : ℕ
  slot = target_at (pointer_of d)

  slot_range : (1 ≤ slot) × (slot ≤ 8654)
  slot_range = go (into_a (pointer_of d))
    where
      go : (b : Bool) → (1 ≤ image_at (cond b 1 2)) × (image_at (cond b 1 2) ≤ 8654)
      go true = (omega arith, omega arith)
      go false = (omega arith, omega arith)

  image_length_lem : length image ≤ 8653
  image_length_lem =
      let a = disk_admitted s d m t z in
      omega (arith, length_content (content_of (image_of s)) m a.memory, image_small (image_of s) a.fits.image)

  -- the log is not touched
  pub kept_log : log_part left ≡ log_part d
  kept_log =
      let images = outside_copies 17307 16384 slot image (λ h. omega (arith, h, slot_range.1, image_length_lem)) in
      part_outside 17307 16384 (take n (checkpoint_stores s d m)) d
      (outside_take 17307 16384 n (checkpoint_stores s d m)
      (outside_append 17307 16384 (copies slot image) (store 0 (target_name (pointer_of d)) ∷ []) images ((λ h. absurd (omega (arith, h))), tt)))

  -- nor are the pointer byte and the image that it names, before the pointer byte is stored
  module _ (h : n ≤ image_size (image_of s)) where
    kept_part : (at k : ℕ) → (at < slot + length image → at + k ≤ slot) → part at k left ≡ part at k d
    kept_part at k g =
        let c = length_copies slot image in
        let l = length_content (content_of (image_of s)) m (disk_admitted s d m t z).memory in
        ap (λ (ss : List Store). part at k (apply ss d)) (take-append-le n (copies slot image) (store 0 (target_name (pointer_of d)) ∷ []) (omega (arith, c, l, h)))
        ∙ part_outside at k (take n (copies slot image)) d (outside_take at k n (copies slot image) (outside_copies at k slot image g))

    pub kept_pointer : pointer_of left ≡ pointer_of d
    kept_pointer = byte_same 0 1 left d (omega arith) (kept_part 0 1 (λ l. slot_range.0))

    pub kept_image : pointer_of d ≤ 2 → image_part (pointer_of d) left ≡ image_part (pointer_of d) d
    kept_image l = kept_part (image_at (pointer_of d)) 8653 (slots_apart (pointer_of d) (length image) l image_length_lem)

  -- then it names the slot that holds the image
  module _ (h : image_size (image_of s) < n) where
    whole_left : left ≡ set (sets d slot image) 0 (target_name (pointer_of d))
    whole_left = checkpoint_whole s d m n (disk_admitted s d m t z).memory h

    pub new_pointer : pointer_of left ≡ target_name (pointer_of d)
    new_pointer =
        ap (λ (x : List ℕ). get_or x 0 0) whole_left
        ∙ get_or-set_same (sets d slot image) 0 (target_name (pointer_of d)) 0 (omega (arith, length-sets d slot image, (disk_admitted s d m t z).disk))

    pub new_image : part slot 8653 left ≡ image ++ drop (length image) (part slot 8653 d)
    new_image =
        let l = (disk_admitted s d m t z).disk in
        let e : slot + 0 ≡ slot = omega arith in
        let f : 0 + length image ≡ length image = omega arith in
        let k : length (part slot 8653 d) ≡ 8653 = length-take-le 8653 (drop slot d) (rw (length-drop slot d) (omega (arith, slot_range.1, l))) in
        let whole : take (length image) image ≡ image = take-length image in
        ap (part slot 8653) whole_left
        ∙ part_outside slot 8653 (store 0 (target_name (pointer_of d)) ∷ []) (sets d slot image) ((λ g. absurd (omega (arith, g, slot_range.0))), tt)
        ∙ ap (λ (vs : List ℕ). part slot 8653 (sets d slot vs)) (sym whole)
        ∙ ap (part slot 8653) (sym (copies_cut (length image) slot image d))
        ∙ ap (λ (i : ℕ). part slot 8653 (apply (take (length image) (copies i image)) d)) (sym e)
        ∙ part_copied slot 8653 (length image) 0 image d
        ∙ ap (sets (part slot 8653 d) 0) whole
        ∙ sets-eq image (part slot 8653 d) 0 (omega (arith, k, image_length_lem))
        ∙ ap (λ (j : ℕ). image ++ drop j (part slot 8653 d)) f

-- ---- the cases, as the code comes to them

-- the first n bytes of a buffer are the state's image
pub record Encoded (s : State) (d m b : List ℕ) (n : ℕ) : Type 0 where
  pub disk : length d ≡ 33691
  pub bytes : take n b ≡ encode_image (image_of s) m
  pub counted : length (take n b) ≡ n
  pub small : n ≤ 8653

module _ (s : State) (d m t : List ℕ) (allowed : ℕ) where
  pub checkpoint_refused : (n : ℕ) → disk_number s d m t ≡ n → (n ≡ 0 → ⊥)
      → checkpoint_of s d m t allowed ≡ record { result = refusing n s; disk = d; memory = m; tail = t }
  unfolding checkpoint_of
  checkpoint_refused = stored_refused s d m t (checkpoint_plan s d m t) allowed

  module _ (z : disk_number s d m t ≡ 0) where
    pub image_ok_lem : (i : Image) → i ≡ image_of s → keeps_rules i ≡ true
    image_ok_lem i e = ap keeps_rules e ∙ (disk_admitted s d m t z).fits.image

    -- i is the image made, n the number of its bytes, b the buffer before it was encoded and x after
    pub encoded : (i : Image) (n : ℕ) (b x : List ℕ) → i ≡ image_of s → n ≡ image_size i → 8653 ≤ length b → x ≡ sets b 0 (encode_image i m) → Encoded s d m x n
    encoded i n b x e f l g =
        let a = disk_admitted s d m t z in
        let k : keeps_rules (image_of s) ≡ true = image_ok_lem (image_of s) refl in
        let q : n ≡ image_size (image_of s) = f ∙ ap image_size e in
        let u : take n x ≡ encode_image (image_of s) m =
        ap₂ (λ (j : ℕ) (y : List ℕ). take j y) q (g ∙ ap (λ (y : Image). sets b 0 (encode_image y m)) e) ∙ encode_used (image_of s) k m b a.memory l in
        record {
          disk = a.disk;
          bytes = u;
          counted = ap length u ∙ length_content (content_of (image_of s)) m a.memory ∙ sym q;
          small = omega (arith, q, image_small (image_of s) k);
        }

    -- made is the number of stores made, y the disk that they left
    module _ (n made : ℕ) (x y : List ℕ) (e : Encoded s d m x n) (f : made ≡ min allowed (length (image_stores (pointer_of d) (take n x))))
        (g : y ≡ apply (take allowed (image_stores (pointer_of d) (take n x))) d) where
      count : made ≡ min allowed (length (checkpoint_stores s d m))
      count = f ∙ ap (λ (bs : List ℕ). min allowed (length (image_stores (pointer_of d) bs))) e.bytes

      needed : length (checkpoint_stores s d m) ≡ n + 1
      needed =
          length_slot (target_at (pointer_of d)) (target_name (pointer_of d)) (encode_image (image_of s) m)
          ∙ ap (λ (k : ℕ). k + 1) (ap length (sym e.bytes) ∙ e.counted)

      on_disk_lem : y ≡ apply (take allowed (checkpoint_stores s d m)) d
      on_disk_lem = g ∙ ap (λ (bs : List ℕ). apply (take allowed (image_stores (pointer_of d) bs)) d) e.bytes

      pub checkpoint_cut : made ≤ n → checkpoint_of s d m t allowed
          ≡ record { result = tells cut 0 made unrecovered; disk = y; memory = zeroed m; tail = zeroed t }
      unfolding checkpoint_of
      checkpoint_cut h =
          let a = disk_admitted s d m t z in
          rw (on_disk_lem, a.memory, a.tail, count) (stored_cut s d m t (checkpoint_plan s d m t) allowed z (omega (arith, needed, count)))

      pub checkpoint_done : n < made → checkpoint_of s d m t allowed ≡ record { result = tells done 0 made s; disk = y; memory = m; tail = t }
      unfolding checkpoint_of
      checkpoint_done h = rw (on_disk_lem, count) (stored_done s d m t (checkpoint_plan s d m t) allowed z (omega (arith, needed, count)))
