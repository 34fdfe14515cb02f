-- Laws of the first slot that passes a test, of lists over slots, and of the image's transactions as a list.
use Prim.Native.Nat.{ℕ, zero, suc, ◌+◌, ◌≤◌, ◌<◌}
use native.Mathlib.Decide.{le_ind}
use native.Mathlib.Nat.{zero-add}
use native.Mathlib.Omega.{arith}
use mathlib.Core.Bool.{Bool, true, false, cond}
use mathlib.Core.List.{List, [], ◌∷◌, ◌++◌, map}
use mathlib.Core.Path.{◌≡◌, refl, sym, ap, ap₂, ◌∙◌}
use lib.ListN.{length, get_or, length-append}
use lib.Dec.{eqb, ltb}
use borrow.Author.Tests.{eqb-true, eqb-false, ltb-true, ltb-false}
use Rattle.recovery.specs.Lists.{filter}
use Rattle.recovery.specs.Transaction.{Tx as Transaction}
use Rattle.recovery.proofs.Lists.{filter_append}
use Rattle.redolog.proofs.Basics.{clash}
use Rattle.transaction.specs.Lists.{up_from}
use Rattle.transaction.specs.View.{view_of}
use Rattle.transaction.proofs.Lists.{up_snoc}
use Rattle.image.specs.declared.Image.{Image}
use Rattle.image.specs.declared.read.TxHead.{TxHead}
use Rattle.image.specs.Keys.{no_head}
use Rattle.transaction.specs.declared.Key.{Key}
use Rattle.image.specs.Slots.{slot_at}
use Rattle.std.specs.Prelude.{Some, None, position}
use Rattle.std.specs.List.{position_or_len}
use Rattle.std.proofs.lemmas.List.Sums.{fails_before_first, passes_at_first}
use Rattle.image.specs.Content.{transactions_in}
use Rattle.restart.specs.Slots.{Slot, transaction_at, or_at, first_below, has_id_at, image_slot, one_if, filter_below}
use Rattle.restart.specs.Turns.{Below, slot_in}
use Rattle.restart.proofs.Shown.{HasKeys}

module _ (p : ℕ → Bool) (i : ℕ) where
  pub first_hit : first_below p i ≡ None → p i ≡ true → (n : ℕ) → i < n → first_below p n ≡ Some i
  first_hit a e n h = le_ind (λ (m : ℕ). first_below p m ≡ Some i) (rw (a, e)) (λ m k d. rw d) n h

-- none passes the test
pub first_missing : (p : ℕ → Bool) (n : ℕ) → ((k : ℕ) → k < n → p k ≡ false) → first_below p n ≡ None
first_missing p zero h = refl
first_missing p (suc n) h = rw (first_missing p n (λ k l. h k (omega arith)), h n (omega arith))

-- the library's word for the first one of a list
pub position_first : {A : Type 0} (p : A → Bool) (xs : List A) (d : A) → position p xs ≡ first_below (λ i. p (get_or xs i d)) (length xs)
position_first p xs d = go (ltb (position_or_len p xs) (length xs)) refl
  where
    go : (b : Bool) → ltb (position_or_len p xs) (length xs) ≡ b → cond b (Some (position_or_len p xs)) None ≡ first_below (λ i. p (get_or xs i d)) (length xs)
    go true e =
        let l = ltb-true _ _ e in
        sym
        (first_hit (λ i. p (get_or xs i d)) (position_or_len p xs)
        (first_missing (λ i. p (get_or xs i d)) (position_or_len p xs) (λ k h. fails_before_first p xs k d h)) (passes_at_first p xs d l) (length xs) l)
    go false e =
        let l = ltb-false _ _ e in
        sym (first_missing (λ i. p (get_or xs i d)) (length xs) (λ k h. fails_before_first p xs k d (omega arith)))

-- a slot that was found lies below the bound, and passes the test
pub first_at : (p : ℕ → Bool) (n i : ℕ) → first_below p n ≡ Some i → (i < n) × (p i ≡ true)
first_at p zero i e = clash (cc)
first_at p (suc n) i e = go (first_at p n i) (first_below p n) refl (p n) refl e
  where
    go : (first_below p n ≡ Some i → (i < n) × (p i ≡ true)) → (f : Slot) → first_below p n ≡ f → (b : Bool) → p n ≡ b → or_at f b n ≡ Some i
        → (i < suc n) × (p i ≡ true)
    go ih (Some j) q b r z =
        let s : j ≡ i = cc in
        let t = ih (q ∙ ap Some s) in
        (omega (arith, t.0), t.1)
    go ih None q true r z = let s : n ≡ i = cc in (omega arith, ap p (sym s) ∙ r)
    go ih None q false r z = clash (cc)

-- one of the first n is one of the first m
pub found_below : (p : ℕ → Bool) (n m : ℕ) (x : Slot) → n ≤ m → x ≡ first_below p n → Below m x
found_below p n m None h e = tt {0}
found_below p n m (Some i) h e = omega (arith, (first_at p n i (sym e)).0)

-- by tests that agree
pub first_same : (p q : ℕ → Bool) (n : ℕ) → ((j : ℕ) → j < n → q j ≡ p j) → first_below q n ≡ first_below p n
first_same p q zero h = refl
first_same p q (suc n) h = ap₂ (λ (f : Slot) (b : Bool). or_at f b n) (first_same p q n (λ j l. h j (omega arith))) (h n (omega arith))

-- by the keys as by the image
pub slot_in_lem : (image : Image) (txs : List TxHead) → HasKeys image txs → (id : ℕ) → slot_in txs id ≡ image_slot image id
slot_in_lem image txs v id =
    position_first (λ (t : TxHead). eqb t.key.id.0 id) txs no_head
    ∙ ap (first_below (λ i. eqb (get_or txs i no_head).key.id.0 id)) v.count
    ∙ first_same (has_id_at image id) (λ i. eqb (get_or txs i no_head).key.id.0 id) image.count (λ j h. ap (λ (k : Key). eqb k.id.0 id) (v.keys j h))

-- where none was found, none passes it
pub first_none : (p : ℕ → Bool) (n : ℕ) → first_below p n ≡ None → (i : ℕ) → i < n → p i ≡ false
first_none p zero e i h = absurd (omega arith)
first_none p (suc n) e i h = go (first_none p n) (first_below p n) refl (p n) refl e (eqb i n) refl
  where
    go : (first_below p n ≡ None → (i : ℕ) → i < n → p i ≡ false) → (f : Slot) → first_below p n ≡ f → (b : Bool) → p n ≡ b → or_at f b n ≡ None
        → (t : Bool) → eqb i n ≡ t → p i ≡ false
    go ih (Some j) q b r z t s = clash (cc)
    go ih None q true r z t s = clash (cc)
    go ih None q false r z true s = ap p (eqb-true i n s) ∙ r
    go ih None q false r z false s = let d = eqb-false i n s in ih q i (omega (arith, d))

module _ {A : Type 0} where
  -- of two tests that never hold together
  pub filter_both : (p q : ℕ → Bool) (f : ℕ → A) (n : ℕ) → ((j : ℕ) → p j ≡ true → q j ≡ false)
      → length (filter_below p f n) + length (filter_below q f n) ≤ n
  filter_both p q f zero h = omega arith
  filter_both p q f (suc n) h =
      omega (
        arith,
        filter_both p q f n h,
        length-append (filter_below p f n) (one_if (p n) (f n)),
        length-append (filter_below q f n) (one_if (q n) (f n)),
        go (p n) (q n) (h n),
      )
    where
      go : (b d : Bool) → (b ≡ true → d ≡ false) → length (one_if b (f n)) + length (one_if d (f n)) ≤ 1
      go true true k = clash (let z : true ≡ false = k refl in cc)
      go true false k = omega arith
      go false true k = omega arith
      go false false k = omega arith

  -- lists by tests that agree
  pub filter_same : (p q : ℕ → Bool) (f : ℕ → A) (n : ℕ) → ((j : ℕ) → j < n → q j ≡ p j) → filter_below q f n ≡ filter_below p f n
  filter_same p q f zero h = refl
  filter_same p q f (suc n) h =
      ap₂ (λ (xs : List A) (b : Bool). xs ++ one_if b (f n)) (filter_same p q f n (λ j l. h j (omega arith))) (h n (omega arith))

  -- none passes the test
  pub filter_none : (p : ℕ → Bool) (f : ℕ → A) (n : ℕ) → first_below p n ≡ None → filter_below p f n ≡ []
  filter_none p f n e = filter_same (λ j. false) p f n (first_none p n e) ∙ go n
    where
      go : (n : ℕ) → filter_below (λ j. false) f n ≡ []
      go zero = refl
      go (suc n) = rw (go n)

  -- the first that passes it, and the list without it, by a test that differs there alone
  pub filter_first : (p q : ℕ → Bool) (f : ℕ → A) (n i : ℕ) → first_below p n ≡ Some i → q i ≡ false → ((j : ℕ) → (j ≡ i → ⊥) → q j ≡ p j)
      → filter_below p f n ≡ f i ∷ filter_below q f n
  filter_first p q f zero i e z h = clash (cc)
  filter_first p q f (suc n) i e z h = go (filter_first p q f n i) (first_below p n) refl (p n) refl e
    where
      go : (first_below p n ≡ Some i → q i ≡ false → ((j : ℕ) → (j ≡ i → ⊥) → q j ≡ p j) → filter_below p f n ≡ f i ∷ filter_below q f n)
          → (x : Slot) → first_below p n ≡ x → (b : Bool) → p n ≡ b → or_at x b n ≡ Some i
          → filter_below p f n ++ one_if (p n) (f n) ≡ f i ∷ (filter_below q f n ++ one_if (q n) (f n))
      go ih (Some j) a b r s =
          let same : j ≡ i = cc in
          let at = a ∙ ap Some same in
          let low = (first_at p n i at).0 in
          ap₂ (λ (xs : List A) (t : Bool). xs ++ one_if t (f n)) (ih at z h) (sym (h n (λ w. omega arith)))
      go ih None a true r s =
          let same : n ≡ i = cc in
          let none = filter_none p f n a in
          let left = filter_same p q f n (λ j l. h j (λ w. omega arith)) ∙ none in
          let out : q n ≡ false = ap q same ∙ z in
          rw (none, left, r, out, same)
      go ih None a false r s = clash (cc)

  one_cond : (b : Bool) (x : A) → one_if b x ≡ cond b (x ∷ []) []
  one_cond true x = refl
  one_cond false x = refl

  -- as a test of what stands in the slots
  pub filter_up : (p : ℕ → Bool) (q : A → Bool) (f : ℕ → A) (n : ℕ) → ((j : ℕ) → j < n → p j ≡ q (f j)) → filter_below p f n ≡ filter q (up_from f n 0)
  filter_up p q f zero h = refl
  filter_up p q f (suc n) h =
      ap₂ (λ (xs : List A) (b : Bool). xs ++ one_if b (f n)) (filter_up p q f n (λ j l. h j (omega arith))) (h n (omega arith))
      ∙ ap (λ (xs : List A). filter q (up_from f n 0) ++ xs) (one_cond (q (f n)) (f n))
      ∙ sym (ap (filter q) (up_snoc f n 0 ∙ ap (λ (j : ℕ). up_from f n 0 ++ (f j ∷ [])) (zero-add n)) ∙ filter_append q (up_from f n 0) (f n ∷ []))

-- the image's transactions by slot
pub txs_up : (image : Image) → transactions_in image ≡ up_from (transaction_at image) image.count 0
txs_up image = go image.count 0
  where
    go : (k i : ℕ) → map view_of (up_from (slot_at image.txs) k i) ≡ up_from (transaction_at image) k i
    go zero i = refl
    go (suc k) i = ap (λ (ts : List Transaction). transaction_at image i ∷ ts) (go k (suc i))
