-- The rules of number 2 in a state whose slots are those of another but for one, which is changed or taken out.
use Prim.Native.Nat.{ℕ, zero, suc, ◌+◌, ◌-◌, ◌≤◌, ◌<◌}
use native.Mathlib.Decide.{dec_lt}
use native.Mathlib.Omega.{arith}
use mathlib.Core.Bool.{Bool, true, false, cond, ◌&&◌}
use mathlib.Core.List.{List}
use mathlib.Core.Path.{◌≡◌, refl, sym, ap, ap₂, ◌∙◌, subst}
use lib.Dec.{eqb, leb}
use borrow.Author.Tests.{le-leb, leb-true}
use Rattle.recovery.specs.Lists.{any}
use Rattle.redolog.proofs.Basics.{and_left, and_right}
use Rattle.transaction.specs.declared.Tx.{Tx}
use Rattle.transaction.specs.Lists.{up_from, every, sum_of}
use Rattle.transaction.specs.View.{Outline, outline_of}
use Rattle.transaction.specs.Rules.{head_ok, outline_ok, state_ok, room_of}
use Rattle.transaction.proofs.Lists.{length_up}
use Rattle.store.specs.declared.State.{State}
use Rattle.store.specs.State.{tx_at, txs_of, outline_at, outlines_of, image_of}
use Rattle.image.specs.Rules.{alike_to, distinct}
use Rattle.image.proofs.Rules.{image_distinct_lem, head_at, undo_at_lem, distinct_at}
use Rattle.store.specs.Rules.{keeps_image_rules}
use Rattle.store.proofs.Fits.{Fit, rule_at}
use Rattle.store.proofs.Positions.{Changed, Dropped, every_intro, sum_dropped}
use Rattle.store.proofs.Stepping.{same_or_other}

-- ---- tests of all and of each pair

nothing : {A : Type 0} (p : A → Bool) (f : ℕ → A) (k i : ℕ) → ((x : ℕ) → i ≤ x → x < i + k → p (f x) ≡ false) → any p (up_from f k i) ≡ false
nothing p f zero i h = refl
nothing p f (suc k) i h = rw (h i (omega arith) (omega arith)) (nothing p f k (suc i) (λ x a b. h x (omega arith) (omega arith)))

distinct_intro : (o : ℕ → Outline) (k i : ℕ) → ((x y : ℕ) → i ≤ x → x < y → y < i + k → alike_to (o x) (o y) ≡ false) → distinct (up_from o k i) ≡ true
distinct_intro o zero i h = refl
distinct_intro o (suc k) i h =
    rw (nothing (alike_to (o i)) o k (suc i) (λ y a b. h i y (omega arith) (omega arith) (omega arith)))
    (distinct_intro o k (suc i) (λ x y a b c. h x y (omega arith) b (omega arith)))

-- ---- the rules as they are kept

pub image_kept : (s : State) → s.logend ≤ 16384 → s.ondisk.0 ≤ s.assigned.0 → s.count ≤ 8
    → every (outline_ok s.lastid.0 s.assigned.0) (outlines_of s) ≡ true
    → distinct (outlines_of s) ≡ true → keeps_image_rules s ≡ true
image_kept s a b c e d = rw (length_up (outline_at s) s.count 0, le-leb _ _ a, le-leb _ _ b, le-leb _ _ c, e, d)

head_later : (last last' assigned assigned' id status csn : ℕ) → last ≤ last' → assigned ≤ assigned' → head_ok last assigned id status csn ≡ true
    → head_ok last' assigned' id status csn ≡ true
unfolding head_ok
head_later last last' assigned assigned' id status csn h g e =
    let r = and_right (leb 1 id) _ e in
    let l = leb-true id last (and_left (leb id last) _ r) in
    rw (and_left (leb 1 id) _ e, le-leb id last' (omega arith)) (go (eqb status 1) (and_right (leb id last) _ r))
  where
    go : (b : Bool) → cond b (eqb csn 0) (eqb status 2 && (leb 1 csn && leb csn assigned)) ≡ true
        → cond b (eqb csn 0) (eqb status 2 && (leb 1 csn && leb csn assigned')) ≡ true
    go true e = e
    go false e =
        let r = and_right (eqb status 2) _ e in
        let c = leb-true csn assigned (and_right (leb 1 csn) _ r) in
        rw (and_left (eqb status 2) _ e, and_left (leb 1 csn) _ r, le-leb csn assigned' (omega arith))

module _ (s : State) (t : List ℕ) (f : Fit s t) where
  -- with later counters
  outline_later : (last' assigned' : ℕ) → s.lastid.0 ≤ last' → s.assigned.0 ≤ assigned' → (i : ℕ) → i < s.count
      → outline_ok last' assigned' (outline_at s i) ≡ true
  outline_later last' assigned' a b i h =
      rw (head_later s.lastid.0 last' s.assigned.0 assigned' (tx_at s i).id.0 (tx_at s i).status (tx_at s i).csn.0 a b
      (head_at (image_of s) f.image i h))
      (undo_at_lem (image_of s) f.image i h)

  pub apart : (x y : ℕ) → x < y → y < s.count → alike_to (outline_at s x) (outline_at s y) ≡ false
  apart x y a b = distinct_at (outline_at s) s.count 0 (image_distinct_lem (image_of s) f.image) x y (omega arith) a (omega arith)

  -- ---- a state whose slots are those of s but for one, with counters that did not fall
  module _ (r : State) (u : Tx) (j : ℕ) (c : Changed (tx_at s) (tx_at r) j u) (last : s.lastid.0 ≤ r.lastid.0) (csn : s.assigned.0 ≤ r.assigned.0)
      (old : (i : ℕ) → i < r.count → (i ≡ j → ⊥) → i < s.count) (good : outline_ok r.lastid.0 r.assigned.0 (outline_of u) ≡ true) where
    pub changed_outlines : every (outline_ok r.lastid.0 r.assigned.0) (outlines_of r) ≡ true
    changed_outlines =
        every_intro (outline_ok r.lastid.0 r.assigned.0) (outline_at r) r.count 0
        (λ i a b.
        same_or_other i j (λ q. subst (λ (x : Tx). outline_ok r.lastid.0 r.assigned.0 (outline_of x) ≡ true) (sym (ap (tx_at r) q ∙ c.here)) good)
        (λ q. subst (λ (x : Tx). outline_ok r.lastid.0 r.assigned.0 (outline_of x) ≡ true) (sym (c.other i q))
        (outline_later r.lastid.0 r.assigned.0 last csn i (old i (omega arith) q))))

    pub changed_states : state_ok u ≡ true → every state_ok (txs_of r) ≡ true
    changed_states e =
        every_intro state_ok (tx_at r) r.count 0
        (λ i a b.
        same_or_other i j (λ q. subst (λ (x : Tx). state_ok x ≡ true) (sym (ap (tx_at r) q ∙ c.here)) e)
        (λ q. subst (λ (x : Tx). state_ok x ≡ true) (sym (c.other i q)) (rule_at s t f i (old i (omega arith) q))))

    pub changed_distinct : ((x : ℕ) → x < j → x < s.count → alike_to (outline_at s x) (outline_of u) ≡ false)
        → ((y : ℕ) → j < y → y < s.count → alike_to (outline_of u) (outline_at s y) ≡ false)
        → distinct (outlines_of r) ≡ true
    changed_distinct below above =
        distinct_intro (outline_at r) r.count 0
        (λ x y a b d.
        same_or_other x j
        (λ q.
        let n : y ≡ j → ⊥ = λ z. omega (arith, q, b, z) in
        ap₂ (λ (v w : Tx). alike_to (outline_of v) (outline_of w)) (ap (tx_at r) q ∙ c.here) (c.other y n)
        ∙ above y (omega (arith, q, b)) (old y (omega arith) n))
        (λ n.
        same_or_other y j
        (λ q.
        ap₂ (λ (v w : Tx). alike_to (outline_of v) (outline_of w)) (c.other x n) (ap (tx_at r) q ∙ c.here)
        ∙ below x (omega (arith, q, b)) (old x (omega arith) n))
        (λ k. ap₂ (λ (v w : Tx). alike_to (outline_of v) (outline_of w)) (c.other x n) (c.other y k) ∙ apart x y b (old y (omega arith) k))))

  -- ---- a state without one of the slots of s
  module _ (r : State) (j : ℕ) (h : j < s.count) (d : Dropped (tx_at s) (tx_at r) j s.count) (count : r.count ≡ s.count - 1) where
    pub dropped_each : (p : Tx → Bool) → ((i : ℕ) → i < s.count → p (tx_at s i) ≡ true) → (i : ℕ) → i < r.count → p (tx_at r i) ≡ true
    dropped_each p e i l =
        elim (dec_lt i j) [
          | yes a ↦ subst (λ (x : Tx). p x ≡ true) (sym (d.before i a)) (e i (omega (arith, l, count)))
          | no a ↦ subst (λ (x : Tx). p x ≡ true) (sym (d.after i (omega (arith, a)) (omega (arith, l, count, h)))) (e (i + 1) (omega (arith, l, count, h)))
        ]

    -- which slot of s a slot of r was
    pub was : (i : ℕ) → i < r.count → (k : ℕ) × (tx_at r i ≡ tx_at s k) × (k < s.count) × (i ≤ k) × (k ≤ i + 1) × (i < j → k ≡ i) × (j ≤ i → k ≡ i + 1)
    was i l =
        elim (dec_lt i j) [
          | yes a ↦ (i, d.before i a, omega (arith, l, count), omega arith, omega arith, λ q. refl, λ q. absurd (omega (arith, a, q)))
          | no a ↦ (
            i + 1,
            d.after i (omega (arith, a)) (omega (arith, l, count, h)),
            omega (arith, l, count, h),
            omega arith,
            omega arith,
            λ q. absurd
                (omega (arith, a, q)),
            λ q. refl,
          )
        ]

    pub dropped_distinct : distinct (outlines_of r) ≡ true
    dropped_distinct =
        distinct_intro (outline_at r) r.count 0
        (λ x y a b l.
        let v = was x (omega arith) in
        let w = was y (omega arith) in
        let o : v.0 < w.0 = elim (dec_lt y j) [
          | yes p ↦ omega (arith, v.5 (omega (arith, p, b)), w.3, b)
          | no q ↦ omega (
            arith,
            w.6
                (omega (arith, q)),
            v.4,
            b,
          )
        ] in
        ap₂ (λ (g k : Tx). alike_to (outline_of g) (outline_of k)) v.1 w.1 ∙ apart v.0 w.0 o w.2)

    pub dropped_sum : sum_of room_of (txs_of r) + room_of (tx_at s j) ≡ sum_of room_of (txs_of s)
    dropped_sum =
        let n : suc (s.count - 1) ≡ s.count = omega (arith, h) in
        ap (λ (k : ℕ). sum_of room_of (up_from (tx_at r) k 0) + room_of (tx_at s j)) count
        ∙ sum_dropped room_of (tx_at s) (tx_at r) j s.count d (s.count - 1) 0 (omega arith) (omega (arith, h)) (omega (arith, h))
        ∙ ap (λ (k : ℕ). sum_of room_of (up_from (tx_at s) k 0)) n
