-- Lists over places when one place changes or is taken out: tests of all, sums, and recovery's lookup, edit and remove by id.
use Prim.Native.Nat.{ℕ, zero, suc, ◌+◌, ◌-◌, ◌≤◌, ◌<◌}
use native.Mathlib.Numerals.{add-one}
use native.Mathlib.Omega.{arith}
use mathlib.Core.Bool.{Bool, true, false}
use mathlib.Core.List.{List, ◌∷◌}
use mathlib.Core.Option.{some}
use mathlib.Core.Path.{◌≡◌, refl, sym, ap, ap₂, ◌∙◌}
use lib.Dec.{eqb}
use Rattle.recovery.specs.Transaction.{Tx as Transaction, lookup, edit, remove}
use Rattle.transaction.specs.Lists.{up_from, every, sum_of}
use Rattle.transaction.proofs.Lists.{up_same}

-- h is f with the value u at place j
pub record Changed {A : Type 0} (f h : ℕ → A) (j : ℕ) (u : A) : Type 0 where
  pub here : h j ≡ u
  pub other : (x : ℕ) → (x ≡ j → ⊥) → h x ≡ f x

-- h is f, of which n places count, without the one at j
pub record Dropped {A : Type 0} (f h : ℕ → A) (j n : ℕ) : Type 0 where
  pub before : (x : ℕ) → x < j → h x ≡ f x
  pub after : (x : ℕ) → j ≤ x → x + 1 < n → h x ≡ f (x + 1)

-- place i, or one of those after it
at_or_after : {P : Type 0} (i j : ℕ) → i ≤ j → (j ≡ i → P) → (i < j → P) → P
at_or_after {P} i j a here later = go (j - i) refl
  where
    go : (d : ℕ) → j - i ≡ d → P
    go zero q = here (omega arith)
    go (suc d) q = later (omega arith)

module _ {A : Type 0} where
  pub every_intro : (p : A → Bool) (f : ℕ → A) (k i : ℕ) → ((j : ℕ) → i ≤ j → j < i + k → p (f j) ≡ true) → every p (up_from f k i) ≡ true
  every_intro p f zero i h = refl
  every_intro p f (suc k) i h = rw (h i (omega arith) (omega arith)) (every_intro p f k (suc i) (λ j a b. h j (omega arith) (omega arith)))

  shifted : (f h : ℕ → A) (k i : ℕ) → ((x : ℕ) → i ≤ x → x < i + k → h x ≡ f (x + 1)) → up_from h k i ≡ up_from f k (suc i)
  shifted f h zero i e = refl
  shifted f h (suc k) i e =
      ap₂ (λ (x : A) (xs : List A). x ∷ xs) (e i (omega arith) (omega arith) ∙ ap f (add-one i))
      (shifted f h k (suc i) (λ x a b. e x (omega arith) (omega arith)))

  pub sum_changed : (g : A → ℕ) (f h : ℕ → A) (j : ℕ) (u : A) → Changed f h j u → (k i : ℕ) → i ≤ j → j < i + k
      → sum_of g (up_from h k i) + g (f j) ≡ sum_of g (up_from f k i) + g u
  sum_changed g f h j u c zero i a b = absurd (omega arith)
  sum_changed g f h j u c (suc k) i a b =
      at_or_after i j a
      (λ e.
      let r : sum_of g (up_from h k (suc i)) ≡ sum_of g (up_from f k (suc i)) =
      ap (sum_of g) (up_same h f k (suc i) (λ x p q. c.other x (λ z. omega (arith, p, z, e)))) in
      let x : g (h i) ≡ g u = ap (λ (n : ℕ). g (h n)) (sym e) ∙ ap g c.here in
      let y : g (f j) ≡ g (f i) = ap (λ (n : ℕ). g (f n)) e in
      omega (arith, r, x, y))
      (λ l.
      let r = sum_changed g f h j u c k (suc i) l (omega arith) in
      let x : g (h i) ≡ g (f i) = ap g (c.other i (λ z. omega (arith, l, z))) in
      omega (arith, r, x))

  pub sum_dropped : (g : A → ℕ) (f h : ℕ → A) (j n : ℕ) → Dropped f h j n → (k i : ℕ) → i ≤ j → j < i + suc k → i + suc k ≡ n
      → sum_of g (up_from h k i) + g (f j) ≡ sum_of g (up_from f (suc k) i)
  sum_dropped g f h j n d zero i a b e = let z : j ≡ i = omega arith in rw z (omega arith)
  sum_dropped g f h j n d (suc k) i a b e =
      at_or_after i j a
      (λ z.
      let r : sum_of g (up_from h (suc k) i) ≡ sum_of g (up_from f (suc k) (suc i)) =
      ap (sum_of g) (shifted f h (suc k) i (λ x p q. d.after x (omega arith) (omega arith))) in
      let y : g (f j) ≡ g (f i) = ap (λ (m : ℕ). g (f m)) z in
      omega (arith, r, y))
      (λ l.
      let r = sum_dropped g f h j n d k (suc i) l (omega arith) (omega arith) in
      let x : g (h i) ≡ g (f i) = ap g (d.before i l) in
      omega (arith, r, x))

-- ---- by id

-- j is the first of the places from i on that has this id
pub record First (f : ℕ → Transaction) (id i j : ℕ) : Type 0 where
  pub low : i ≤ j
  pub there : eqb id (f j).id ≡ true
  pub before : (x : ℕ) → i ≤ x → x < j → eqb id (f x).id ≡ false

later_first : (f : ℕ → Transaction) (id i j : ℕ) → First f id i j → i < j → First f id (suc i) j
later_first f id i j x l = record { low = l; there = x.there; before = λ y a b. x.before y (omega arith) b }

pub found : (f : ℕ → Transaction) (id j k i : ℕ) → First f id i j → j < i + k → lookup id (up_from f k i) ≡ some (f j)
found f id j zero i x b = absurd (omega (arith, x.low))
found f id j (suc k) i x b =
    at_or_after i j x.low
    (λ e. let t : eqb id (f i).id ≡ true = ap (λ (n : ℕ). eqb id (f n).id) (sym e) ∙ x.there in rw t (ap (λ (n : ℕ). some (f n)) (sym e)))
    (λ l. rw (x.before i (omega arith) l) (found f id j k (suc i) (later_first f id i j x l) (omega arith)))

pub edited : (f h : ℕ → Transaction) (id j : ℕ) (g : Transaction → Transaction) (k i : ℕ) → First f id i j → Changed f h j (g (f j)) → j < i + k
    → up_from h k i ≡ edit id g (up_from f k i)
edited f h id j g zero i x c b = absurd (omega (arith, x.low))
edited f h id j g (suc k) i x c b =
    at_or_after i j x.low
    (λ e.
    let t : eqb id (f i).id ≡ true = ap (λ (n : ℕ). eqb id (f n).id) (sym e) ∙ x.there in
    let u : h i ≡ g (f i) = ap h (sym e) ∙ c.here ∙ ap (λ (n : ℕ). g (f n)) e in
    rw t (ap₂ (λ (y : Transaction) (ys : List Transaction). y ∷ ys) u (up_same h f k (suc i) (λ y p q. c.other y (λ z. omega (arith, p, z, e))))))
    (λ l.
    rw (x.before i (omega arith) l)
    (ap₂ (λ (y : Transaction) (ys : List Transaction). y ∷ ys) (c.other i (λ z. omega (arith, l, z)))
    (edited f h id j g k (suc i) (later_first f id i j x l) c (omega arith))))

pub removed : (f h : ℕ → Transaction) (id j n k i : ℕ) → First f id i j → Dropped f h j n → j < i + suc k → i + suc k ≡ n
    → up_from h k i ≡ remove id (up_from f (suc k) i)
removed f h id j n zero i x d b e =
    let z : i ≡ j = omega (arith, x.low) in
    let t : eqb id (f i).id ≡ true = ap (λ (m : ℕ). eqb id (f m).id) z ∙ x.there in
    rw t
removed f h id j n (suc k) i x d b e =
    at_or_after i j x.low
    (λ z.
    let t : eqb id (f i).id ≡ true = ap (λ (m : ℕ). eqb id (f m).id) (sym z) ∙ x.there in
    rw t (shifted f h (suc k) i (λ y p q. d.after y (omega arith) (omega arith))))
    (λ l.
    rw (x.before i (omega arith) l)
    (ap₂ (λ (y : Transaction) (ys : List Transaction). y ∷ ys) (d.before i l)
    (removed f h id j n k (suc i) (later_first f id i j x l) d (omega arith) (omega arith))))
