-- Lists in which no key comes twice: the ids of transactions, the ids of groups.
use mathlib.Core.Path.{◌≡◌, refl, sym, ◌∙◌}
use mathlib.Core.Logic.{◌≢◌}
use mathlib.Core.Bool.{Bool, true, false, cond}
use mathlib.Core.List.{List, [], ◌∷◌, ◌++◌}
use Prim.Native.Nat.{ℕ}
use Rattle.recovery.specs.Lists.{All, nil, cons, filter}
use Rattle.recovery.proofs.Lists.{all_map, all_append, all_left, all_right, all_here, all_less, all_more, all_filter, all_zip}

pub data Distinct {A : Type 0} (key : A → ℕ) : List A → Type 0 where
  empty : Distinct key []
  more : {x : A} {xs : List A} → All (λ y. key y ≢ key x) xs → Distinct key xs → Distinct key (x ∷ xs)

module _ {A : Type 0} {key : A → ℕ} where
  pub distinct_filter : (p : A → Bool) {xs : List A} → Distinct key xs → Distinct key (filter p xs)
  distinct_filter p empty = empty
  distinct_filter p (more {x} {xs} h d) = go (p x) (distinct_filter p d)
    where
      go : (b : Bool) → Distinct key (filter p xs) → Distinct key (cond b (x ∷ filter p xs) (filter p xs))
      go true k = more (all_filter p h) k
      go false k = k

  pub distinct_append : {xs ys : List A} → Distinct key xs → Distinct key ys → All (λ x. All (λ y. key y ≢ key x) ys) xs → Distinct key (xs ++ ys)
  distinct_append empty e nil = e
  distinct_append (more h d) e (cons k ks) = more (all_append h k) (distinct_append d e ks)

  pub distinct_left : (xs ys : List A) → Distinct key (xs ++ ys) → Distinct key xs
  distinct_left [] ys d = empty
  distinct_left (x ∷ xs) ys (more h d) = more (all_left xs ys h) (distinct_left xs ys d)

  pub distinct_right : (xs : List A) {ys : List A} → Distinct key (xs ++ ys) → Distinct key ys
  distinct_right [] d = d
  distinct_right (x ∷ xs) (more h d) = distinct_right xs d

  -- nothing of the second list has a key of the first
  pub distinct_apart : (xs : List A) {ys : List A} → Distinct key (xs ++ ys) → All (λ y. All (λ x. key x ≢ key y) xs) ys
  distinct_apart [] {ys} d = free ys
    where
      free : (zs : List A) → All (λ y. All (λ x. key x ≢ key y) []) zs
      free [] = nil
      free (z ∷ zs) = cons nil (free zs)
  distinct_apart (x ∷ xs) (more h d) = both (all_right xs h) (distinct_apart xs d)
    where
      both : {zs : List A} → All (λ y. key y ≢ key x) zs → All (λ y. All (λ z. key z ≢ key y) xs) zs → All (λ y. All (λ z. key z ≢ key y) (x ∷ xs)) zs
      both nil nil = nil
      both (cons k ks) (cons l ls) = cons (cons (λ e. k (sym e)) l) (both ks ls)

  -- one element and the others

  pub distinct_others : (xs : List A) (r : A) (ys : List A) → Distinct key (xs ++ r ∷ ys) → All (λ y. key y ≢ key r) (xs ++ ys)
  distinct_others [] r ys (more h d) = h
  distinct_others (x ∷ xs) r ys (more h d) = cons (λ e. all_here xs r ys h (sym e)) (distinct_others xs r ys d)

  pub distinct_less : (xs : List A) (r : A) (ys : List A) → Distinct key (xs ++ r ∷ ys) → Distinct key (xs ++ ys)
  distinct_less [] r ys (more h d) = d
  distinct_less (x ∷ xs) r ys (more h d) = more (all_less xs r ys h) (distinct_less xs r ys d)

  pub distinct_more : (xs : List A) (r : A) (ys : List A) → All (λ y. key y ≢ key r) (xs ++ ys) → Distinct key (xs ++ ys) → Distinct key (xs ++ r ∷ ys)
  distinct_more [] r ys h d = more h d
  distinct_more (x ∷ xs) r ys (cons n h) (more k d) = more (all_more xs r ys (λ e. n (sym e)) k) (distinct_more xs r ys h d)

  pub distinct_edit : (xs : List A) (r r' : A) (ys : List A) → key r' ≡ key r → Distinct key (xs ++ r ∷ ys) → Distinct key (xs ++ r' ∷ ys)
  distinct_edit xs r r' ys e d =
      distinct_more xs r' ys (all_map (λ y n q. n (q ∙ e)) (distinct_others xs r ys d)) (distinct_less xs r ys d)

  -- the two parts of a list under tests that exclude each other have no key in common
  pub distinct_parts : (p q : A → Bool) → ((x : A) → p x ≡ true → q x ≡ true → ⊥) → {xs : List A} → Distinct key xs
      → All (λ x. All (λ y. key y ≢ key x) (filter q xs)) (filter p xs)
  distinct_parts p q f empty = nil
  distinct_parts p q f (more {x} {xs} h d) = go (p x) refl (q x) refl (distinct_parts p q f d)
    where
      go : (b : Bool) → p x ≡ b → (c : Bool) → q x ≡ c → All (λ z. All (λ y. key y ≢ key z) (filter q xs)) (filter p xs)
          → All (λ z. All (λ y. key y ≢ key z) (cond c (x ∷ filter q xs) (filter q xs))) (cond b (x ∷ filter p xs) (filter p xs))
      go true e true g k = absurd (f x e g)
      go true e false g k = cons (all_filter q h) k
      go false e true g k = all_map (λ z m. cons (λ e'. m.0 (sym e')) m.1) (all_zip (all_filter p h) k)
      go false e false g k = k
