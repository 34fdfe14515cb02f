-- Options, and lists: a property of every element, `any`, `filter`, and properties of every first part.
use mathlib.Core.Path.{◌≡◌, refl, sym, ap, ◌∙◌, subst}
use mathlib.Core.Logic.{◌≢◌}
use mathlib.Core.Bool.{Bool, true, false, cond, ◌&&◌}
use mathlib.Core.List.{List, [], ◌∷◌, ◌++◌, map, reverse, reverse-cons, append-nil}
use mathlib.Core.Option.{Option, none, some}
use Prim.Native.Nat.{ℕ, zero, suc}
use lib.ListN.{take}
use lib.Seq.{take-nil}
use Rattle.recovery.specs.Lists.{All, nil, cons, any, filter, or_else}
use Rattle.recovery.proofs.Bool.{opposed, or_left, or_right, some_none}

module _ {A : Type 0} where
  -- one thing or another

  pub else_none : (o : Option A) → o ≡ or_else o none
  else_none none = refl
  else_none (some a) = refl

  pub else_assoc : (o p q : Option A) → or_else (or_else o p) q ≡ or_else o (or_else p q)
  else_assoc none p q = refl
  else_assoc (some a) p q = refl

  pub else_some : (o p : Option A) → o ≢ none → or_else o p ≢ none
  else_some none p h e = h refl
  else_some (some a) p h e = h e

  pub else_next : (o p : Option A) → p ≢ none → or_else o p ≢ none
  else_next none p h e = h e
  else_next (some a) p h e = some_none {x = a} refl e

  pub else_both : (o p : Option A) → or_else o p ≡ none → (o ≡ none) × (p ≡ none)
  else_both none p e = (refl, e)
  else_both (some a) p e = absurd (some_none {x = a} refl e)

  -- every element

  pub all_map : {p q : A → Type 0} {xs : List A} → ((x : A) → p x → q x) → All p xs → All q xs
  all_map f nil = nil
  all_map f (cons h hs) = cons (f _ h) (all_map f hs)

  pub all_zip : {p q : A → Type 0} {xs : List A} → All p xs → All q xs → All (λ x. p x × q x) xs
  all_zip nil nil = nil
  all_zip (cons h hs) (cons k ks) = cons (h, k) (all_zip hs ks)

  pub all_append : {p : A → Type 0} {xs ys : List A} → All p xs → All p ys → All p (xs ++ ys)
  all_append nil k = k
  all_append (cons h hs) k = cons h (all_append hs k)

  pub all_left : {p : A → Type 0} (xs ys : List A) → All p (xs ++ ys) → All p xs
  all_left [] ys h = nil
  all_left (x ∷ xs) ys (cons h hs) = cons h (all_left xs ys hs)

  pub all_right : {p : A → Type 0} (xs : List A) {ys : List A} → All p (xs ++ ys) → All p ys
  all_right [] h = h
  all_right (x ∷ xs) (cons h hs) = all_right xs hs

  pub all_reverse : {p : A → Type 0} {xs : List A} → All p xs → All p (reverse xs)
  all_reverse nil = nil
  all_reverse (cons h hs) = rw reverse-cons (all_append (all_reverse hs) (cons h nil))

  -- of one element and the others

  pub all_here : {p : A → Type 0} (xs : List A) (r : A) (ys : List A) → All p (xs ++ r ∷ ys) → p r
  all_here [] r ys (cons h hs) = h
  all_here (x ∷ xs) r ys (cons h hs) = all_here xs r ys hs

  pub all_less : {p : A → Type 0} (xs : List A) (r : A) (ys : List A) → All p (xs ++ r ∷ ys) → All p (xs ++ ys)
  all_less [] r ys (cons h hs) = hs
  all_less (x ∷ xs) r ys (cons h hs) = cons h (all_less xs r ys hs)

  pub all_more : {p : A → Type 0} (xs : List A) (r : A) (ys : List A) → p r → All p (xs ++ ys) → All p (xs ++ r ∷ ys)
  all_more [] r ys k h = cons k h
  all_more (x ∷ xs) r ys k (cons h hs) = cons h (all_more xs r ys k hs)

  pub all_edit : {p : A → Type 0} (xs : List A) (r r' : A) (ys : List A) → (p r → p r') → All p (xs ++ r ∷ ys) → All p (xs ++ r' ∷ ys)
  all_edit xs r r' ys f h = all_more xs r' ys (f (all_here xs r ys h)) (all_less xs r ys h)

  -- what holds of each pair of two lists
  pub all_swap : {B : Type 0} {r : A → B → Type 0} (xs : List A) {ys : List B} → All (λ y. All (λ x. r x y) xs) ys → All (λ x. All (r x) ys) xs
  all_swap [] h = nil
  all_swap {B = B} {r = r} (x ∷ xs) h = cons (firsts h) (all_swap xs (rests h))
    where
      firsts : {ys : List B} → All (λ y. All (λ z. r z y) (x ∷ xs)) ys → All (r x) ys
      firsts nil = nil
      firsts (cons (cons k ks) hs) = cons k (firsts hs)

      rests : {ys : List B} → All (λ y. All (λ z. r z y) (x ∷ xs)) ys → All (λ y. All (λ z. r z y) xs) ys
      rests nil = nil
      rests (cons (cons k ks) hs) = cons ks (rests hs)

  -- what holds of every element for each of many numbers
  pub all_every : {p : ℕ → Type 0} {q : ℕ → A → Type 0} (xs : List A) → ((a : ℕ) → p a → All (q a) xs) → All (λ x. (a : ℕ) → p a → q a x) xs
  all_every [] f = nil
  all_every (x ∷ xs) f = cons (λ a h. all_here [] x xs (f a h)) (all_every xs (λ a h. all_less [] x xs (f a h)))

  -- any

  pub none_any : (p : A → Bool) (xs : List A) → any p xs ≡ false → All (λ x. p x ≡ false) xs
  none_any p [] h = nil
  none_any p (x ∷ xs) h = cons (or_left (p x) (any p xs) h) (none_any p xs (or_right (p x) (any p xs) h))

  -- filter

  pub filter_append : (p : A → Bool) (xs ys : List A) → filter p (xs ++ ys) ≡ filter p xs ++ filter p ys
  filter_append p [] ys = refl
  filter_append p (x ∷ xs) ys = go (p x) (filter_append p xs ys)
    where
      go : (b : Bool) → filter p (xs ++ ys) ≡ filter p xs ++ filter p ys
          → cond b (x ∷ filter p (xs ++ ys)) (filter p (xs ++ ys)) ≡ cond b (x ∷ filter p xs) (filter p xs) ++ filter p ys
      go true e = ap (λ (l : List A). x ∷ l) e
      go false e = e

  pub filter_in : (p : A → Bool) (xs : List A) (r : A) (ys : List A) → p r ≡ true → filter p (xs ++ r ∷ ys) ≡ filter p xs ++ r ∷ filter p ys
  filter_in p xs r ys e = filter_append p xs (r ∷ ys) ∙ ap (λ (b : Bool). filter p xs ++ cond b (r ∷ filter p ys) (filter p ys)) e

  pub filter_out : (p : A → Bool) (xs : List A) (r : A) (ys : List A) → p r ≡ false → filter p (xs ++ r ∷ ys) ≡ filter p xs ++ filter p ys
  filter_out p xs r ys e = filter_append p xs (r ∷ ys) ∙ ap (λ (b : Bool). filter p xs ++ cond b (r ∷ filter p ys) (filter p ys)) e

  pub filter_all : (p : A → Bool) {xs : List A} → All (λ x. p x ≡ true) xs → filter p xs ≡ xs
  filter_all p nil = refl
  filter_all p (cons {x} h hs) = rw h (ap (λ (l : List A). x ∷ l) (filter_all p hs))

  pub filter_none : (p : A → Bool) {xs : List A} → All (λ x. p x ≡ false) xs → filter p xs ≡ []
  filter_none p nil = refl
  filter_none p (cons h hs) = rw h (filter_none p hs)

  -- one test after another
  pub filter_filter : (p q r : A → Bool) → ((x : A) → (q x && p x) ≡ r x) → (xs : List A) → filter p (filter q xs) ≡ filter r xs
  filter_filter p q r f [] = refl
  filter_filter p q r f (x ∷ xs) = go (q x) refl (p x) refl (filter_filter p q r f xs)
    where
      go : (b : Bool) → q x ≡ b → (c : Bool) → p x ≡ c → filter p (filter q xs) ≡ filter r xs → filter p (filter q (x ∷ xs)) ≡ filter r (x ∷ xs)
      go true e true g ih = rw (e, g, ← f x, e, g) (ap (λ (l : List A). x ∷ l) ih)
      go true e false g ih = rw (e, g, ← f x, e, g) ih
      go false e c g ih = rw (e, ← f x, e) ih

  pub all_unfilter : {q : A → Type 0} (p : A → Bool) (xs : List A) → All q (filter p xs) → All (λ x. p x ≡ true → q x) xs
  all_unfilter p [] h = nil
  all_unfilter {q} p (x ∷ xs) h = go (p x) refl h (λ k. all_unfilter p xs k)
    where
      go : (b : Bool) → p x ≡ b → All q (cond b (x ∷ filter p xs) (filter p xs)) → (All q (filter p xs) → All (λ y. p y ≡ true → q y) xs)
          → All (λ y. p y ≡ true → q y) (x ∷ xs)
      go true e (cons k ks) f = cons (λ _. k) (f ks)
      go false e k f = cons (λ e'. absurd (opposed e' e)) (f k)

  -- a property of those that pass, from one of all that pass
  pub all_passing : {q : A → Type 0} (p : A → Bool) {xs : List A} → All (λ x. p x ≡ true → q x) xs → All q (filter p xs)
  all_passing p nil = nil
  all_passing {q} p (cons {x} {xs} h hs) = go (p x) refl (all_passing p hs)
    where
      go : (b : Bool) → p x ≡ b → All q (filter p xs) → All q (cond b (x ∷ filter p xs) (filter p xs))
      go true e k = cons (h e) k
      go false e k = k

  pub all_filter : {q : A → Type 0} (p : A → Bool) {xs : List A} → All q xs → All q (filter p xs)
  all_filter p h = all_passing p (all_map (λ x k _. k) h)

  pub all_passed : (p : A → Bool) (xs : List A) → All (λ x. p x ≡ true) (filter p xs)
  all_passed p xs = all_passing p (each xs)
    where
      each : (ys : List A) → All (λ x. p x ≡ true → p x ≡ true) ys
      each [] = nil
      each (y ∷ ys) = cons (λ e. e) (each ys)

-- every first part of a list has a property

abbrev pub EveryPrefix : {A : Type 0} → (List A → Type 0) → List A → Type 0
EveryPrefix p xs = (q : ℕ) → p (take q xs)

module _ {A : Type 0} where
  pub prefix_whole : (p : List A → Type 0) (xs : List A) → EveryPrefix p xs → p xs
  prefix_whole p [] h = h 0
  prefix_whole p (x ∷ xs) h = prefix_whole (λ l. p (x ∷ l)) xs (λ q. h (suc q))

  pub prefix_left : (p : List A → Type 0) (xs ys : List A) → EveryPrefix p (xs ++ ys) → EveryPrefix p xs
  prefix_left p [] ys h q = subst p (sym (take-nil q)) (h 0)
  prefix_left p (x ∷ xs) ys h zero = h zero
  prefix_left p (x ∷ xs) ys h (suc q) = prefix_left (λ l. p (x ∷ l)) xs ys (λ k. h (suc k)) q

  pub prefix_append : (p : List A → Type 0) (xs ys : List A) → EveryPrefix p xs → ((q : ℕ) → p (xs ++ take q ys)) → EveryPrefix p (xs ++ ys)
  prefix_append p [] ys h k q = k q
  prefix_append p (x ∷ xs) ys h k zero = h zero
  prefix_append p (x ∷ xs) ys h k (suc q) = prefix_append (λ l. p (x ∷ l)) xs ys (λ j. h (suc j)) k q

  pub prefix_snoc : (p : List A → Type 0) (xs : List A) (y : A) → EveryPrefix p xs → p (xs ++ (y ∷ [])) → EveryPrefix p (xs ++ (y ∷ []))
  prefix_snoc p xs y h k = prefix_append p xs (y ∷ []) h each
    where
      each : (q : ℕ) → p (xs ++ take q (y ∷ []))
      each zero = subst p (sym (append-nil xs)) (prefix_whole p xs h)
      each (suc q) = subst (λ (l : List A). p (xs ++ (y ∷ l))) (sym (take-nil q)) k

-- map

pub all_mapped : {A B : Type 0} {p : B → Type 0} (f : A → B) {xs : List A} → All (λ x. p (f x)) xs → All p (map f xs)
all_mapped f nil = nil
all_mapped f (cons h hs) = cons h (all_mapped f hs)

pub filter_map : {A : Type 0} (p : A → Bool) (f : A → A) → ((x : A) → p (f x) ≡ p x) → (xs : List A) → filter p (map f xs) ≡ map f (filter p xs)
filter_map p f e [] = refl
filter_map {A = A} p f e (x ∷ xs) = rw (e x) (go (p x) (filter_map p f e xs))
  where
    go : (b : Bool) → filter p (map f xs) ≡ map f (filter p xs)
        → cond b (f x ∷ filter p (map f xs)) (filter p (map f xs)) ≡ map f (cond b (x ∷ filter p xs) (filter p xs))
    go true ih = ap (λ (l : List A). f x ∷ l) ih
    go false ih = ih

pub take_map : {A B : Type 0} (f : A → B) (q : ℕ) (xs : List A) → take q (map f xs) ≡ map f (take q xs)
take_map f zero xs = refl
take_map f (suc q) [] = refl
take_map {B = B} f (suc q) (x ∷ xs) = ap (λ (l : List B). f x ∷ l) (take_map f q xs)
