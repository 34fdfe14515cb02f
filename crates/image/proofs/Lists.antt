-- Laws of lists over the places of an array: mapped, read off the front of a list, laid into slots; and of numbers in a part of a list.
use Prim.Native.Nat.{ℕ, zero, suc, ◌+◌, ◌*◌, ◌≤◌, ◌<◌}
use native.Mathlib.Omega.{arith}
use mathlib.Core.List.{List, [], ◌∷◌, ◌++◌, append-nil, map}
use mathlib.Core.Path.{◌≡◌, refl, sym, ap, ap₂, ◌∙◌}
use lib.ListN.{length, get_or, set, drop, replicate, length-replicate, get_or-append}
use lib.Seq.{sets, sets-eq, get_or-drop}
use Rattle.redolog.specs.Number.{be16, be32}
use Rattle.transaction.specs.Lists.{up_from}

pub up_map : {A B : Type 0} (g : A → B) (f : ℕ → A) (n i : ℕ) → up_from (λ j. g (f j)) n i ≡ map g (up_from f n i)
up_map g f zero i = refl
up_map {B = B} g f (suc n) i = ap (λ (xs : List B). g (f i) ∷ xs) (up_map g f n (suc i))

up_suc : {A : Type 0} (f : ℕ → A) (n i : ℕ) → up_from f n (suc i) ≡ up_from (λ j. f (suc j)) n i
up_suc f zero i = refl
up_suc {A = A} f (suc n) i = ap (λ (xs : List A). f (suc i) ∷ xs) (up_suc f n (suc i))

pub up_front : {A : Type 0} (xs rest : List A) (d : A) → up_from (λ j. get_or (xs ++ rest) j d) (length xs) 0 ≡ xs
up_front [] rest d = refl
up_front {A = A} (x ∷ xs) rest d =
    ap (λ (ys : List A). x ∷ ys) (up_suc (λ j. get_or (x ∷ (xs ++ rest)) j d) (length xs) 0 ∙ up_front xs rest d)

-- the whole of a list
pub up_all : {A B : Type 0} (f : A → B) (xs : List A) (d : A) → up_from (λ j. f (get_or xs j d)) (length xs) 0 ≡ map f xs
up_all {A = A} f xs d =
    up_map f (λ j. get_or xs j d) (length xs) 0
    ∙ ap (map f) (ap (λ (ys : List A). up_from (λ j. get_or ys j d) (length xs) 0) (sym (append-nil xs)) ∙ up_front xs [] d)

pub map_self : {A : Type 0} (f : A → A) (xs : List A) → ((x : A) → f x ≡ x) → map f xs ≡ xs
map_self f [] h = refl
map_self {A = A} f (x ∷ xs) h = ap (λ (y : A). y ∷ map f xs) (h x) ∙ ap (λ (ys : List A). x ∷ ys) (map_self f xs h)

-- ---- numbers in the part of a list from a place on

module _ (s : List ℕ) (at : ℕ) where
  pub byte_at : (i j : ℕ) → at + i ≡ j → get_or (drop at s) i 0 ≡ get_or s j 0
  byte_at i j e = get_or-drop at s i 0 ∙ ap (λ (k : ℕ). get_or s k 0) e

  pub be16_at : (i j : ℕ) → at + i ≡ j → be16 (drop at s) i ≡ be16 s j
  be16_at i j e = ap₂ (λ (a b : ℕ). a * 256 + b) (byte_at i j e) (byte_at (i + 1) (j + 1) (omega (arith, e)))

  pub be32_at : (i j : ℕ) → at + i ≡ j → be32 (drop at s) i ≡ be32 s j
  be32_at i j e = ap₂ (λ (a b : ℕ). a * 65536 + b) (be16_at i j e) (be16_at (i + 2) (j + 2) (omega (arith, e)))

-- ---- the first of n slots laid out, the others as they were

pub laid_at : {A : Type 0} (d e : A) (xs : List A) (n i : ℕ) → length xs ≤ n → i < length xs → get_or (sets (replicate n d) 0 xs) i e ≡ get_or xs i e
laid_at {A = A} d e xs n i h l =
    ap (λ (ys : List A). get_or ys i e) (sets-eq xs (replicate n d) 0 (omega (arith, h, length-replicate n d)))
    ∙ get_or-append xs (drop (0 + length xs) (replicate n d)) e i l

pub map_at : {A B : Type 0} (f : A → B) (xs : List A) (i : ℕ) (a : A) (b : B) → i < length xs → get_or (map f xs) i b ≡ f (get_or xs i a)
map_at f [] i a b h = absurd (omega (arith, h))
map_at f (x ∷ xs) zero a b h = refl
map_at f (x ∷ xs) (suc i) a b h = map_at f xs i a b (omega (arith, h))

pub sets_map : {A B : Type 0} (f : A → B) (xs l : List A) (k : ℕ) → map f (sets l k xs) ≡ sets (map f l) k (map f xs)
sets_map f [] l k = refl
sets_map {A = A} {B = B} f (x ∷ xs) l k = sets_map f xs (set l k x) (suc k) ∙ ap (λ (ys : List B). sets ys (suc k) (map f xs)) (set_map f l k x)
  where
    set_map : (f : A → B) (l : List A) (k : ℕ) (x : A) → map f (set l k x) ≡ set (map f l) k (f x)
    set_map f [] k x = refl
    set_map f (y ∷ l) zero x = refl
    set_map f (y ∷ l) (suc k) x = ap (λ (ys : List B). f y ∷ ys) (set_map f l k x)
