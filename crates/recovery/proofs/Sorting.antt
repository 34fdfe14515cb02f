-- Sorting by commit number, highest first: what is sorted, the first of the highest in front, and tests before or after it; leaving out the low
-- numbers.
use mathlib.Core.Path.{◌≡◌, refl, sym, ap, ◌∙◌}
use mathlib.Core.Logic.{◌≢◌}
use mathlib.Core.Bool.{Bool, true, false, cond, ◌&&◌}
use mathlib.Core.List.{List, [], ◌∷◌, ◌++◌}
use Prim.Native.Nat.{ℕ, suc, ◌≤◌, ◌<◌}
use native.Mathlib.Omega.{arith}
use lib.ListN.{length}
use lib.Dec.{leb}
use borrow.Author.Tests.{le-leb, lt-leb, leb-true, leb-false, lt-ltb, le-ltb, ltb-true}
use Rattle.recovery.specs.Lists.{All, nil, cons, filter}
use Rattle.recovery.specs.Transaction.{Tx}
use Rattle.recovery.specs.Restart.{insert_desc, sort_desc, above}
use Rattle.recovery.proofs.Lists.{all_map, all_left, all_right, all_filter, filter_all, filter_none, filter_filter}
use Rattle.recovery.proofs.Distinct.{Distinct, empty, more}
use Rattle.recovery.proofs.Transactions.{is_above}

-- every number is at most n, or below n
abbrev pub AllLe : ℕ → List Tx → Type 0
AllLe n l = All (λ t. t.csn ≤ n) l

abbrev pub AllLt : ℕ → List Tx → Type 0
AllLt n l = All (λ t. t.csn < n) l

-- above

pub above_high : (n : ℕ) {xs : List Tx} → All (λ c. n < c.csn) xs → above n xs ≡ xs
above_high n h = filter_all (is_above n) (all_map (λ c l. lt-ltb n c.csn l) h)

pub above_low : (n : ℕ) {xs : List Tx} → AllLe n xs → above n xs ≡ []
above_low n h = filter_none (is_above n) (all_map (λ c l. le-ltb n c.csn l) h)

pub above_above : (d n : ℕ) (xs : List Tx) → d ≤ n → above n (above d xs) ≡ above n xs
above_above d n xs h = filter_filter (is_above n) (is_above d) (is_above n) (λ x. go x (is_above n x) refl) xs
  where
    go : (x : Tx) (b : Bool) → is_above n x ≡ b → (is_above d x && b) ≡ b
    go x true e = rw (lt-ltb d x.csn (omega (arith, ltb-true n x.csn e)))
    go x false e = none (is_above d x)
      where
        none : (c : Bool) → (c && false) ≡ false
        none true = refl
        none false = refl

-- a property of all, before and after sorting

insert_all : {p : Tx → Type 0} (t : Tx) {l : List Tx} → p t → All p l → All p (insert_desc t l)
insert_all t h nil = cons h nil
insert_all {p} t h (cons {x} {xs} k ks) = go (leb x.csn t.csn) (insert_all t h ks)
  where
    go : (b : Bool) → All p (insert_desc t xs) → All p (cond b (t ∷ x ∷ xs) (x ∷ insert_desc t xs))
    go true a = cons h (cons k ks)
    go false a = cons k a

uninsert_all : {p : Tx → Type 0} (t : Tx) (l : List Tx) → All p (insert_desc t l) → All p (t ∷ l)
uninsert_all t [] a = a
uninsert_all {p} t (u ∷ l) a = go (leb u.csn t.csn) a (λ b. uninsert_all t l b)
  where
    go : (b : Bool) → All p (cond b (t ∷ u ∷ l) (u ∷ insert_desc t l)) → (All p (insert_desc t l) → All p (t ∷ l)) → All p (t ∷ u ∷ l)
    go true h f = h
    go false (cons k ks) f = swap (f ks)
      where
        swap : All p (t ∷ l) → All p (t ∷ u ∷ l)
        swap (cons h hs) = cons h (cons k hs)

pub sort_all : {p : Tx → Type 0} {l : List Tx} → All p l → All p (sort_desc l)
sort_all nil = nil
sort_all (cons h hs) = insert_all _ h (sort_all hs)

pub unsort_all : {p : Tx → Type 0} (l : List Tx) → All p (sort_desc l) → All p l
unsort_all [] h = nil
unsort_all {p} (t ∷ l) h = go (uninsert_all t (sort_desc l) h) (λ k. unsort_all l k)
  where
    go : All p (t ∷ sort_desc l) → (All p (sort_desc l) → All p l) → All p (t ∷ l)
    go (cons k ks) f = cons k (f ks)

pub sort_distinct : {l : List Tx} → Distinct (λ t. t.id) l → Distinct (λ t. t.id) (sort_desc l)
sort_distinct empty = empty
sort_distinct (more {x} h d) = insert_distinct x (sort_all h) (sort_distinct d)
  where
    insert_distinct : (t : Tx) {l : List Tx} → All (λ u. u.id ≢ t.id) l → Distinct (λ u. u.id) l → Distinct (λ u. u.id) (insert_desc t l)
    insert_distinct t nil empty = more nil empty
    insert_distinct t (cons {x = u} {xs = l} n h') (more k d') = go (leb u.csn t.csn) (insert_distinct t h' d')
      where
        go : (b : Bool) → Distinct (λ u'. u'.id) (insert_desc t l) → Distinct (λ u'. u'.id) (cond b (t ∷ u ∷ l) (u ∷ insert_desc t l))
        go true e = more (cons n h') (more k d')
        go false e = more (insert_all t (λ q. n (sym q)) k) e

-- sorted

pub data Descending : List Tx → Type 0 where
  bottom : Descending []
  top : {t : Tx} {ts : List Tx} → AllLe t.csn ts → Descending ts → Descending (t ∷ ts)

-- a transaction that goes before the front of a sorted list is above all of it
all_lower : (t u : Tx) {l : List Tx} → leb u.csn t.csn ≡ true → AllLe u.csn l → AllLe t.csn (u ∷ l)
all_lower t u e h = let le : u.csn ≤ t.csn = leb-true u.csn t.csn e in cons le (all_map (λ v q. omega arith) h)

insert_descending : (t : Tx) {l : List Tx} → Descending l → Descending (insert_desc t l)
insert_descending t bottom = top nil bottom
insert_descending t (top {t = u} {ts = l} h d) = go (leb u.csn t.csn) refl (insert_descending t d)
  where
    go : (b : Bool) → leb u.csn t.csn ≡ b → Descending (insert_desc t l) → Descending (cond b (t ∷ u ∷ l) (u ∷ insert_desc t l))
    go true e k = top (all_lower t u e h) (top h d)
    go false e k = let lt : t.csn < u.csn = leb-false u.csn t.csn e in top (insert_all t (omega arith) h) k

sort_descending : (l : List Tx) → Descending (sort_desc l)
sort_descending [] = bottom
sort_descending (t ∷ l) = insert_descending t (sort_descending l)

-- as many as before

insert_length : (t : Tx) (l : List Tx) → length (insert_desc t l) ≡ suc (length l)
insert_length t [] = refl
insert_length t (u ∷ l) = go (leb u.csn t.csn) (insert_length t l)
  where
    go : (b : Bool) → length (insert_desc t l) ≡ suc (length l) → length (cond b (t ∷ u ∷ l) (u ∷ insert_desc t l)) ≡ suc (suc (length l))
    go true ih = refl
    go false ih = ap suc ih

pub sort_length : (l : List Tx) → length (sort_desc l) ≡ length l
sort_length [] = refl
sort_length (t ∷ l) = insert_length t (sort_desc l) ∙ ap suc (sort_length l)

-- the first of the highest goes to the front: before it only lower ones, after it none that is higher

insert_first : (t : Tx) {l : List Tx} → AllLe t.csn l → insert_desc t l ≡ t ∷ l
insert_first t nil = refl
insert_first t (cons {x = u} h hs) = rw (le-leb u.csn t.csn h)

pub sort_pick : (t : Tx) {xs : List Tx} (ys : List Tx) → AllLt t.csn xs → AllLe t.csn ys → sort_desc (xs ++ t ∷ ys) ≡ t ∷ sort_desc (xs ++ ys)
sort_pick t ys nil q = insert_first t (sort_all q)
sort_pick t ys (cons {x} h hs) q = ap (insert_desc x) (sort_pick t ys hs q) ∙ rw (lt-leb t.csn x.csn h)

pub sort_top : (t : Tx) (xs ys : List Tx) → AllLt t.csn (xs ++ ys) → sort_desc (xs ++ t ∷ ys) ≡ t ∷ sort_desc (xs ++ ys)
sort_top t xs ys h = sort_pick t ys (all_left xs ys h) (all_map (λ u k. omega arith) (all_right xs h))

-- a test before or after the sorting

module _ (p : Tx → Bool) where
  filter_insert : (t : Tx) {l : List Tx} → Descending l → filter p (insert_desc t l) ≡ cond (p t) (insert_desc t (filter p l)) (filter p l)
  filter_insert t bottom = refl
  filter_insert t (top {t = u} {ts = l} h d) = go (leb u.csn t.csn) refl (p t) refl (p u) refl (filter_insert t d)
    where
      go : (b : Bool) → leb u.csn t.csn ≡ b → (x : Bool) → p t ≡ x → (y : Bool) → p u ≡ y
          → filter p (insert_desc t l) ≡ cond (p t) (insert_desc t (filter p l)) (filter p l)
          → filter p (cond b (t ∷ u ∷ l) (u ∷ insert_desc t l)) ≡ cond (p t) (insert_desc t (filter p (u ∷ l))) (filter p (u ∷ l))
      go true e true q y r ih = rw q (sym (insert_first t (all_filter p (all_lower t u e h))))
      go true e false q y r ih = rw q
      go false e true q true r ih = rw (q, r, e) (ap (λ (k : List Tx). u ∷ k) (ih ∙ rw q))
      go false e true q false r ih = rw (q, r) (ih ∙ rw q)
      go false e false q true r ih = rw (q, r) (ap (λ (k : List Tx). u ∷ k) (ih ∙ rw q))
      go false e false q false r ih = rw (q, r) (ih ∙ rw q)

  pub filter_sort : (l : List Tx) → filter p (sort_desc l) ≡ sort_desc (filter p l)
  filter_sort [] = refl
  filter_sort (t ∷ l) = filter_insert t (sort_descending l) ∙ go (p t) (filter_sort l)
    where
      go : (b : Bool) → filter p (sort_desc l) ≡ sort_desc (filter p l)
          → cond b (insert_desc t (filter p (sort_desc l))) (filter p (sort_desc l)) ≡ sort_desc (cond b (t ∷ filter p l) (filter p l))
      go true ih = ap (insert_desc t) ih
      go false ih = ih

pub above_sort : (n : ℕ) (l : List Tx) → above n (sort_desc l) ≡ sort_desc (above n l)
above_sort n l = filter_sort (is_above n) l
