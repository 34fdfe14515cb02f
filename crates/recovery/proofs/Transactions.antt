-- Transactions by id: where one is found in the list, and what running and committing ones are left around it.
use mathlib.Core.Path.{◌≡◌, refl, sym, ap, ◌∙◌, subst}
use mathlib.Core.Logic.{◌≢◌}
use mathlib.Core.Bool.{Bool, true, false, not, cond}
use mathlib.Core.List.{List, [], ◌∷◌, ◌++◌}
use mathlib.Core.Option.{none, some}
use Prim.Native.Nat.{ℕ}
use lib.Dec.{eqb, ltb}
use borrow.Author.Tests.{eqb-true, eqb-false, ne_eqb}
use Rattle.recovery.specs.Lists.{All, nil, cons, has}
use Rattle.recovery.specs.Transaction.{Tx, running, committing, lookup, edit, remove}
use Rattle.recovery.proofs.Bool.{some_none, eqb_same, opposed}
use Rattle.recovery.proofs.Lists.{all_filter, filter_in, filter_out, filter_append}
use Rattle.recovery.proofs.Distinct.{Distinct, empty, more, distinct_others, distinct_parts}

-- the tests by which transactions are picked out
abbrev pub is_running : Tx → Bool
is_running t = not t.committing

abbrev pub is_committing : Tx → Bool
is_committing t = t.committing

abbrev pub is_above : ℕ → Tx → Bool
is_above n t = ltb n t.csn

abbrev pub is_unfinished : List ℕ → Tx → Bool
is_unfinished f t = not (has t.id f)

abbrev pub DistinctIds : List Tx → Type 0
DistinctIds txs = Distinct (λ t. t.id) txs

-- what is listed under an id, with those before and after it
pub record Found (i : ℕ) (r : Tx) (txs : List Tx) : Type 0 where
  pub before : List Tx
  pub after : List Tx
  pub whole : txs ≡ before ++ r ∷ after
  pub named : r.id ≡ i
  pub edited : (f : Tx → Tx) → edit i f txs ≡ before ++ f r ∷ after
  pub removed : remove i txs ≡ before ++ after

pub find : (i : ℕ) (r : Tx) (txs : List Tx) → lookup i txs ≡ some r → Found i r txs
find i r [] h = absurd (some_none h refl)
find i r (t ∷ ts) h = go (eqb i t.id) refl h (λ k. find i r ts k)
  where
    go : (b : Bool) → eqb i t.id ≡ b → cond b (some t) (lookup i ts) ≡ some r → (lookup i ts ≡ some r → Found i r ts) → Found i r (t ∷ ts)
    go true e k f =
        let same : t ≡ r = cc in
        record {
          before = [];
          after = ts;
          whole = ap (λ (u : Tx). u ∷ ts) same;
          named = ap (λ (u : Tx). u.id) (sym same)
              ∙ sym (eqb-true i t.id e);
          edited = λ g. rw e (ap (λ (u : Tx). g u ∷ ts) same);
          removed = rw e;
        }
    go false e k f =
        let c : Found i r ts = f k in
        record {
          before = t ∷ c.before;
          after = c.after;
          whole = ap (λ (l : List Tx). t ∷ l) c.whole;
          named = c.named;
          edited = λ g. rw e (ap (λ (l : List Tx). t ∷ l) (c.edited g));
          removed = rw e (ap (λ (l : List Tx). t ∷ l) c.removed);
        }

pub lookup_none : {i : ℕ} {txs : List Tx} → All (λ t. t.id ≢ i) txs → lookup i txs ≡ none
lookup_none nil = refl
lookup_none {i} (cons {x} h hs) = rw (ne_eqb i x.id (λ e. h (sym e))) (lookup_none hs)

pub lookup_misses : (i : ℕ) (txs : List Tx) → lookup i txs ≡ none → All (λ t. t.id ≢ i) txs
lookup_misses i [] h = nil
lookup_misses i (t ∷ ts) h = go (eqb i t.id) refl h (λ k. lookup_misses i ts k)
  where
    go : (b : Bool) → eqb i t.id ≡ b → cond b (some t) (lookup i ts) ≡ none → (lookup i ts ≡ none → All (λ u. u.id ≢ i) ts) → All (λ u. u.id ≢ i) (t ∷ ts)
    go true e k f = absurd (some_none refl k)
    go false e k f = cons (λ p. eqb-false i t.id e (sym p)) (f k)

-- with distinct ids each is found under its own
pub lookup_own : {txs : List Tx} → DistinctIds txs → All (λ t. lookup t.id txs ≡ some t) txs
lookup_own empty = nil
lookup_own (more {x} {xs} h d) = cons {x = x} (rw (eqb_same x.id)) (past h (lookup_own d))
  where
    past : {ys : List Tx} → All (λ u. u.id ≢ x.id) ys → All (λ u. lookup u.id xs ≡ some u) ys → All (λ u. lookup u.id (x ∷ xs) ≡ some u) ys
    past nil nil = nil
    past (cons {x = u} n ns) (cons k ks) = cons {x = u} (rw (ne_eqb u.id x.id n) k) (past ns ks)

-- running and committing

module _ (xs : List Tx) (r : Tx) (ys : List Tx) where
  pub running_in_lem : r.committing ≡ false → running (xs ++ r ∷ ys) ≡ running xs ++ r ∷ running ys
  running_in_lem c = filter_in is_running xs r ys (rw c)

  pub running_out : r.committing ≡ true → running (xs ++ r ∷ ys) ≡ running xs ++ running ys
  running_out c = filter_out is_running xs r ys (rw c)

  pub committing_in : r.committing ≡ true → committing (xs ++ r ∷ ys) ≡ committing xs ++ r ∷ committing ys
  committing_in c = filter_in is_committing xs r ys c

  pub committing_out : r.committing ≡ false → committing (xs ++ r ∷ ys) ≡ committing xs ++ committing ys
  committing_out c = filter_out is_committing xs r ys c

pub running_append : (xs ys : List Tx) → running (xs ++ ys) ≡ running xs ++ running ys
running_append xs ys = filter_append is_running xs ys

pub committing_append : (xs ys : List Tx) → committing (xs ++ ys) ≡ committing xs ++ committing ys
committing_append xs ys = filter_append is_committing xs ys

-- no id is both
pub running_committing : {txs : List Tx} → DistinctIds txs → All (λ t. All (λ c. c.id ≢ t.id) (committing txs)) (running txs)
running_committing d = distinct_parts is_running is_committing (λ x p q. opposed p (rw q)) d

-- a listed running transaction, among the running ones
module _ {txs : List Tx} (r : Tx) (run : r.committing ≡ false) (f : Found r.id r txs) where
  pub found_running : running txs ≡ running f.before ++ r ∷ running f.after
  found_running = ap running f.whole ∙ running_in_lem f.before r f.after run

  pub found_apart : DistinctIds txs → All (λ t. t.id ≢ r.id) (running f.before ++ running f.after)
  found_apart d = subst (λ (ts : List Tx). All (λ t. t.id ≢ r.id) ts) (running_append f.before f.after)
      (all_filter is_running (distinct_others f.before r f.after (rw f.whole at d)))
