-- What the image rules say of the transactions in the slots.
use Prim.Native.Nat.{ℕ, zero, suc, ◌+◌, ◌≤◌, ◌<◌}
use native.Mathlib.Omega.{arith}
use mathlib.Core.Bool.{Bool, true, false, cond, not, ◌&&◌}
use mathlib.Core.List.{List}
use mathlib.Core.Option.{none, some}
use mathlib.Core.Path.{◌≡◌, refl, sym, subst}
use lib.Dec.{leb, eqb}
use borrow.Author.Tests.{leb-true, leb-false, eqb-true, eqb-false, ne_eqb}
use Rattle.recovery.specs.Lists.{All}
use Rattle.recovery.specs.Transaction.{Tx as Transaction, lookup}
use Rattle.recovery.proofs.Bool.{or_left}
use Rattle.recovery.proofs.Distinct.{empty, more}
use Rattle.recovery.proofs.Transactions.{DistinctIds, lookup_own, lookup_none}
use Rattle.redolog.proofs.Basics.{and_left, and_right}
use Rattle.transaction.specs.Lists.{up_from}
use Rattle.transaction.specs.Rules.{head_ok}
use Rattle.transaction.proofs.Lists.{all_at, all_up}
use Rattle.image.specs.declared.Image.{Image}
use Rattle.image.specs.Slots.{outline_at}
use Rattle.image.specs.Rules.{keeps_rules}
use Rattle.image.proofs.Rules.{image_count, image_distinct_lem, head_at, distinct_at}
use Rattle.std.specs.Prelude.{Some, None}
use Rattle.image.specs.Content.{transactions_in}
use Rattle.restart.specs.Slots.{transaction_at, has_id_at, image_slot}
use Rattle.restart.specs.Turns.{StatusByCsn}
use Rattle.restart.proofs.SlotLaws.{first_at, first_none, txs_up}

-- the number tells the status
numbers : (last assigned id status csn : ℕ) → head_ok last assigned id status csn ≡ true
    → (eqb status 1 ≡ eqb csn 0) × (eqb status 2 ≡ not (eqb csn 0))
unfolding head_ok
numbers last assigned id status csn e = go (eqb status 1) refl (and_right (leb id last) _ (and_right (leb 1 id) _ e))
  where
    go : (b : Bool) → eqb status 1 ≡ b → cond b (eqb csn 0) (eqb status 2 && (leb 1 csn && leb csn assigned)) ≡ true
        → (b ≡ eqb csn 0) × (eqb status 2 ≡ not (eqb csn 0))
    go true q h = let s : status ≡ 1 = eqb-true status 1 q in (sym h, rw (s, h))
    go false q h =
        let s = and_left (eqb status 2) _ h in
        let n = leb-true 1 csn (and_left (leb 1 csn) _ (and_right (eqb status 2) _ h)) in
        let z = ne_eqb csn 0 (λ z. omega (arith, n, z)) in
        (sym z, rw (s, z))

module _ (image : Image) (ok : keeps_rules image ≡ true) where
  pub status_by_csn : StatusByCsn image
  status_by_csn =
      record {
        few = image_count image ok;
        running = λ i h. (numbers _ _ _ _ _ (head_at image ok i h)).0;
        committing = λ i h. (numbers _ _ _ _ _ (head_at image ok i h)).1;
      }

  -- no id stands in two slots
  apart : (a b : ℕ) → a < b → b < image.count → (transaction_at image a).id ≡ (transaction_at image b).id → ⊥
  apart a b l u =
      eqb-false _ _ (or_left (eqb (transaction_at image a).id (transaction_at image b).id) _
      (distinct_at (outline_at image.txs) image.count 0 (image_distinct_lem image ok) a b (omega arith) l (omega arith)))

  -- a slot by its id
  pub same_slot : (i j : ℕ) → i < image.count → j < image.count → (transaction_at image i).id ≡ (transaction_at image j).id → (i ≡ j → ⊥) → ⊥
  same_slot i j h k e n = go (leb i j) refl
    where
      go : (b : Bool) → leb i j ≡ b → ⊥
      go true q = let l = leb-true i j q in apart i j (omega (arith, n)) k e
      go false q = apart j i (omega (arith, leb-false i j q)) h (sym e)

  pub distinct_ids : DistinctIds (transactions_in image)
  distinct_ids = rw txs_up (go image.count 0 (λ a b h l u. apart a b l (omega arith)))
    where
      go : (k i : ℕ) → ((a b : ℕ) → i ≤ a → a < b → b < i + k → (transaction_at image a).id ≡ (transaction_at image b).id → ⊥)
          → DistinctIds (up_from (transaction_at image) k i)
      go zero i h = empty
      go (suc k) i h =
          more (all_up (transaction_at image) k (suc i) (λ j l u e. h i j (omega arith) (omega arith) (omega arith) (sym e)))
          (go k (suc i) (λ a b l m u. h a b (omega arith) m (omega arith)))

  -- the list has under an id what the slot has
  pub lookup_at : (id k : ℕ) → image_slot image id ≡ Some k → lookup id (transactions_in image) ≡ some (transaction_at image k)
  lookup_at id k q =
      let f = first_at (has_id_at image id) image.count k q in
      let own : All (λ t. lookup t.id (transactions_in image) ≡ some t) (up_from (transaction_at image) image.count 0) =
      subst (λ (ts : List Transaction). All (λ t. lookup t.id (transactions_in image) ≡ some t) ts) (txs_up image) (lookup_own distinct_ids) in
      subst (λ (x : ℕ). lookup x (transactions_in image) ≡ some (transaction_at image k)) (eqb-true _ id f.1)
      (all_at (transaction_at image) image.count 0 own k (omega arith) (omega (arith, f.0)))

  pub lookup_nowhere : (id : ℕ) → image_slot image id ≡ None → lookup id (transactions_in image) ≡ none
  lookup_nowhere id q =
      lookup_none {i = id} {txs = transactions_in image}
      (rw txs_up (all_up (transaction_at image) image.count 0
      (λ j a b. eqb-false _ id (first_none (has_id_at image id) image.count q j (omega arith)))))
