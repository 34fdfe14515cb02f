-- Held bytes and log room in the words of `recovery`: what numbers 9 and 13 say of the view.
use Prim.Native.Nat.{ℕ, zero, suc, ◌+◌, ◌≤◌, ◌<◌}
use native.Mathlib.Omega.{arith}
use mathlib.Core.Bool.{Bool, true, false, cond, not, ◌&&◌}
use mathlib.Core.List.{List, ◌∷◌}
use mathlib.Core.Path.{◌≡◌, refl, sym, ap, ap₂, ◌∙◌}
use lib.ListN.{length, get_or}
use lib.Dec.{eqb, ltb}
use borrow.Author.Tests.{eqb-true, eqb-false, eq-eqb, ne_eqb}
use Rattle.recovery.specs.Group.{Write, groups_size}
use Rattle.recovery.specs.Lists.{any}
use Rattle.recovery.specs.Transaction.{Tx as Transaction, running, overlap, held_by_other, reserved}
use Rattle.redolog.specs.Flat.{write_at}
use Rattle.transaction.specs.declared.records.Records.{Records}
use Rattle.transaction.specs.Lists.{up_from, sum_of}
use Rattle.transaction.specs.View.{range_at, ranges_of, writes_of}
use Rattle.transaction.specs.Rules.{records_ok, state_ok, meets, reading, writing, held_against, room_of}
use Rattle.transaction.proofs.Lists.{every_at, any_same, any_weaker}
use Rattle.transaction.proofs.Held.{free_read}
use Rattle.transaction.proofs.RangeLaws.{counted, ranged}
use Rattle.transaction.proofs.Writes.{writes_up, bytes_length, sized}
use Rattle.transaction.proofs.Pushed.{Sized}
use Rattle.image.proofs.Rules.{undo_at_lem}
use Rattle.store.specs.declared.State.{State}
use Rattle.store.specs.State.{tx_at, txs_of, image_of}
use Rattle.store.specs.Rules.{tail_length, room_used}
use Rattle.store.specs.View.{view_at, live}
use Rattle.store.proofs.Fits.{Fit, status_at}
use Rattle.store.proofs.Admitting.{redo_records}
use Rattle.store.proofs.Stepping.{SizedState}

-- a record over one of the bytes, as a range and as a write
over : (r : Records) (a : ℕ) (bs : List ℕ) → Sized r → records_ok (ranges_of r.ranges) ≡ true
    → any (meets a (length bs)) (ranges_of r.ranges) ≡ any (λ u. overlap u (record { addr = a; bytes = bs })) (writes_of r)
over r a bs z e =
    let w : Write = record { addr = a; bytes = bs } in
    let at = write_at r.ranges.addr r.ranges.len r.bytes in
    any_same (meets a (length bs)) (λ u. overlap u w) (range_at r.ranges) at r.ranges.count 0
    (λ j p q.
    let c = counted r.ranges e in
    let l = bytes_length r j z.space (omega arith) (ranged r.ranges e j (omega arith)).1 in
    ap (λ (n : ℕ). ltb (get_or r.ranges.addr j 0) (a + length bs) && ltb a (get_or r.ranges.addr j 0 + n)) (sym l))
    ∙ ap (any (λ u. overlap u w)) (sym (writes_up r.ranges.addr r.ranges.len r.bytes r.ranges.count 0))

module _ (s : State) (m t : List ℕ) (z : SizedState s) (f : Fit s t) where
  -- a listed transaction is running exactly if it is not committing
  status : (i : ℕ) → i < s.count → eqb (tx_at s i).status 1 ≡ not (eqb (tx_at s i).status 2)
  status i h = go (eqb (tx_at s i).status 2) refl
    where
      go : (b : Bool) → eqb (tx_at s i).status 2 ≡ b → eqb (tx_at s i).status 1 ≡ not b
      go true e = ne_eqb (tx_at s i).status 1 (λ q. omega (arith, q, eqb-true (tx_at s i).status 2 e))
      go false e = eq-eqb (tx_at s i).status 1 (status_at s t f i h (eqb-false (tx_at s i).status 2 e))

  held_at : (id a : ℕ) (bs : List ℕ) (i : ℕ) → i < s.count
      → held_against reading id a (length bs) (tx_at s i)
      ≡ (not (eqb id (view_at s i).id) && (not (view_at s i).committing && any (λ u. overlap u (record { addr = a; bytes = bs })) (view_at s i).undo))
  unfolding held_against
  held_at id a bs i h =
      ap₂ (λ (x y : Bool). not (eqb id (tx_at s i).id.0) && (x && y)) (status i h)
      (over (tx_at s i).undo a bs (z.each i h).undos (undo_at_lem (image_of s) f.image i h))

  -- number 9 of a read
  pub held_view : (id a : ℕ) (bs : List ℕ) → any (held_against reading id a (length bs)) (txs_of s) ≡ held_by_other id (record { addr = a; bytes = bs }) (live s m t).txs
  held_view id a bs =
      any_same (held_against reading id a (length bs))
      (λ x. not (eqb id x.id) && (not x.committing && any (λ u. overlap u (record { addr = a; bytes = bs })) x.undo)) (tx_at s) (view_at s) s.count 0
      (λ i p q. held_at id a bs i (omega arith))

  -- what is free to write is free to read: recovery knows no holds of reads
  pub free_view : (id a : ℕ) (bs : List ℕ) → any (held_against writing id a (length bs)) (txs_of s) ≡ false
      → held_by_other id (record { addr = a; bytes = bs }) (live s m t).txs ≡ false
  free_view id a bs e = sym (held_view id a bs) ∙ any_weaker (held_against reading id a (length bs)) (held_against writing id a (length bs)) (txs_of s)
      (λ x q. free_read x a (length bs) id q) e

  reserved_at : (i : ℕ) → i < s.count → (ts : List Transaction) → room_of (tx_at s i) + reserved (running ts) ≡ reserved (running (view_at s i ∷ ts))
  reserved_at i h ts = go (eqb (tx_at s i).status 2) refl
    where
      go : (b : Bool) → eqb (tx_at s i).status 2 ≡ b
          → room_of (tx_at s i) + reserved (running ts) ≡ reserved (cond (not b) (view_at s i ∷ running ts) (running ts))
      go true e = let q : eqb (tx_at s i).status 1 ≡ false = status i h ∙ ap not e in rw q (omega arith)
      go false e =
          let one = status_at s t f i h (eqb-false (tx_at s i).status 2 e) in
          let r = (tx_at s i).redo in
          let k = redo_records (tx_at s i) (undo_at_lem (image_of s) f.image i h)
          (every_at (tx_at s) state_ok s.count 0 f.states i (omega arith) (omega arith)) one in
          let l = sized r (z.each i h).redos.space (counted r.ranges k) (λ j b. (ranged r.ranges k j b).1) in
          rw (eq-eqb (tx_at s i).status 1 one) (omega (arith, l))

  reserved_from : (k i : ℕ) → i + k ≤ s.count → sum_of room_of (up_from (tx_at s) k i) ≡ reserved (running (up_from (view_at s) k i))
  reserved_from zero i h = refl
  reserved_from (suc k) i h =
      ap (λ (n : ℕ). room_of (tx_at s i) + n) (reserved_from k (suc i) (omega arith)) ∙ reserved_at i (omega arith) (up_from (view_at s) k (suc i))

  -- numbers 2 and 13
  pub room_view : room_used s t ≡ s.logend + groups_size (live s m t).tail + reserved (running (live s m t).txs)
  room_view = ap (λ (n : ℕ). s.logend + tail_length s.ondisk.0 t + n) (reserved_from s.count 0 (omega arith))
