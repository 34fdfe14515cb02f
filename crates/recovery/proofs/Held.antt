-- Number 9: where no byte of the range is held by another, no other running transaction has a record over one of them.
use mathlib.Core.Path.{◌≡◌, refl, sym, ap}
use mathlib.Core.Logic.{◌≢◌, ◌⊎◌, inl, inr}
use mathlib.Core.Bool.{Bool, true, false, not, ◌&&◌}
use mathlib.Core.Option.{none}
use mathlib.Core.List.{List, ◌∷◌, ◌++◌}
use Prim.Native.Nat.{ℕ, ◌+◌}
use native.Mathlib.Omega.{arith}
use lib.Dec.{eqb, leb, ltb}
use lib.ListN.{length}
use borrow.Author.Tests.{ne_eqb, leb-true, leb-false, ltb-true, ltb-false}
use Rattle.recovery.specs.Group.{Write}
use Rattle.recovery.specs.Lists.{All, nil, cons, any}
use Rattle.recovery.specs.Transaction.{Tx, running, overlap, held_by_other}
use Rattle.recovery.proofs.Bool.{opposed, and_cases}
use Rattle.recovery.proofs.Lists.{all_map, all_zip, all_less, all_passing, none_any}
use Rattle.recovery.proofs.Transactions.{is_running, DistinctIds, Found, found_running, found_apart}
use Rattle.recovery.proofs.Byte.{seen, seen_out, oldest}
use Rattle.recovery.proofs.LiveByte.{Quiet, RunningAt, quiet_by_undo}

-- ranges without a byte in common: what the one covers, the other leaves
apart_byte : (a : ℕ) (u w : Write) → overlap u w ≡ false → seen a w ≢ none → seen a u ≡ none
apart_byte a u w e s = go (and_cases (ltb u.addr end_w) (ltb w.addr end_u) e) (leb w.addr a) refl (ltb a end_w) refl
  where
    end_u : ℕ
    end_u = u.addr + length u.bytes

    end_w : ℕ
    end_w = w.addr + length w.bytes

    go : (ltb u.addr end_w ≡ false) ⊎ (ltb w.addr end_u ≡ false) → (x : Bool) → leb w.addr a ≡ x → (y : Bool) → ltb a end_w ≡ y → seen a u ≡ none
    go m false p y q = absurd (s (seen_out a w.addr w.bytes (inl (leb-false w.addr a p))))
    go m true p false q = absurd (s (seen_out a w.addr w.bytes (inr (ltb-false a end_w q))))
    go (inl m) true p true q = seen_out a u.addr u.bytes (inl (omega (arith, ltb-true a end_w q, ltb-false u.addr end_w m)))
    go (inr m) true p true q = seen_out a u.addr u.bytes (inr (omega (arith, leb-true w.addr a p, ltb-false w.addr end_u m)))

apart_oldest : (a : ℕ) (w : Write) {us : List Write} → seen a w ≢ none → All (λ u. overlap u w ≡ false) us → oldest a us ≡ none
apart_oldest a w s nil = refl
apart_oldest a w s (cons {x = u} h hs) = rw (apart_byte a u w h s) (apart_oldest a w s hs)

pub unheld : (i : ℕ) (w : Write) (txs : List Tx) (a : ℕ) → held_by_other i w txs ≡ false → seen a w ≢ none
    → All (λ t. t.id ≢ i → oldest a t.undo ≡ none) (running txs)
unheld i w txs a h s = all_passing is_running
    (all_map (λ t e run n. go t n run (and_cases (not (eqb i t.id)) (not t.committing && over t) e)) (none_any by_other txs h))
  where
    over : Tx → Bool
    over t = any (λ u. overlap u w) t.undo

    by_other : Tx → Bool
    by_other t = not (eqb i t.id) && (not t.committing && over t)

    go : (t : Tx) → t.id ≢ i → not t.committing ≡ true → (not (eqb i t.id) ≡ false) ⊎ ((not t.committing && over t) ≡ false)
        → oldest a t.undo ≡ none
    go t n run (inl e) = absurd (opposed (ap not (ne_eqb i t.id (λ q. n (sym q)))) e)
    go t n run (inr e) = apart_oldest a w s (none_any (λ u. overlap u w) t.undo (rw run at e))

-- so it has none of either kind, at a byte of the live store
pub others_quiet : {txs : List Tx} (r : Tx) (run : r.committing ≡ false) (f : Found r.id r txs) → DistinctIds txs → (w : Write)
    → held_by_other r.id w txs ≡ false → (a x mem : ℕ) → RunningAt a x mem (running f.before ++ r ∷ running f.after) → seen a w ≢ none
    → All (Quiet a) (running f.before ++ running f.after)
others_quiet {txs} r run f d w free a x mem live touched =
    all_map (λ t p. p.0 (p.1.0 p.1.1))
    (all_zip (all_less xs r ys (quiet_by_undo a x mem live))
    (all_zip (all_less xs r ys (rw (found_running r run f) at (unheld r.id w txs a free touched))) (found_apart r run f d)))
  where
    xs : List Tx
    xs = running f.before

    ys : List Tx
    ys = running f.after
