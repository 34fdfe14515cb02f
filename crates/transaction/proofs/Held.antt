-- Two ranges meet exactly if they have a byte in common. What is held against a read and against a write.
use Prim.Native.Nat.{ℕ, ◌+◌, ◌≤◌, ◌<◌}
use native.Mathlib.Decide.{dec_le}
use native.Mathlib.Omega.{arith}
use mathlib.Core.Bool.{Bool, true, false, not, ◌&&◌, ◌||◌}
use mathlib.Core.List.{List, [], ◌∷◌, ◌++◌}
use mathlib.Core.Path.{◌≡◌, refl, sym, ◌∙◌}
use lib.Dec.{eqb, ltb}
use borrow.Author.Tests.{ltb-true, lt-ltb, eq-eqb, ne_eqb}
use Rattle.recovery.specs.Lists.{any}
use Rattle.redolog.proofs.Basics.{and_left, and_right}
use Rattle.transaction.specs.declared.Tx.{Tx}
use Rattle.transaction.specs.View.{range, reads_of, written_by}
use Rattle.transaction.specs.Rules.{meets, held_from, held_against}

pub record Common (a n b m : ℕ) : Type 0 where
  pub byte : ℕ
  pub here : (a ≤ byte) × (byte < a + n)
  pub there : (b ≤ byte) × (byte < b + m)

module _ (a n b m : ℕ) where
  pub meets_byte : 1 ≤ n → 1 ≤ m → meets a n (range b m) ≡ true → Common a n b m
  meets_byte h g e =
      let x = ltb-true b (a + n) (and_left (ltb b (a + n)) (ltb a (b + m)) e) in
      let y = ltb-true a (b + m) (and_right (ltb b (a + n)) (ltb a (b + m)) e) in
      elim (dec_le a b) [
        | yes p ↦ record { byte = b; here = (p, x); there = (omega arith, omega arith) }
        | no q ↦ record { byte = a; here = (omega arith, omega arith); there = (omega (arith, q), y) }
      ]

  pub byte_meets : Common a n b m → meets a n (range b m) ≡ true
  byte_meets c = rw (lt-ltb b (a + n) (omega (arith, c.here, c.there)), lt-ltb a (b + m) (omega (arith, c.here, c.there)))

-- ---- held by a transaction, or not

pub or_any : {A : Type 0} (p : A → Bool) (xs ys : List A) → any p (xs ++ ys) ≡ any p xs || any p ys
or_any p [] ys = refl
or_any p (x ∷ xs) ys = go (p x) (or_any p xs ys)
  where
    go : (b : Bool) → any p (xs ++ ys) ≡ any p xs || any p ys → b || any p (xs ++ ys) ≡ (b || any p xs) || any p ys
    go true e = refl
    go false e = e

module _ (t : Tx) (a n : ℕ) where
  pub held_own : (w : Bool) (id : ℕ) → id ≡ t.id.0 → held_against w id a n t ≡ false
  unfolding held_against
  held_own w id e = rw (eq-eqb _ _ e)

  pub held_other : (w : Bool) (id : ℕ) → (id ≡ t.id.0 → ⊥) → t.status ≡ 1 → held_against w id a n t ≡ any (meets a n) (held_from w t)
  unfolding held_against
  held_other w id o r = rw (ne_eqb _ _ o, eq-eqb _ _ r)

  pub held_idle : (w : Bool) (id : ℕ) → (id ≡ t.id.0 → ⊥) → (t.status ≡ 1 → ⊥) → held_against w id a n t ≡ false
  unfolding held_against
  held_idle w id o r = rw (ne_eqb _ _ o, ne_eqb _ _ r)

  -- what is written is held against both
  pub from_written : (w : Bool) → any (meets a n) (written_by t) ≡ true → any (meets a n) (held_from w t) ≡ true
  from_written false e = e
  from_written true e = or_any (meets a n) (written_by t) (reads_of t) ∙ rw e

  pub from_reads : any (meets a n) (written_by t) ≡ false → any (meets a n) (held_from true t) ≡ any (meets a n) (reads_of t)
  from_reads e = or_any (meets a n) (written_by t) (reads_of t) ∙ rw e

  -- what is free to write is free to read
  pub free_read : (id : ℕ) → held_against true id a n t ≡ false → held_against false id a n t ≡ false
  unfolding held_against
  free_read id = go (not (eqb id t.id.0)) (eqb t.status 1) (any (meets a n) (written_by t)) refl
    where
      go : (o r x : Bool) → any (meets a n) (written_by t) ≡ x → o && (r && any (meets a n) (held_from true t)) ≡ false → o && (r && x) ≡ false
      go false r x e h = refl
      go true false x e h = refl
      go true true false e h = refl
      go true true true e h = let y : true ≡ false = sym (from_written true e) ∙ h in cc
