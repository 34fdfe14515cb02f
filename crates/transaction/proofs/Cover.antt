-- Cover, byte by byte, and how far a walk over the ranges comes: over covered bytes alone, and onward wherever one is covered.
use Prim.Native.Nat.{ℕ, zero, suc, ◌+◌, ◌-◌, ◌≤◌, ◌<◌}
use native.Mathlib.Decide.{dec_lt}
use native.Mathlib.Omega.{arith}
use mathlib.Core.Bool.{Bool, true, false, ◌||◌}
use mathlib.Core.List.{List, [], ◌∷◌, ◌++◌}
use mathlib.Core.Path.{◌≡◌, refl, sym, ap, ◌∙◌}
use lib.Dec.{leb, ltb}
use borrow.Author.Tests.{leb-true, ltb-true, le-leb, lt-ltb}
use Rattle.recovery.specs.Lists.{any}
use Rattle.redolog.proofs.Basics.{and_left, and_right}
use Rattle.transaction.specs.Lists.{every}
use Rattle.transaction.specs.View.{Range, range}
use Rattle.transaction.specs.Rules.{has_byte, covered, onward, reach}
use Rattle.transaction.proofs.Lists.{up_done, every_good, every_bad}

-- ---- a byte of a range

pub byte_in_lem : (b a n : ℕ) → has_byte b (range a n) ≡ true → (a ≤ b) × (b < a + n)
byte_in_lem b a n e = (leb-true a b (and_left (leb a b) (ltb b (a + n)) e), ltb-true b (a + n) (and_right (leb a b) (ltb b (a + n)) e))

pub in_byte : (b a n : ℕ) → a ≤ b → b < a + n → has_byte b (range a n) ≡ true
in_byte b a n h g = rw (le-leb a b h, lt-ltb b (a + n) g)

-- ---- one range

-- a range takes the walk to its end, or leaves it where it is
record Onward (at : ℕ) (r : Range) : Type 0 where
  above : at ≤ onward at r
  covers : (b : ℕ) → at ≤ b → b < onward at r → has_byte b r ≡ true
  stuck : onward at r ≡ at → has_byte at r ≡ false

walk : (at : ℕ) (r : Range) → Onward at r
walk at (range a n) = go (has_byte at (range a n)) refl
  where
    go : (t : Bool) → has_byte at (range a n) ≡ t → Onward at (range a n)
    go true e =
        let h = byte_in_lem at a n e in
        let to : onward at (range a n) ≡ a + n = rw e in
        record {
          above = omega (arith, to, h);
          covers = λ b l g. in_byte b a n (omega (arith, h, l)) (omega (arith, to, g));
          stuck = λ q. absurd (omega (arith, to, q, h));
        }
    go false e =
        let to : onward at (range a n) ≡ at = rw e in
        record { above = omega (arith, to); covers = λ b l g. absurd (omega (arith, to, l, g)); stuck = λ q. e }

-- ---- all of them

pub reach_above : (rs : List Range) (at : ℕ) → at ≤ reach at rs
reach_above [] at = omega arith
reach_above (r ∷ rs) at = omega (arith, (walk at r).above, reach_above rs (onward at r))

pub reach_covers : (rs : List Range) (at b : ℕ) → at ≤ b → b < reach at rs → any (has_byte b) rs ≡ true
reach_covers [] at b l g = absurd (omega arith)
reach_covers (r ∷ rs) at b l g =
    elim (dec_lt b (onward at r)) [
      | yes h ↦ rw ((walk at r).covers b l h)
      | no h ↦ later (has_byte b r) (reach_covers rs (onward at r) b (omega (arith, h)) g)
    ]
  where
    later : (t : Bool) → any (has_byte b) rs ≡ true → t || any (has_byte b) rs ≡ true
    later true e = refl
    later false e = e

pub reach_stuck : (rs : List Range) (at : ℕ) → reach at rs ≡ at → any (has_byte at) rs ≡ false
reach_stuck [] at e = refl
reach_stuck (r ∷ rs) at e =
    let here : onward at r ≡ at = omega (arith, (walk at r).above, reach_above rs (onward at r), e) in
    let on : reach at rs ≡ at = ap (λ (n : ℕ). reach n rs) (sym here) ∙ e in
    rw ((walk at r).stuck here) (reach_stuck rs at on)

pub reach_append : (rs qs : List Range) (at : ℕ) → reach at (rs ++ qs) ≡ reach (reach at rs) qs
reach_append [] qs at = refl
reach_append (r ∷ rs) qs at = reach_append rs qs (onward at r)

-- ---- cover

module _ (rs : List Range) (end : ℕ) where
  pub covered_done : (at : ℕ) → end ≤ at → covered rs at (end - at) ≡ true
  covered_done at h = ap (every (λ b. any (has_byte b) rs)) (up_done (λ b. b) end at h)

  pub covered_not : (at : ℕ) → at < end → any (has_byte at) rs ≡ false → covered rs at (end - at) ≡ false
  covered_not at h e = every_bad (λ b. b) end at h (λ b. any (has_byte b) rs) e

  -- over bytes that are covered
  skip : (d at : ℕ) → ((b : ℕ) → at ≤ b → b < at + d → any (has_byte b) rs ≡ true) → covered rs at (end - at) ≡ covered rs (at + d) (end - (at + d))
  skip zero at h = let e : at ≡ at + 0 = omega arith in ap (λ (x : ℕ). covered rs x (end - x)) e
  skip (suc d) at h =
      let e : at + 1 + d ≡ at + suc d = omega arith in
      let rest = skip d (at + 1) (λ b l g. h b (omega arith) (omega (arith, g))) ∙ ap (λ (x : ℕ). covered rs x (end - x)) e in
      elim (dec_lt at end) [
        | yes l ↦ every_good (λ b. b) end at l (λ b. any (has_byte b) rs) (h at (omega arith) (omega arith)) ∙ rest
        | no l ↦ covered_done at (omega (arith, l)) ∙ sym (covered_done (at + suc d) (omega (arith, l)))
      ]

  pub covered_skip : (at to : ℕ) → at ≤ to → ((b : ℕ) → at ≤ b → b < to → any (has_byte b) rs ≡ true) → covered rs at (end - at) ≡ covered rs to (end - to)
  covered_skip at to l h =
      let e : at + (to - at) ≡ to = omega arith in
      skip (to - at) at (λ b p q. h b p (omega (arith, q, l))) ∙ ap (λ (x : ℕ). covered rs x (end - x)) e

  pub covered_stuck : (at : ℕ) → at < end → reach at rs ≡ at → covered rs at (end - at) ≡ false
  covered_stuck at h e = covered_not at h (reach_stuck rs at e)

  pub covered_reach : (at : ℕ) → covered rs at (end - at) ≡ covered rs (reach at rs) (end - reach at rs)
  covered_reach at = covered_skip at (reach at rs) (reach_above rs at) (λ b l g. reach_covers rs at b l g)
