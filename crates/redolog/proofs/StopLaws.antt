-- Laws of `stop_of`: what decides, and that a group which breaks off after a whole record is torn.
use Prim.Native.Nat.{ℕ, ◌<◌, ◌≤◌}
use native.Mathlib.Omega.{arith}
use mathlib.Core.Bool.{Bool, true, false, cond}
use mathlib.Core.List.{List, [], ◌∷◌}
use mathlib.Core.Option.{Option, none, some}
use mathlib.Core.Path.{◌≡◌, refl, sym, ap, ◌∙◌}
use lib.ListN.{length, get_or, drop, length-drop}
use lib.Seq.{get_or-drop}
use lib.Dec.{eqb}
use borrow.Author.Tests.{ne_eqb, eq-eqb}
use Rattle.redolog.specs.Number.{be16}
use Rattle.redolog.specs.Record.{Record, read_record}
use Rattle.redolog.specs.Stop.{stop_of}
use Rattle.redolog.specs.declared.stop.Stop.TheVariants.{Full, Zero, Torn}
use Rattle.redolog.proofs.Basics.{clash}
use Rattle.redolog.proofs.RecordLaws.{record_cases, record_short}

pub stop_full : (s : List ℕ) → length s ≡ 0 → stop_of s ≡ Full
unfolding stop_of
stop_full [] e = refl
stop_full (b ∷ s) e = absurd (omega (arith, e))

pub stop_zero : (s : List ℕ) → 0 < length s → get_or s 0 0 ≡ 0 → stop_of s ≡ Zero
unfolding stop_of
stop_zero [] h e = absurd (omega arith)
stop_zero (b ∷ s) h e = rw (eq-eqb b 0 e)

pub stop_torn : (s : List ℕ) → (get_or s 0 0 ≡ 0 → ⊥) → stop_of s ≡ Torn
unfolding stop_of
stop_torn [] h = absurd (h refl)
stop_torn (b ∷ s) h = rw (ne_eqb b 0 h)

-- by what stands at a place
first : (at : ℕ) (s : List ℕ) → get_or (drop at s) 0 0 ≡ get_or s at 0
first at s = get_or-drop at s 0 0 ∙ ap (λ (k : ℕ). get_or s k 0) (omega arith)

pub full_from : (at : ℕ) (s : List ℕ) → length s ≤ at → stop_of (drop at s) ≡ Full
full_from at s h = stop_full (drop at s) (omega (arith, length-drop at s))

pub zero_from : (at : ℕ) (s : List ℕ) → at < length s → get_or s at 0 ≡ 0 → stop_of (drop at s) ≡ Zero
zero_from at s h e = stop_zero (drop at s) (omega (arith, length-drop at s)) (first at s ∙ e)

pub torn_from : (at : ℕ) (s : List ℕ) → (get_or s at 0 ≡ 0 → ⊥) → stop_of (drop at s) ≡ Torn
torn_from at s h = stop_torn (drop at s) (λ z. h (sym (first at s) ∙ z))

pub ruleset stops_from = (full_from, zero_from, torn_from)

pub full_empty : (s : List ℕ) → stop_of s ≡ Full → length s ≡ 0
unfolding stop_of
full_empty [] e = refl
full_empty (b ∷ s) e = go (eqb b 0) e
  where
    go : (t : Bool) → cond t Zero Torn ≡ Full → length (b ∷ s) ≡ 0
    go true e = clash (cc)
    go false e = clash (cc)

-- no record begins with 0; so where a whole one stands, and its group breaks off, it is torn
pub record_zero : (s : List ℕ) → get_or s 0 0 ≡ 0 → read_record s ≡ none
unfolding read_record
record_zero s e = rw e (go (eqb (be16 s 1) 0))
  where
    go : (t : Bool) → cond {A = Option Record} t none none ≡ none
    go true = refl
    go false = refl

-- what the first bytes say of a record
pub ruleset record_fronts = (record_short, record_zero, stop_zero, stop_torn)

pub record_torn : (s : List ℕ) (r : Record) → read_record s ≡ some r → stop_of s ≡ Torn
record_torn s =
    record_cases (λ r. stop_of s ≡ Torn) s
    (λ r k e. stop_torn s (λ z. absurd (omega (arith, k, z))))
    (λ r k e. stop_torn s (λ z. absurd (omega (arith, k, z))))
    (λ r k e. stop_torn s (λ z. absurd (omega (arith, k, z))))
