-- Laws of checks in order: a refusal of the first ones is the whole list's, and what holds where none refuses.
use native.Mathlib.Omega.{arith}
use mathlib.Core.Bool.{Bool, true, false, ◌&&◌}
use mathlib.Core.List.{List, [], ◌∷◌, ◌++◌}
use mathlib.Core.Path.{◌≡◌, refl, sym, ◌∙◌}
use Rattle.std.specs.Prelude.{Result, Ok, Err}
use Rattle.std.specs.Result.{result_and}
use lib.Dec.{eqb, ltb}
use borrow.Author.Tests.{ltb-true, eqb-false}
use Rattle.redolog.proofs.Basics.{and_left, and_right}
use Rattle.layout.specs.declared.refusal.Refusal.{Refusal}
use Rattle.layout.specs.declared.refusal.Refusal.TheVariants.{WrongLength, Unfit, BadPointer, BadImage, NoRoomToUndo, NotListed, Committing, BadRange, Held, TooManyWrites, TooManyTransactions, CounterAtEnd, LogFull, NotDurable, TooManyReads, TwoPages, BadPage, NoSavepoint, TooManySavepoints, BadList}
use Rattle.layout.specs.Refusal.{number_of, refused_by}
use Rattle.store.specs.Numbers.{Check, check, first_number}

-- each has a number
abbrev pub positive : List Check → Bool
positive [] = true
positive (check n b ∷ cs) = ltb 0 n && positive cs

pub stops : (cs ds : List Check) → (first_number cs ≡ 0 → ⊥) → first_number (cs ++ ds) ≡ first_number cs
stops [] ds h = absurd (h refl)
stops (check n true ∷ cs) ds h = refl
stops (check n false ∷ cs) ds h = stops cs ds h

pub passes : (cs ds : List Check) → positive cs ≡ true → first_number cs ≡ 0 → first_number (cs ++ ds) ≡ first_number ds
passes [] ds p h = refl
passes (check n true ∷ cs) ds p h = absurd (omega (arith, ltb-true 0 n (and_left (ltb 0 n) (positive cs) p), h))
passes (check n false ∷ cs) ds p h = passes cs ds (and_right (ltb 0 n) (positive cs) p) h

-- each condition fails
abbrev pub Passed : List Check → Type 0
Passed [] = Unit {0}
Passed (check n b ∷ cs) = (b ≡ false) × Passed cs

-- checks that did not refuse, nor did those after them
pub passed : (cs ds : List Check) → positive cs ≡ true → first_number (cs ++ ds) ≡ 0 → Passed cs × (first_number ds ≡ 0)
passed [] ds p h = (tt, h)
passed (check n true ∷ cs) ds p h = absurd (omega (arith, ltb-true 0 n (and_left (ltb 0 n) (positive cs) p), h))
passed (check n false ∷ cs) ds p h = let r = passed cs ds (and_right (ltb 0 n) (positive cs) p) h in ((refl, r.0), r.1)

-- a refusal has a number
pub refused_some : (r : Refusal) → eqb (number_of r) 0 ≡ false
refused_some WrongLength = refl
refused_some Unfit = refl
refused_some BadPointer = refl
refused_some BadImage = refl
refused_some NoRoomToUndo = refl
refused_some NotListed = refl
refused_some Committing = refl
refused_some BadRange = refl
refused_some Held = refl
refused_some TooManyWrites = refl
refused_some TooManyTransactions = refl
refused_some CounterAtEnd = refl
refused_some LogFull = refl
refused_some NotDurable = refl
refused_some TooManyReads = refl
refused_some TwoPages = refl
refused_some BadPage = refl
refused_some NoSavepoint = refl
refused_some TooManySavepoints = refl
refused_some BadList = refl

-- the first checks refuse
pub refused_first : (r : Refusal) (cs ds : List Check) → number_of r ≡ first_number cs → first_number (cs ++ ds) ≡ number_of r
refused_first r cs ds e = stops cs ds (λ z. eqb-false _ _ (refused_some r) (e ∙ z)) ∙ sym e

-- one after the other
pub refused_and : {A : Type 0} (a b : Result A Refusal) (cs ds : List Check) → positive cs ≡ true → refused_by a ≡ first_number cs
    → refused_by b ≡ first_number ds → refused_by (result_and a b) ≡ first_number (cs ++ ds)
refused_and (Ok x) b cs ds p e f = f ∙ sym (passes cs ds p (sym e))
refused_and (Err r) b cs ds p e f = sym (refused_first r cs ds e)

pub named : (r : Refusal) → number_of r ≡ 0 → ⊥
named r = eqb-false (number_of r) 0 (refused_some r)
