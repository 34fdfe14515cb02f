-- What is right of a quick call, and the cases of its tests.
use Prim.Native.Nat.{ℕ, ◌≤◌, ◌<◌}
use native.Mathlib.Omega.{arith}
use mathlib.Core.Bool.{Bool, true, false, cond}
use mathlib.Core.List.{List}
use mathlib.Core.Option.{Option, none, some}
use mathlib.Core.Path.{◌≡◌, refl, ap, ap₂, ◌∙◌}
use lib.ListN.{length, replicate, length-replicate}
use lib.Dec.{eqb, ltb}
use borrow.Author.Tests.{eqb-true, eqb-false, ltb-true, ltb-false}
use Rattle.store.specs.declared.State.{State}
use Rattle.store.specs.Answer.{done, cut}
use Rattle.store.specs.State.{unrecovered}
use Rattle.store.specs.Calls.{decided}
use Rattle.history.specs.Calls.{Reply, told, Stepped}
use Rattle.history.proofs.Padded.{padded}
use Rattle.history.proofs.Quick.{widened, Lengths, LengthsOf, Went, telling, cutting}

-- where there is an answer it is the step's, and what is left has its lengths
abbrev pub Right : Stepped → Option Went → Type 0
Right x none = Unit {0}
Right x (some w) = (x ≡ record { reply = w.reply; world = widened w.left }) × LengthsOf w.left

pub decide : (x : Stepped) (n : ℕ) (f g : Option Went) → (n ≡ 0 → Right x f) → ((n ≡ 0 → ⊥) → Right x g) → Right x (decided n f g)
decide x n f g p q = go (eqb n 0) refl
  where
    go : (b : Bool) → eqb n 0 ≡ b → Right x (cond b f g)
    go true e = p (eqb-true n 0 e)
    go false e = q (eqb-false n 0 e)

-- where a test fails there is no answer
pub tested : (x : Stepped) (b : Bool) (f : Option Went) → (b ≡ true → Right x f) → Right x (cond b f none)
tested x true f p = p refl
tested x false f p = tt

pub enough : (x : Stepped) (a need : ℕ) (f g : Option Went) → (a < need → Right x f) → (need ≤ a → Right x g) → Right x (cond (ltb a need) f g)
enough x a need f g p q = go (ltb a need) refl
  where
    go : (b : Bool) → ltb a need ≡ b → Right x (cond b f g)
    go true e = p (ltb-true a need e)
    go false e = q (ltb-false a need e)

-- ---- how a step ends

abbrev pub stepped : Reply → List ℕ → List ℕ → List ℕ → State → Stepped
stepped r d m t s = record { reply = r; world = record { disk = d; memory = m; tail = t; state = s } }

pub done_right : (x : Stepped) {v j n : ℕ} {y d m t bs : List ℕ} {s : State} → x ≡ stepped (told done v j) y m t s → j ≡ n → y ≡ d → t ≡ padded bs
    → Lengths d m bs → Right x (telling v n d m bs s)
done_right x {v} {j} {n} {y} {d} {m} {t} {bs} {s} e c i p l =
    (e ∙ ap₂ (λ (k : ℕ) (z : List ℕ). stepped (told done v k) z m t s) c i ∙ ap (λ (z : List ℕ). stepped (told done v n) d m z s) p, l)

-- "memory and tail are then zero and the state is unrecovered"
abbrev pub cut_step : ℕ → List ℕ → Stepped
cut_step n d = stepped (told cut 0 n) d (replicate 4096 0) (replicate 16384 0) unrecovered

pub cut_right : (x : Stepped) {j n : ℕ} {y d : List ℕ} → x ≡ cut_step j y → j ≡ n → y ≡ d → length d ≡ 33691 → Right x (cutting n d)
cut_right x e c i l = (e ∙ ap₂ cut_step c i, record { disk = l; memory = length-replicate {A = ℕ} 4096 0; tail = omega arith })
