-- Stores of which some are past the end of a list.
use Prim.Native.Nat.{ℕ, suc, ◌+◌, ◌-◌, ◌≤◌, ◌<◌}
use native.Mathlib.Omega.{arith}
use mathlib.Core.List.{List, [], ◌∷◌}
use mathlib.Core.Path.{◌≡◌, refl, sym, ap, ◌∙◌}
use lib.ListN.{length, take, drop, take-append-drop, length-drop}
use lib.Seq.{sets, set_out, length-sets, length-take-le}
use Rattle.redolog.proofs.StoreLaws.{sets_append}

-- none of them lies within
pub sets_out : (l : List ℕ) (at : ℕ) (vs : List ℕ) → length l ≤ at → sets l at vs ≡ l
sets_out l at [] h = refl
sets_out l at (v ∷ vs) h = ap (λ (x : List ℕ). sets x (suc at) vs) (set_out l at v h) ∙ sets_out l (suc at) vs (omega arith)

-- nor any, where there are none
sets_none : (l : List ℕ) (at : ℕ) (vs : List ℕ) → (0 < length vs → length l ≤ at) → sets l at vs ≡ l
sets_none l at [] h = refl
sets_none l at (v ∷ vs) h = sets_out l at (v ∷ vs) (h (omega arith))

-- the first so many of them do, or these are all
pub sets_room : (l : List ℕ) (at : ℕ) (vs : List ℕ) (room : ℕ)
    → room ≤ length vs
    → (0 < length vs - room → length l ≤ at + room)
    → sets l at (take room vs) ≡ sets l at vs
sets_room l at vs room h e =
    let n : length (take room vs) ≡ room = length-take-le room vs h in
    let s = sets l at (take room vs) in
    let k : length s ≡ length l = length-sets l at (take room vs) in
    let d : length (drop room vs) ≡ length vs - room = length-drop room vs in
    sym
    (ap (sets l at) (sym (take-append-drop room vs))
    ∙ sets_append l at (take room vs) (drop room vs)
    ∙ sets_none s (at + length (take room vs)) (drop room vs) (λ p. omega (arith, e (omega arith))))
