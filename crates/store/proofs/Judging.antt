-- What a call decides of the extents of its state is decided of the state itself.
use Prim.Native.Nat.{ℕ}
use mathlib.Core.List.{List}
use mathlib.Core.Path.{◌≡◌, refl}
use Rattle.store.specs.declared.State.{State}
use Rattle.store.specs.declared.extents.StateExtents.{StateExtents}
use Rattle.store.specs.Extents.{HasExtents, bare_state}
use Rattle.store.specs.Rules.{room_used}
use Rattle.store.specs.Numbers.{Check, first_number, number_by}
use Rattle.store.specs.Admission.{Admission, Choice, admission, choice, judged_number, judged_choice}
use Rattle.store.proofs.Admitting.{number_after_lem}
use Rattle.store.proofs.Bare.{admitted_by, chosen_by}
use Rattle.store.proofs.Calling.{chosen_number, Placed, placed}

-- the number of the choice is the call's own; its checks may look at the room used
pub record Judged (s : State) (lent : ℕ) (t : List ℕ) (id : ℕ) (cs : ℕ → List Check) (r : Choice) : Type 0 where
  pub number : number_by s lent t (cs (room_used s t)) ≡ r.number
  pub placed : r.number ≡ 0 → Placed s t id r

module _ (s : State) (e : StateExtents) (h : HasExtents s e) (lent : ℕ) (t : List ℕ) where
  -- the admission of the extents
  abbrev x : Admission
  x = admission (bare_state e) lent t

  x_is : x ≡ admission s lent t
  x_is = admitted_by s e h lent t x refl

  pub number_call : (cs : ℕ → List Check) → number_by s lent t (cs (room_used s t)) ≡ judged_number (bare_state e) lent t cs
  number_call cs = number_after_lem s lent t x x_is cs

  pub judged_call : (id : ℕ) (ds : List Check) (cs : ℕ → List Check) → first_number ds ≡ first_number (cs x.room)
      → (r : Choice) → r ≡ choice (bare_state e) x id ds → Judged s lent t id cs r
  judged_call id ds cs f r q =
      let b = chosen_by s e h x id ds (cs x.room) f r q in
      record { number = chosen_number s lent t id x r cs x_is b; placed = λ z. placed s lent t id x r (cs x.room) x_is b z }

  -- by the same checks of either
  pub judged_by : (id : ℕ) (cs : State → ℕ → List Check) → ((n : ℕ) → first_number (cs (bare_state e) n) ≡ first_number (cs s n))
      → (r : Choice) → r ≡ judged_choice (bare_state e) lent t id (cs (bare_state e)) → Judged s lent t id (cs s) r
  judged_by id cs f r q = judged_call id (cs (bare_state e) x.room) (cs s) (f x.room) r q
