-- Calls that store on the disk: numbers 1 and 2, and the cases of the outcome.
use Prim.Native.Nat.{ℕ, ◌≤◌, ◌<◌}
use mathlib.Core.Bool.{Bool, true, false, cond, not}
use mathlib.Core.List.{List, [], ◌∷◌}
use mathlib.Core.Path.{◌≡◌, refl, sym, ap, ◌∙◌}
use lib.ListN.{length}
use lib.Dec.{eqb}
use borrow.Author.Tests.{eq-eqb, ne_eqb, lt-ltb, le-ltb, eqb-true, not-false}
use Rattle.store.specs.declared.State.{State}
use Rattle.store.specs.Answer.{Told}
use Rattle.store.specs.Rules.{tail_length}
use Rattle.store.specs.Numbers.{check, first_number, shared_checks}
use Rattle.store.specs.Admission.{Admission, not_admitted, admission, disk_admission}
use Rattle.store.specs.Calls.{refusing}
use Rattle.store.specs.Stored.{disk_checks, DiskOutcome, Plan, cut_short, made_whole, carried_out, stored_by}
use Rattle.store.proofs.Fits.{Fit, unfit_no}
use Rattle.store.proofs.Checks.{passed}
use Rattle.store.proofs.Admitting.{unrefused, number_is, admitted}

-- ---- a plan, by the stores allowed

pub carried_cut : (p : Plan) (n : ℕ) (d : List ℕ) → n < length p.stores
    → carried_out p n d ≡ cut_short p n d
unfolding carried_out
carried_cut p n d h = rw (lt-ltb _ _ h)

pub carried_done : (p : Plan) (n : ℕ) (d : List ℕ) → length p.stores ≤ n
    → carried_out p n d ≡ made_whole p n d
unfolding carried_out
carried_done p n d h = rw (le-ltb _ _ h)

-- ---- a call that is not refused

pub record DiskAdmitted (s : State) (d m t : List ℕ) : Type 0 where
  pub disk : length d ≡ 33691
  pub memory : length m ≡ 4096
  pub tail : length t ≡ 16384
  pub fits : Fit s t

module _ (s : State) (d m t : List ℕ) where
  abbrev pub disk_number : ℕ
  disk_number = first_number (disk_checks s (length d) (length m) t)

  pub disk_admitted : disk_number ≡ 0 → DiskAdmitted s d m t
  disk_admitted z =
      let p = passed (check 1 (not (eqb (length d) 33691)) ∷ []) (shared_checks s (length m) t) refl z in
      let x = unrefused s (length m) t [] p.1 in
      record { disk = eqb-true _ _ (not-false _ p.0.0); memory = x.memory; tail = x.tail; fits = x.fits }

  -- x is the admission of a call that is lent a disk
  module _ (x : Admission) (e : x ≡ disk_admission s (length d) (length m) t) where
    pub disk_number_lem : x.number ≡ disk_number
    unfolding disk_admission
    disk_number_lem = ap (λ (y : Admission). y.number) e ∙ go (eqb (length d) 33691)
      where
        go : (b : Bool) → (cond b (admission s (length m) t) (not_admitted 1)).number ≡ first_number (check 1 (not b) ∷ shared_checks s (length m) t)
        go true = number_is s (length m) t (admission s (length m) t) refl
        go false = refl

    pub disk_end : x.number ≡ 0 → x.end ≡ tail_length s.ondisk.0 t
    unfolding disk_admission
    disk_end h =
        let l = (disk_admitted (sym disk_number_lem ∙ h)).disk in
        (admitted s (length m) t x (e ∙ rw (eq-eqb (length d) 33691 l)) h).end

  pub disk_passes : DiskAdmitted s d m t → disk_number ≡ 0
  disk_passes a = rw (eq-eqb _ _ a.disk, eq-eqb _ _ a.memory, eq-eqb _ _ a.tail, unfit_no s t a.fits)

  -- ---- the outcome, by the number and the stores allowed

  module _ (p : Plan) (allowed : ℕ) where
    pub stored_refused : (n : ℕ) → disk_number ≡ n → (n ≡ 0 → ⊥) → stored_by s d m t p allowed ≡ record { result = refusing n s; disk = d; memory = m; tail = t }
    unfolding stored_by
    stored_refused n e h = rw (e, ne_eqb n 0 h)

    pub stored_cut : disk_number ≡ 0 → allowed < length p.stores → stored_by s d m t p allowed ≡ cut_short p allowed d
    unfolding stored_by
    stored_cut e h = rw e (carried_cut p allowed d h)

    pub stored_done : disk_number ≡ 0 → length p.stores ≤ allowed → stored_by s d m t p allowed ≡ made_whole p allowed d
    unfolding stored_by
    stored_done e h = rw e (carried_done p allowed d h)

-- the parts of an outcome x, as a contract asks for them of the definition
pub leaves : {o x : DiskOutcome} {r : Told} {d m t : List ℕ} → o ≡ x → r ≡ x.result → d ≡ x.disk → m ≡ x.memory → t ≡ x.tail
    → (r ≡ o.result) × ((d ≡ o.disk) × ((m ≡ o.memory) × (t ≡ o.tail)))
leaves e p q u v = (
  p ∙ ap (λ (y : DiskOutcome). y.result) (sym e),
  (q ∙ ap (λ (y : DiskOutcome). y.disk) (sym e), (u ∙ ap (λ (y : DiskOutcome). y.memory) (sym e), v ∙ ap (λ (y : DiskOutcome). y.tail) (sym e))),
)
