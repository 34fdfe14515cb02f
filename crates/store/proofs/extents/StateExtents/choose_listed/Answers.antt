use Rattle.std.proofs.Common.{◌≡◌, ℕ, Bool, true, false, eqb, cond, arith, refl, sym, ap, ◌∙◌}
use Rattle.std.specs.Prelude.{Some, None}
use borrow.Author.Tests.{eqb-true, eqb-false}
use Rattle.image.proofs.Rules.{image_count}
use Rattle.store.specs.State.{image_of, slot_of}
use Rattle.store.specs.Extents.{bare_state}
use Rattle.store.specs.Admission.{Admission, listed_checks, choice}
use Rattle.store.proofs.Admitting.{seen}
use Rattle.store.proofs.Slots.{slot as find}
use Rattle.store.proofs.Choosing.{exits, choice_none, choice_some, refused_before, refused_6, passes_6}
use Rattle.store.proofs.extents.StateExtents.choose_listed.Goals as goal

-- what a search says that ended in slot k of n: in none of them, or in slot i
missed : (k n : ℕ) → None ≡ cond (eqb k n) None (Some k) → k ≡ n
missed k n = go (eqb k n) refl
  where
    go : (b : Bool) → eqb k n ≡ b → None ≡ cond b None (Some k) → k ≡ n
    go true e q = eqb-true k n e
    go false e q = absurd (cc)

met : (k n i : ℕ) → Some i ≡ cond (eqb k n) None (Some k) → (i ≡ k) × (k ≡ n → ⊥)
met k n i = go (eqb k n) refl
  where
    go : (b : Bool) → eqb k n ≡ b → Some i ≡ cond b None (Some k) → (i ≡ k) × (k ≡ n → ⊥)
    go true e q = absurd (cc)
    go false e q = (cc, eqb-false k n e)

pub returns-in_err-admitted : goal.returns-in_err-admitted
returns-in_err-admitted c =
    let a = c.args in
    let s = bare_state a.self in
    exits _ _ c.from_residual.ensures.1 (refused_before s _ a.id.0 c.in_err-admitted.field-0.0 (listed_checks s a.id.0) c.in_err-admitted.ensures)

pub find-requires : goal.find-requires
find-requires c =
    let s = bare_state c.args.self in image_count (image_of s) (seen s c.args.memory c.args.tail.now _ c.in_ok-admitted.ensures refl).0

pub returns-in_default : goal.returns-in_default
returns-in_default c =
    let a = c.args in
    let s = bare_state a.self in
    let k = slot_of s a.id.0 in
    let h = missed k _ c.in_default.ensures in
    sym (choice_some s _ a.id.0 (listed_checks s a.id.0) 6 (refused_6 s a.id.0 k refl h) (λ e. omega (arith, e)))
    ∙ ap (λ (x : Admission). choice s x a.id.0 (listed_checks s a.id.0)) c.in_ok-admitted.ensures

pub invariant_of-result : goal.invariant_of-result
invariant_of-result c =
    let s = bare_state c.args.self in
    let w = seen s c.args.memory c.args.tail.now _ c.in_ok-admitted.ensures refl in
    let m = met (slot_of s c.args.id.0) _ _ c.in-Some.ensures in
    let f = (find s c.args.id.0).high in
    record { slot_within = omega (arith, f, m.0, m.1, image_count (image_of s) w.0) }

pub returns : goal.returns
returns c =
    let a = c.args in
    let s = bare_state a.self in
    let k = slot_of s a.id.0 in
    let m = met k _ _ c.in-Some.ensures in
    let x = c.in_ok-admitted.admitted in
    ap (λ (k : ℕ). record { number = 0; slot = k; end = x.end; room = x.room }) m.0
    ∙ sym (choice_none s _ a.id.0 (listed_checks s a.id.0) (passes_6 s a.id.0 k refl m.1))
    ∙ ap (λ (x : Admission). choice s x a.id.0 (listed_checks s a.id.0)) c.in_ok-admitted.ensures
