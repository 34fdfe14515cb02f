-- What the image rules say of a transaction's id, status and commit number.
use Prim.Native.Nat.{ℕ, ◌≤◌}
use native.Mathlib.Omega.{arith}
use mathlib.Core.Bool.{Bool, true, false, cond, not, ◌&&◌}
use mathlib.Core.Path.{◌≡◌, refl, ◌∙◌}
use lib.Dec.{eqb, leb}
use borrow.Author.Tests.{eqb-true, ne_eqb, leb-true}
use Rattle.redolog.proofs.Basics.{and_left, and_right}
use Rattle.transaction.specs.Rules.{head_ok}

pub record Ruled (last assigned id status csn : ℕ) : Type 0 where
  pub named : 1 ≤ id
  pub given : id ≤ last
  pub numbered : csn ≤ assigned
  pub kind : eqb status 1 ≡ not (eqb status 2)

module _ (last assigned id status csn : ℕ) where
  pub head_rules : head_ok last assigned id status csn ≡ true → Ruled last assigned id status csn
  unfolding head_ok
  head_rules e =
      let r = and_right (leb 1 id) _ e in
      let k = go (eqb status 1) refl (and_right (leb id last) _ r) in
      record { named = leb-true 1 id (and_left (leb 1 id) _ e); given = leb-true id last (and_left (leb id last) _ r); numbered = k.0; kind = k.1 }
    where
      go : (b : Bool) → eqb status 1 ≡ b → cond b (eqb csn 0) (eqb status 2 && (leb 1 csn && leb csn assigned)) ≡ true
          → (csn ≤ assigned) × (b ≡ not (eqb status 2))
      go true q h = let s : status ≡ 1 = eqb-true status 1 q in (omega (arith, eqb-true csn 0 h), rw s)
      go false q h = (leb-true csn assigned (and_right (leb 1 csn) _ (and_right (eqb status 2) _ h)), rw (and_left (eqb status 2) _ h))

  -- a transaction that is not committing is running
  pub running_status : Ruled last assigned id status csn → (status ≡ 2 → ⊥) → status ≡ 1
  running_status r h = eqb-true status 1 (r.kind ∙ rw (ne_eqb status 2 h))
