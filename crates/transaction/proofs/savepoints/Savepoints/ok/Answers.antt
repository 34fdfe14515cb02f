use Rattle.std.proofs.Common.{◌≡◌, ℕ, ◌+◌, ◌-◌, ◌<◌, ◌≤◌, true, false, get_or, take, drop, length, length-drop, get_or-drop, refl, sym, ◌∙◌, arith}
use native.Mathlib.Nat.{sub-zero}
use lib.Dec.{eqb}
use Rattle.std.specs.List.{list_any}
use borrow.Author.Tests.{ne_eqb, le-leb}
use Rattle.transaction.specs.declared.savepoints.Savepoints.{Savepoints}
use Rattle.transaction.specs.Lists.{up_from}
use Rattle.transaction.specs.View.{savepoint_at}
use Rattle.transaction.specs.Rules.{is_set}
use Rattle.transaction.proofs.SavepointLaws.{walked, many_names, few_ok, names_turn}
use Rattle.transaction.proofs.savepoints.Savepoints.ok.Goals as goal

pub returns-then-n-gt-MAX_SAVEPOINTS : goal.returns-then-n-gt-MAX_SAVEPOINTS
returns-then-n-gt-MAX_SAVEPOINTS c = sym (many_names c.args.self c.args.writes c.if-n-gt-MAX_SAVEPOINTS.true)

pub loop-i-init : goal.loop-i-init
loop-i-init c = few_ok c.args.self c.args.writes c.if-n-gt-MAX_SAVEPOINTS.false ∙ rw (sub-zero c.args.self.count)

-- what is asked of the names behind a place
behind : (p : Savepoints) (i : ℕ) → p.count ≤ 4 → length p.names ≡ 4 → i < p.count
    → is_set (get_or p.names i 0) (up_from (savepoint_at p) (p.count - (i + 1)) (i + 1))
    ≡ list_any (λ x. eqb x (get_or p.names i 0)) (take (p.count - (i + 1)) (drop (i + 1) p.names))
behind p i l e h =
    (walked (get_or p.names i 0) (savepoint_at p) (drop (i + 1) p.names) (p.count - (i + 1)) (i + 1) (omega (arith, length-drop (i + 1) p.names))
    (λ j q. sym (get_or-drop (i + 1) p.names j 0))).there

pub returns-then-contains : goal.returns-then-contains
returns-then-contains c =
    let a = c.args in
    let again : is_set (get_or a.self.names c.loop-i.i 0) (up_from (savepoint_at a.self) (a.self.count - (c.loop-i.i + 1)) (c.loop-i.i + 1)) ≡ true =
    behind a.self c.loop-i.i (omega arith) (omega (arith, c.well_formed)) (omega arith) ∙ sym c.contains.ensures.value ∙ c.if-contains.true in
    sym
    (c.loop-i.invariant
    ∙ names_turn a.self a.writes _ _ c.loop-i-test.true
    ∙ rw (ne_eqb _ _ c.if-name-eq0.false, le-leb _ _ c.if-writes-self.false, again) refl)

pub loop-i-preserved : goal.loop-i-preserved
loop-i-preserved c =
    let a = c.args in
    let once : is_set (get_or a.self.names c.loop-i.i 0) (up_from (savepoint_at a.self) (a.self.count - (c.loop-i.i + 1)) (c.loop-i.i + 1)) ≡ false =
    behind a.self c.loop-i.i (omega arith) (omega (arith, c.well_formed)) (omega arith) ∙ sym c.contains.ensures.value ∙ c.if-contains.false in
    c.loop-i.invariant
    ∙ names_turn a.self a.writes _ _ c.loop-i-test.true
    ∙ rw (ne_eqb _ _ c.if-name-eq0.false, le-leb _ _ c.if-writes-self.false, once) refl
