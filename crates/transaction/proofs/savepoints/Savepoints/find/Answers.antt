use Rattle.std.proofs.Common.{◌≡◌, ℕ, cond, get_or, take, ap, ◌∙◌, arith, rules, Some, None}
use Rattle.std.proofs.lemmas.Iterator.{YieldsList-from_slice}
use Rattle.std.proofs.lemmas.Iterator.Search.{position_from_yields_List}
use Rattle.std.specs.List.{position_or_len}
use native.Mathlib.Nat.{zero-add}
use lib.Dec.{eqb}
use borrow.Author.Tests.{tests}
use Rattle.transaction.specs.View.{savepoint_at, savepoints_in}
use Rattle.transaction.specs.Rules.{is_set, place_of}
use Rattle.transaction.proofs.SavepointLaws.{walked}
use Rattle.transaction.proofs.savepoints.Savepoints.find.Goals as goal

pub returns : goal.returns
returns c =
    let p = c.args.self in
    let x = position_from_yields_List (λ (x : ℕ). eqb c.args.name x) c.position.new.self _ c.position.result c.position.ensures.ran
    (YieldsList-from_slice (take p.count p.names) cc) (λ x b q k. search (rules, tests)) in
    let y = walked c.args.name (savepoint_at p) p.names p.count 0 (omega (arith, c.well_formed)) (λ j l. ap (λ (x : ℕ). get_or p.names x 0) (zero-add j)) in
    let z : position_or_len (eqb c.args.name) (take p.count p.names) ≡ place_of p c.args.name = omega (arith, y.first) in
    x ∙ rw (← y.passed) (ap (λ (j : ℕ). cond (is_set c.args.name (savepoints_in p)) (Some j) None) z)
