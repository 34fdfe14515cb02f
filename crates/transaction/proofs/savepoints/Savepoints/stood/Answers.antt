use Rattle.std.proofs.Common.{ℕ, get_or, sym, ap, ◌∙◌, arith}
use Rattle.transaction.specs.Rules.{or_zero}
use Rattle.transaction.proofs.SavepointLaws.{found_some, found_none, count_there, count_none}
use Rattle.transaction.proofs.savepoints.Savepoints.stood.Goals as goal

pub bounds-self-at : goal.bounds-self-at
bounds-self-at c = omega (arith, found_some c.args.self c.args.name c.in-Some.at c.in-Some.ensures)

pub returns-in-Some : goal.returns-in-Some
returns-in-Some c =
    let a = c.args in
    let found = found_some a.self a.name c.in-Some.at c.in-Some.ensures in
    ap (λ (j : ℕ). get_or a.self.counts j 0) found.0 ∙ sym (ap or_zero (count_there a.self a.name (omega (arith, found))))

pub returns-in-None : goal.returns-in-None
returns-in-None c = sym (ap or_zero (count_none c.args.self c.args.name (found_none c.args.self c.args.name c.in-None.ensures)))
