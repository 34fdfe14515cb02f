use Rattle.std.proofs.Common.{ℕ, ◌∙◌, arith, rules}
use Rattle.std.proofs.lemmas.Iterator.Consumers.{fold_from_yields_List}
use borrow.Author.Tests.{tests}
use Rattle.transaction.specs.View.{range}
use Rattle.transaction.specs.Rules.{onward}
use Rattle.transaction.proofs.Pairs.{pairs_given, reach_pairs}
use Rattle.transaction.proofs.ranges.Ranges.reach.Goals as goal

pub returns : goal.returns
returns c =
    let r = c.args.self in
    fold_from_yields_List _ (λ (a : ℕ) (x : ℕ × ℕ). onward a (range x.0 x.1)) _ _ c.fold.ensures.ran
    (pairs_given r c.iter.result c.iter.ensures.addr_value c.iter.ensures.len_value c.iter.ensures.count_value)
    (λ a x b q k. search (rules, tests))
    ∙ reach_pairs r.addr r.len r.count c.args.from (omega (arith, c.well_formed))
