use Rattle.std.proofs.Common.{sym, ◌∙◌, arith, rules}
use Rattle.std.proofs.lemmas.Iterator.Search.{all_from_yields_List}
use borrow.Author.Tests.{tests, lt-leb}
use Rattle.transaction.specs.Rules.{range_ok}
use Rattle.transaction.proofs.Pairs.{pairs_given, on_pair, every_pairs}
use Rattle.transaction.proofs.RangeLaws.{few, many}
use Rattle.transaction.proofs.ranges.Ranges.ok.Goals as goal

pub returns-then-self-le-MAX_RECORDS : goal.returns-then-self-le-MAX_RECORDS
returns-then-self-le-MAX_RECORDS c =
    let r = c.args.self in
    all_from_yields_List (on_pair range_ok) c.all.new.self _ c.all.result c.all.ensures.ran
    (pairs_given r c.iter.result c.iter.ensures.addr_value c.iter.ensures.len_value c.iter.ensures.count_value)
    (λ x b q k. search (rules, tests))
    ∙ every_pairs range_ok r.addr r.len r.count (omega (arith, c.well_formed)) (omega (arith, c.well_formed))
    ∙ sym (few r (omega arith))

pub returns-else-self-le-MAX_RECORDS : goal.returns-else-self-le-MAX_RECORDS
returns-else-self-le-MAX_RECORDS c = lt-leb _ _ (omega arith) ∙ sym (many c.args.self (omega arith))
