use Rattle.std.proofs.Common.{◌∙◌, arith, rules}
use Rattle.std.proofs.lemmas.Iterator.Search.{any_from_yields_List}
use borrow.Author.Tests.{tests}
use Rattle.transaction.specs.Rules.{meets}
use Rattle.transaction.proofs.Pairs.{pairs_given, on_pair, any_pairs, empty_meets}
use Rattle.transaction.proofs.ranges.Ranges.meets.Goals as goal

pub returns : goal.returns
returns c =
    let a = c.args in
    any_from_yields_List (on_pair (meets a.addr a.len)) c.any.new.self _ c.any.result c.any.ensures.ran
    (pairs_given a.self c.iter.result c.iter.ensures.addr_value c.iter.ensures.len_value c.iter.ensures.count_value)
    (λ x b q k. search (rules, tests))
    ∙ any_pairs (meets a.addr a.len) (empty_meets a.addr a.len) a.self.addr a.self.len a.self.count (omega (arith, c.well_formed))
