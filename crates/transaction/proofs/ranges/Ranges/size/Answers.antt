use Rattle.std.proofs.Common.{ℕ, ◌+◌, ◌-◌, ◌<◌, List, take, drop, ◌∙◌, arith, rules}
use Rattle.std.specs.List.{sum_by}
use Rattle.std.proofs.lemmas.Iterator.{YieldsList-from_slice, YieldsList-from_map}
use Rattle.std.proofs.lemmas.Iterator.Consumers.{sum_by_from_yields_List, fits_by_from_yields_list}
use borrow.Author.Tests.{tests}
use Rattle.transaction.specs.declared.ranges.Ranges.{Ranges}
use Rattle.transaction.specs.View.{ranges_of}
use Rattle.transaction.proofs.RangeLaws.{counted, size_bound}
use Rattle.transaction.proofs.Pairs.{size_pairs, size_rest}
use Rattle.transaction.proofs.ranges.Ranges.size.Goals as goal

-- the lengths that are added up
abbrev lens : Ranges → ℕ → List ℕ
lens r from = take (r.count - from) (drop from r.len)

abbrev size_of : ℕ → ℕ
size_of n = 7 + n

pub slice_bounds-iter-end : goal.slice_bounds-iter-end
slice_bounds-iter-end c = omega (arith, counted c.args.self c.requires.0)

pub sum-requires-clause-fits : goal.sum-requires-clause-fits
sum-requires-clause-fits c =
    let r = c.args.self in
    let e = size_pairs r.addr r.len c.args.from r.count (omega (arith, c.well_formed)) (omega (arith, counted r c.requires.0, c.well_formed)) in
    let few : sum_by size_of (lens r c.args.from) < 18446744073709551616 =
    omega (arith, e, size_rest c.args.from (ranges_of r), size_bound (ranges_of r) c.requires.0) in
    fits_by_from_yields_list size_of (lens r c.args.from) _ _
    (YieldsList-from_map _ size_of (YieldsList-from_slice (lens r c.args.from) cc) c.map.ensures.closure (λ x r q k. search (rules, tests))) few

pub returns : goal.returns
returns c =
    let r = c.args.self in
    sum_by_from_yields_List size_of (lens r c.args.from) _ _ c.sum.ensures.ran
    (YieldsList-from_map _ size_of (YieldsList-from_slice (lens r c.args.from) cc) c.map.ensures.closure (λ x r q k. search (rules, tests)))
    ∙ size_pairs r.addr r.len c.args.from r.count (omega (arith, c.well_formed)) (omega (arith, counted r c.requires.0, c.well_formed))
