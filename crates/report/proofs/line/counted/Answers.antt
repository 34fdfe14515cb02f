use Rattle.std.proofs.Common.{ℕ, ◌+◌, ◌≡◌, ◌∙◌, get_or, drop, refl, sym, ap, arith, add-one, drop-cons}
use Rattle.std.proofs.lemmas.Fn.{says_at}
use Rattle.std.proofs.lemmas.List.{drop_all}
use Rattle.std.specs.Fn.{FnReturnsAt}
use Rattle.transaction.specs.declared.Tx.{Tx}
use Rattle.transaction.specs.Lists.{sum_of}
use Rattle.transaction.specs.Flat.{no_tx}
use Rattle.report.proofs.line.counted.Goals as goal

pub loop-t-preserved : goal.loop-t-preserved
loop-t-preserved g c =
    let l = c.loop-t in
    let txs = c.listed-txs.result.now in
    let next : (count : Tx → ℕ)
    → ((t : Tx) (r : ℕ) → FnReturnsAt g.F.Fn c.args.count t r → r ≡ count t)
    → sum_of count txs ≡ l.sum + c.from-sum.result + sum_of count (drop (l.t-index + 1) txs) =
    λ count h.
    let here : c.count.result ≡ count (get_or txs l.t-index no_tx) = h _ _ (says_at g.F.Fn c.count.ensures refl) in
    let rest : sum_of count (drop l.t-index txs) ≡ count (get_or txs l.t-index no_tx) + sum_of count (drop (l.t-index + 1) txs) =
    ap (sum_of count) (drop-cons txs l.t-index no_tx c.loop-t-test.true)
    ∙ ap (λ (k : ℕ). count (get_or txs l.t-index no_tx) + sum_of count (drop k txs)) (sym (add-one l.t-index)) in
    omega (arith, l.invariant.1 count h, here, rest, c.from-sum.ensures) in
    (omega arith, next)

pub returns : goal.returns
returns g c =
    λ count h.
    let txs = c.listed-txs.result.now in
    let done : sum_of count (drop c.loop-t.t-index txs) ≡ 0 = ap (sum_of count) (drop_all c.loop-t.t-index txs c.loop-t-test.false) in
    sym (ap (sum_of count) (sym c.listed-txs.ensures.value) ∙ c.loop-t.invariant.1 count h ∙ omega (arith, done))
