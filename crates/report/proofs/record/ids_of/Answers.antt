use Rattle.std.proofs.Common.{ℕ, ◌+◌, ◌∙◌, sym, ap}
use Rattle.std.proofs.Math.ListN.{set, length-set}
use Rattle.report.proofs.Ids.{laid_from, laid_more}
use Rattle.report.proofs.record.ids_of.Goals as goal

pub loop-i-preserved : goal.loop-i-preserved
loop-i-preserved c =
    let l = c.loop-i in
    let b = c.args.b.now in (
      length-set l.ids l.i c.be16.result ∙ l.invariant.0,
      l.invariant.1 ∙ laid_more b l.ids l.i c.loop-i-test.true ∙ ap (λ (x : ℕ). laid_from b (set l.ids l.i x) (l.i + 1)) (sym c.be16.ensures),
    )
