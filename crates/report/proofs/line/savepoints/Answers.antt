use Rattle.std.proofs.Common.{◌∙◌, refl, rules}
use Rattle.report.specs.Report.{savepoints_in}
use Rattle.report.proofs.Counts.{sum_listed}
use Rattle.report.proofs.line.savepoints.Goals as goal

pub returns : goal.returns
returns c = c.counted.ensures savepoints_in (λ t r h. search rules) ∙ sum_listed savepoints_in refl c.args.s.now.txs c.args.s.now.count
