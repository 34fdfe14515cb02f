use Rattle.std.proofs.Common.{◌∙◌, refl, rules}
use Rattle.report.specs.Report.{reads_in}
use Rattle.report.proofs.Counts.{sum_listed}
use Rattle.report.proofs.line.reads.Goals as goal

pub returns : goal.returns
returns c = c.counted.ensures reads_in (λ t r h. search rules) ∙ sum_listed reads_in refl c.args.s.now.txs c.args.s.now.count
