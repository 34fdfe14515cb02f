use Rattle.std.proofs.Common.{ap, ◌∙◌}
use Rattle.std.proofs.lemmas.List.Edits.{sets}
use Rattle.std.proofs.lemmas.List.{take_all}
use Rattle.redolog.proofs.StoreLaws.{sets_more}
use Rattle.redolog.proofs.stores.copy.Goals as goal

pub loop-i-preserved : goal.loop-i-preserved
loop-i-preserved c = rw c.loop-i.invariant (sets_more c.args.b.now c.args.at c.args.src.now c.loop-i.i c.loop-i-test.true)

pub returns : goal.returns
returns c = c.loop-i.invariant ∙ ap (sets c.args.b.now c.args.at) (take_all _ _ c.loop-i-test.false)
