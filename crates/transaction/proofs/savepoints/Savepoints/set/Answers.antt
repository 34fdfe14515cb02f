use Rattle.std.proofs.Common.{◌∙◌}
use Rattle.transaction.proofs.SavepointLaws.{found_or, added_set}
use Rattle.transaction.proofs.savepoints.Savepoints.set.Goals as goal

pub returns-then-at-n : goal.returns-then-at-n
returns-then-at-n c =
    let a = c.args in
    added_set a.self a.name a.writes _ (c.unwrap_or-at.ensures ∙ found_or a.self a.name _ c.find.ensures) c.if-at-n.true
