use Rattle.std.proofs.Common.{subst}
use Rattle.inspect.specs.Walk.{FoundAs}
use Rattle.inspect.proofs.Walking.{note_at, note_nowhere}
use Rattle.inspect.proofs.outcomes.note.Goals as goal

pub returns-in-Some : goal.returns-in-Some
returns-in-Some c =
    let a = c.args in
    let p = subst (FoundAs a.ids.now a.id.0) c.in-Some.is c.find.ensures in
    note_at a.ids.now a.out.now a.id.0 a.outcome c.requires.1 c.requires.0 c.in-Some.i p.0 p.1

pub returns-in_default : goal.returns-in_default
returns-in_default c =
    let a = c.args in
    note_nowhere a.ids.now a.out.now a.id.0 a.outcome c.requires.1 (subst (FoundAs a.ids.now a.id.0) c.in_default.is c.find.ensures)
