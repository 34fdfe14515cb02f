use Rattle.std.proofs.Common.{◌≡◌, ◌+◌, ◌-◌}
use Rattle.recovery.specs.Lists.{any}
use Rattle.transaction.specs.Lists.{up_from}
use Rattle.transaction.specs.Rules.{alike}
use Rattle.store.specs.State.{outline_at}
use Rattle.store.specs.Extents.{bare_state}
use Rattle.store.proofs.extents.StateExtents.alike_from.Given as goal

-- none passed so far is alike
abbrev pub invariant-loop-t : goal.invariant-loop-t
invariant-loop-t l =
    let s = bare_state l.fn.self in
    any (alike l.key.id.0 l.key.csn.0) (up_from (outline_at s) (s.count - l.i) l.i)
    ≡ any (alike l.key.id.0 l.key.csn.0) (up_from (outline_at s) (s.count - (l.i + l.t-index)) (l.i + l.t-index))
