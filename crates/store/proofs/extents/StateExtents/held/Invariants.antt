use Rattle.std.proofs.Common.{◌≡◌, ◌-◌}
use Rattle.recovery.specs.Lists.{any}
use Rattle.transaction.specs.Lists.{up_from}
use Rattle.transaction.specs.Rules.{held_against}
use Rattle.store.specs.State.{tx_at, txs_of}
use Rattle.store.specs.Extents.{bare_state}
use Rattle.store.proofs.extents.StateExtents.held.Given as goal

-- none passed so far holds a byte against it
abbrev pub invariant-loop-t : goal.invariant-loop-t
invariant-loop-t l =
    let s = bare_state l.fn.self in
    any (held_against l.writing l.id.0 l.addr l.len) (txs_of s)
    ≡ any (held_against l.writing l.id.0 l.addr l.len) (up_from (tx_at s) (s.count - l.t-index) l.t-index)
