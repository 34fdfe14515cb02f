use Rattle.std.proofs.Common.{◌≡◌, ◌+◌, ◌-◌, ◌*◌, ◌≤◌}
use Rattle.transaction.specs.Lists.{up_from, every, sum_of}
use Rattle.transaction.specs.Rules.{outline_ok, state_ok, room_of}
use Rattle.image.specs.Rules.{distinct}
use Rattle.store.specs.State.{tx_at, txs_of, outline_at, outlines_of}
use Rattle.store.specs.Extents.{bare_state}
use Rattle.store.proofs.extents.StateExtents.measure_txs.Given as goal

-- those passed so far keep each rule, so that it rests on the others; their room is at most 632 each
abbrev pub invariant-loop-i : goal.invariant-loop-i
invariant-loop-i l =
    let s = bare_state l.fn.self in
    (l.room ≤ 632 * l.i)
    × (every (outline_ok s.lastid.0 s.assigned.0) (outlines_of s)
    ≡ every (outline_ok s.lastid.0 s.assigned.0) (up_from (outline_at s) (l.n - l.i) l.i))
    × (distinct (outlines_of s) ≡ distinct (up_from (outline_at s) (l.n - l.i) l.i))
    × (every state_ok (txs_of s) ≡ every state_ok (up_from (tx_at s) (l.n - l.i) l.i))
    × (sum_of room_of (txs_of s) ≡ l.room + sum_of room_of (up_from (tx_at s) (l.n - l.i) l.i))
