use Rattle.std.proofs.Common.{◌≡◌, ◌-◌, length, take}
use Rattle.recovery.specs.Replay.{undo_all, lay_bytes}
use Rattle.image.specs.Reading.{read_tx}
use Rattle.image.specs.Heads.{undos_read}
use Rattle.image.proofs.read.lay_back.Given as goal

abbrev pub invariant-loop-at : goal.invariant-loop-at
invariant-loop-at l =
    let us = undos_read (read_tx l.s) in
    undo_all lay_bytes us l.initial.memory ≡ undo_all lay_bytes (take (l.n - length l.yielded) us) l.memory
