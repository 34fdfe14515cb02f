use Rattle.std.proofs.Common.{◌≡◌, ◌-◌, ◌≤◌, length, drop}
use Rattle.recovery.specs.Replay.{redo_all, lay_bytes}
use Rattle.restart.specs.Turns.{front_writes}
use Rattle.restart.proofs.RedoLaws.{Body}
use Rattle.restart.proofs.forward.redo_all.Given as goal

abbrev pub invariant-loop-at : goal.invariant-loop-at
invariant-loop-at l =
    record {
      inside : l.at ≤ length l.s;
      within : l.at ≤ l.size;
      same : redo_all lay_bytes (front_writes l.s) l.initial.memory ≡ redo_all lay_bytes (front_writes (drop l.at l.s)) l.memory;
      rest : Body l.size l.s l.at;
    }

abbrev pub decreases-loop-at : goal.decreases-loop-at
decreases-loop-at l = l.size - l.at
