use Rattle.std.proofs.Common.{◌≡◌, ◌+◌, ◌≤◌}
use Rattle.recovery.specs.Replay.{redo_all, lay_bytes}
use Rattle.transaction.specs.Steps.{written_all}
use Rattle.transaction.proofs.Returning.{left}
use Rattle.transaction.proofs.Tx.go_back.Given as goal

-- the writes that are left would make of what there is now what all of them make of what there was
abbrev pub invariant-loop-k : goal.invariant-loop-k
invariant-loop-k l =
    record {
      in_range : l.kept ≤ l.k;
      undo_count : l.t.undo.ranges.count + l.k ≡ l.ranges.count + l.ranges.count;
      redo_count : l.t.redo.ranges.count + l.k ≡ l.ranges.count + l.ranges.count;
      records :
          written_all l.fn.self l.fn.memory (left l.ranges l.bytes l.kept l.ranges.count) ≡ written_all l.t l.memory (left l.ranges l.bytes l.kept l.k);
      bytes :
          redo_all lay_bytes (left l.ranges l.bytes l.kept l.ranges.count) l.fn.memory ≡ redo_all lay_bytes (left l.ranges l.bytes l.kept l.k) l.memory;
    }
