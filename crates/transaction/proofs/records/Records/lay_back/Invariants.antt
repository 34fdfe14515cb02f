use Rattle.std.proofs.Common.{◌≡◌}
use Rattle.recovery.specs.Replay.{undo_all, lay_bytes}
use Rattle.redolog.specs.Flat.{writes_from}
use Rattle.transaction.specs.View.{writes_of}
use Rattle.transaction.proofs.records.Records.lay_back.Given as goal

-- the records before place k are left
abbrev pub invariant-loop-k : goal.invariant-loop-k
invariant-loop-k l =
    undo_all lay_bytes (writes_of l.self) l.initial.memory
    ≡ undo_all lay_bytes (writes_from l.ranges.addr l.ranges.len l.self.bytes l.k 0) l.memory
