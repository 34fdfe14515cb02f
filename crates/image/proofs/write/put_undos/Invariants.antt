use Rattle.std.proofs.Common.{◌≡◌, ◌+◌, ◌-◌}
use Rattle.std.proofs.lemmas.List.Edits.{sets}
use Rattle.redolog.specs.Flat.{writes_from}
use Rattle.transaction.specs.View.{writes_of}
use Rattle.image.specs.Format.{encode_undos, undos_size}
use Rattle.image.proofs.write.put_undos.Given as goal

abbrev pub invariant-loop-i : goal.invariant-loop-i
invariant-loop-i l =
    let r = l.fn.undo in
    let rest = writes_from r.ranges.addr r.ranges.len r.bytes (r.ranges.count - l.i) l.i in
    record {
      size : l.at + undos_size (writes_of r) ≡ l.o + undos_size rest;
      same : sets l.initial.b l.at (encode_undos (writes_of r)) ≡ sets l.b l.o (encode_undos rest);
    }
