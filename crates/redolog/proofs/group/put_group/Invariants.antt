use Rattle.std.proofs.Common.{◌≡◌, ◌+◌, ◌-◌, ◌≤◌}
use Rattle.std.proofs.Math.Seq.{sets}
use Rattle.recovery.specs.Group.{redo_size}
use Rattle.redolog.specs.Group.{encode_body}
use Rattle.redolog.specs.Flat.{writes_from}
use Rattle.redolog.proofs.group.put_group.Given as goal

abbrev pub invariant-loop-i : goal.invariant-loop-i
invariant-loop-i l =
    let all = writes_from l.addr l.len l.bytes l.n 0 in
    let rest = writes_from l.addr l.len l.bytes (l.n - l.i) l.i in
    record {
      within : l.i ≤ l.n;
      size : l.at + redo_size all ≡ l.o + redo_size rest;
      stores : sets l.fn.b l.at (encode_body l.id.0 l.csn.0 all) ≡ sets l.b l.o (encode_body l.id.0 l.csn.0 rest);
    }
