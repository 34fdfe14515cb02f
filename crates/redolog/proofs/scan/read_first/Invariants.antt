use Rattle.std.proofs.Common.{◌≡◌, ◌≤◌, ◌-◌, length, take, drop}
use Rattle.redolog.specs.Log.{read_log, reached_of}
use Rattle.redolog.proofs.LogLaws.{first_end}
use Rattle.redolog.proofs.scan.read_first.Given as goal

abbrev pub invariant-loop : goal.invariant-loop
invariant-loop l = record {
  within : l.at ≤ length l.s;
  same : reached_of l.fn.prev.0 (take l.fn.k (read_log l.fn.prev.0 l.s)) ≡ first_end l.at l.csn.0 (l.k - l.counter) (drop l.at l.s);
}
