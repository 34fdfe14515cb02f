use Rattle.std.proofs.Common.{◌≡◌, ◌≤◌, ◌-◌, length, drop}
use Rattle.redolog.specs.Group.{read_body, committed_if, end_of}
use Rattle.redolog.specs.Stop.{stop_of}
use Rattle.redolog.proofs.GroupLaws.{body_end}
use Rattle.redolog.proofs.group.read_body.Given as goal

abbrev pub invariant-loop-record : goal.invariant-loop-record
invariant-loop-record l = record {
  within : l.at ≤ length l.s;
  same : end_of (stop_of l.s) (committed_if l.id.0 l.next (read_body l.next l.id.0 l.s)) ≡ body_end l.next l.id.0 l.at (drop l.at l.s);
}

abbrev pub decreases-loop-record : goal.decreases-loop-record
decreases-loop-record l = length l.s - l.at
