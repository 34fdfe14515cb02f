use Rattle.std.proofs.Common.{◌≡◌, ◌-◌, ◌≤◌, length, drop}
use Rattle.image.specs.Reading.{read_undos}
use Rattle.image.specs.Heads.{undos_end}
use Rattle.image.proofs.Readings.{end_from}
use Rattle.image.proofs.read.undos_end.Given as goal

abbrev pub invariant-loop : goal.invariant-loop
invariant-loop l =
    record {
      within : l.at ≤ length l.s;
      same : undos_end (read_undos l.n (drop 8 l.s)) ≡ end_from l.at (read_undos (l.n - l.counter) (drop l.at l.s));
    }
