use Rattle.std.proofs.Common.{◌≡◌, ◌-◌, List, ◌++◌, length, drop, replicate}
use Rattle.std.proofs.lemmas.List.Edits.{sets}
use Rattle.recovery.specs.Group.{Write}
use Rattle.image.specs.Reading.{read_undos}
use Rattle.image.specs.Heads.{undo_starts, undo_places}
use Rattle.image.proofs.Readings.{UndosAt}
use Rattle.image.proofs.read.undo_places.Given as goal

abbrev pub invariant-loop-place : goal.invariant-loop-place
invariant-loop-place l =
    record {
      rest : List Write;
      count : length rest ≡ l.n - l.place-index;
      there : UndosAt (drop l.at l.s) rest;
      same : undo_places (read_undos l.n (drop 8 l.s)) ≡ sets (l.place-items ++ drop l.n (replicate 16 0)) l.place-index (undo_starts l.at rest);
    }
