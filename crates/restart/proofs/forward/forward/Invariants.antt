use Rattle.std.proofs.Common.{◌≡◌, ◌-◌, ◌≤◌, length}
use Rattle.image.specs.Heads.{image_by}
use Rattle.restart.specs.Forward.{went_by}
use Rattle.restart.proofs.Steps.{rest}
use Rattle.restart.proofs.forward.forward.Given as goal

abbrev pub invariant-loop-group : goal.invariant-loop-group
invariant-loop-group l =
    record {
      within : l.p.end ≤ length l.log;
      same : rest l.groups (image_by l.fn.h l.s) l.log (went_by l.initial.memory l.initial.p)
          ≡ rest (l.groups - l._group) (image_by l.fn.h l.s) l.log (went_by l.memory l.p);
    }
