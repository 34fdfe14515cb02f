-- Demand 3 on the abstract store: what a restart with stores enough does on this disk, against the ledger.
use Rattle.std.specs.Prelude.{ℕ, suc, ◌+◌, ◌*◌, ◌≤◌, ◌≡◌, length}
use mathlib.Core.List.{List, [], ◌∷◌, ◌++◌, Memᴰ}
use Rattle.layout.specs.{abort_len}
use Rattle.layout.specs.declared.Form.TheVariants.{One}
use Rattle.recovery.specs.Group.{Group, committed, aborted, groups_size}
use Rattle.recovery.specs.Lists.{All}
use Rattle.recovery.specs.Ledger.{Commit, Ledger}
pub use Rattle.recovery.specs.Ledger.{lay_commits}
use Rattle.recovery.specs.Machine.{Opening, Disk, standing_in, undone_by, recovered}

-- the commits of a log
abbrev pub commits : List Group → List Commit
commits [] = []
commits (committed i n ws ∷ gs) = record { id = i; csn = n; writes = ws } ∷ commits gs
commits (aborted i ∷ gs) = commits gs

-- the commit numbers go on from n
abbrev pub Numbered : ℕ → List Commit → Type 0
Numbered n [] = Unit {0}
Numbered n (c ∷ cs) = (c.csn ≡ suc n) × Numbered (suc n) cs

pub record Claim (o : Opening) (d : Disk) (k : Ledger) : Type 0 where
  -- one more restart leaves the opening memory with the writes of the durable ones laid over it
  pub restores : recovered d ≡ lay_commits k.durable o.memory
  -- form one: the log, read from its first byte, has as its commits exactly the durable ones in order, with ids, numbers and writes
  pub logged : d.form ≡ One → commits (standing_in d) ≡ k.durable
  -- either form: those whose commits stand in the log are the last so many of them
  pub standing : (gone : List Commit) × (k.durable ≡ gone ++ commits (standing_in d))
  -- the numbers being 1, 2, 3 and on, or what follows the opening one
  pub numbered : Numbered o.csn k.durable
  -- the durable ones are the first so many assigned
  pub first : (rest : List Commit) × (k.assigned ≡ k.durable ++ rest)
  -- each settled one is among them
  pub settled : All (λ c. Memᴰ c k.durable) k.settled
  -- the restart isn't refused: number 5 finds room for its abort records
  pub fits : groups_size (standing_in d) + abort_len * length (undone_by d) ≤ o.capacity
