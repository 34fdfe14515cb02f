-- "given disk, memory and a number of groups, it leaves the memory as it is after step 3's first so many groups, or all if fewer, and tells the
-- log end and last commit number reached; 1, 3 and 4 as at restart" (document 02, A.3).
use Rattle.std.specs.Prelude.{ℕ, ◌+◌, cond, ◌&&◌, List, length, eqb, Result, Ok, Err}
use Rattle.layout.specs.{memory_len, disk_len}
use Rattle.layout.specs.declared.refusal.Refusal.{Refusal}
use Rattle.layout.specs.Refusal.{number_of}
use Rattle.restart.specs.Forward.{Went, first_of}
use Rattle.redolog.specs.declared.scan.Reached.{Reached}
use Rattle.store.specs.Answer.{Word, done, refused}
use Rattle.disk.specs.Open.{OpenedDisk, open_of}

-- what is told: the word, the log's end reached, and the last commit number reached
pub record GroupsTold : Type 0 where
  pub says : Word
  pub end : ℕ
  pub csn : ℕ

-- a refusal "reports 0 for every id or count"
abbrev pub refused_groups : ℕ → GroupsTold
refused_groups n = record { says = refused n; end = 0; csn = 0 }

abbrev pub of_applied : Result Reached Refusal → GroupsTold
of_applied (Ok r) = record { says = done; end = r.end; csn = r.csn.0 }
of_applied (Err r) = refused_groups (number_of r)

-- with what stands in memory then
pub record GroupsLeft : Type 0 where
  pub result : GroupsTold
  pub memory : List ℕ

-- steps 1 to 3 over the first k groups of an opened disk
abbrev pub pass_of : ℕ → OpenedDisk → Went
pass_of k o = first_of k o.image o.log o.memory

-- the end is counted from the log's first byte
abbrev pub applied_by : ℕ → Went → GroupsLeft
applied_by logend w = record { result = record { says = done; end = logend + w.pass.end; csn = w.pass.csn.0 }; memory = w.memory }

-- 3 and 4, which zero memory, by step 1
abbrev pub of_opened : ℕ → OpenedDisk → GroupsLeft
of_opened k o =
    cond (eqb o.number 0) (applied_by o.image.logend (pass_of k o)) (record { result = refused_groups o.number; memory = o.memory })

-- 1: "a lent buffer hasn't its length"
unfoldable pub first_groups_of : List ℕ → List ℕ → ℕ → GroupsLeft
first_groups_of disk memory k =
    cond (eqb (length disk) disk_len && eqb (length memory) memory_len) (of_opened k (open_of disk)) (record { result = refused_groups 1; memory = memory })
