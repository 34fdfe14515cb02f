-- What is told of ids on disks M1 and M3 and on logs made by hand, as the definition tells it.
use Rattle.std.specs.Prelude.{ℕ, List, [], ◌∷◌, ◌++◌, map, ◌≡◌, length, replicate}
use Rattle.store.specs.Answer.{done}
use Rattle.inspect.specs.Outcomes.{OutcomesLeft, refused_outcomes, outcomes_of}
use Rattle.inspect.specs.Cases.{disk_bytes, disk_m1, disk_m3}

abbrev commit : ℕ → ℕ → List ℕ
commit id csn = 2 ∷ 0 ∷ id ∷ 0 ∷ 0 ∷ 0 ∷ csn ∷ 2 ∷ []

abbrev abort : ℕ → List ℕ
abort id = 3 ∷ 0 ∷ id ∷ 3 ∷ []

-- groups in the log, zeros after them; the first bytes of image A are its log end
abbrev disk_with : ℕ → ℕ → List ℕ → List ℕ
disk_with pointer end groups = disk_bytes pointer (0 ∷ end ∷ replicate 8651 0) (groups ++ replicate 16360 0)

-- 24 bytes of them: id 1 commits, 2 and 1 abort, 2 commits
abbrev both_twice : List ℕ
both_twice = commit 1 1 ++ (abort 2 ++ (abort 1 ++ commit 2 2))

pub record OutcomeRow : Type 0 where
  pub disk : List ℕ
  pub ids : List ℕ
  pub out : List ℕ
  pub left : OutcomesLeft

-- of outcomes that hold something else before: the groups walked, and the outcomes
abbrev tells : List ℕ → List ℕ → ℕ → List ℕ → OutcomeRow
tells disk ids groups outcomes =
    record {
      disk = disk;
      ids = ids;
      out = replicate (length ids) 165;
      left = record { result = record { says = done; groups = groups }; outcomes = outcomes };
    }

-- refused: the list of outcomes stays
abbrev refuses : ℕ → List ℕ → List ℕ → List ℕ → OutcomeRow
refuses n disk ids out = record { disk = disk; ids = ids; out = out; left = refused_outcomes n out }

abbrev pub outcome_rows : List OutcomeRow
outcome_rows =
    tells (disk_m1 0 2) (0 ∷ 1 ∷ 65535 ∷ []) 1 (0 ∷ 1 ∷ 0 ∷ [])
    ∷ tells (disk_m1 0 2) [] 1 []
    -- the last byte of the only group is missing
    ∷ tells (disk_m1 0 0) (1 ∷ []) 0 (0 ∷ [])
    -- restart refuses this disk
    ∷ tells (disk_m1 3 2) (1 ∷ []) 1 (1 ∷ [])
    ∷ tells disk_m3 (1 ∷ 2 ∷ []) 2 (2 ∷ 1 ∷ [])
    ∷ tells (disk_with 0 0 both_twice) (1 ∷ 2 ∷ 3 ∷ []) 4 (2 ∷ 1 ∷ 0 ∷ [])
    -- the image's place is behind the first group, and after the last
    ∷ tells (disk_with 1 8 both_twice) (1 ∷ 2 ∷ []) 4 (2 ∷ 1 ∷ [])
    ∷ tells (disk_with 1 24 both_twice) (1 ∷ 2 ∷ []) 4 (2 ∷ 1 ∷ [])
    -- the first commit's number is 1
    ∷ tells (disk_with 0 0 (commit 1 2 ++ (abort 2 ++ replicate 12 0))) (1 ∷ 2 ∷ []) 0 (0 ∷ 0 ∷ [])
    ∷ refuses 20 disk_m3 (1 ∷ 1 ∷ []) (7 ∷ 8 ∷ [])
    ∷ refuses 20 disk_m3 (1 ∷ 3 ∷ 2 ∷ []) (7 ∷ 8 ∷ 9 ∷ [])
    ∷ refuses 20 disk_m3 (1 ∷ 2 ∷ []) (7 ∷ [])
    ∷ refuses 20 disk_m3 [] (7 ∷ [])
    ∷ refuses 1 (0 ∷ disk_m3) (2 ∷ 1 ∷ []) (7 ∷ [])
    ∷ []

abbrev pub OutcomesWorked : Type 0
OutcomesWorked = map (λ r. outcomes_of r.disk r.ids r.out) outcome_rows ≡ map (λ r. r.left) outcome_rows
