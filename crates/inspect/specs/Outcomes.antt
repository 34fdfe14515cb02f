-- "The ids come as a lent list of 16-bit numbers in rising order, the outcomes go into a second list of equal length: 1 committed, 2 aborted, 0
-- neither found. One walk over the log from its first byte serves the whole list, and the count of groups walked is reported and equals those in
-- the log. If an id has several groups, its last counts." (document 02, A.8)
use Rattle.std.specs.Prelude.{ℕ, Bool, true, cond, ◌&&◌, List, [], ◌∷◌, map, length, eqb, ltb, Result, Ok, Err}
use Rattle.std.proofs.Math.Option.{Option, none, some}
use Rattle.layout.specs.{disk_len}
use Rattle.layout.specs.declared.refusal.Refusal.{Refusal}
use Rattle.layout.specs.Refusal.{number_of}
use Rattle.layout.specs.Parts.{log_part}
use Rattle.recovery.specs.Group.{Group, committed, aborted}
use Rattle.recovery.specs.Lists.{or_else}
use Rattle.recovery.specs.Restart.{group_id}
use Rattle.redolog.specs.Log.{read_log}
use Rattle.store.specs.Answer.{Word, done, refused}

-- ---- the outcome of an id in a log

-- "its last": the last group of an id
abbrev pub last_group : List Group → ℕ → Option Group
last_group [] id = none
last_group (g ∷ gs) id = or_else (last_group gs id) (cond (eqb id (group_id g)) (some g) none)

-- "1 committed, 2 aborted"
abbrev pub outcome_of : Group → ℕ
outcome_of (committed id csn ws) = 1
outcome_of (aborted id) = 2

-- "0 neither found"
abbrev pub outcome_by : Option Group → ℕ
outcome_by none = 0
outcome_by (some g) = outcome_of g

abbrev pub last_outcome : List Group → ℕ → ℕ
last_outcome gs id = outcome_by (last_group gs id)

-- ---- the call

-- "strictly rising": each id is above the one before it
abbrev pub rising_after : ℕ → List ℕ → Bool
rising_after x [] = true
rising_after x (y ∷ ys) = ltb x y && rising_after y ys

abbrev pub rising : List ℕ → Bool
rising [] = true
rising (x ∷ xs) = rising_after x xs

-- what is told: the word, and the groups walked
pub record WalkTold : Type 0 where
  pub says : Word
  pub groups : ℕ

abbrev pub refused_walk : ℕ → WalkTold
refused_walk n = record { says = refused n; groups = 0 }

abbrev pub of_walked : Result ℕ Refusal → WalkTold
of_walked (Ok n) = record { says = done; groups = n }
of_walked (Err r) = refused_walk (number_of r)

-- with what stands in the list of outcomes then
pub record OutcomesLeft : Type 0 where
  pub result : WalkTold
  pub outcomes : List ℕ

abbrev pub refused_outcomes : ℕ → List ℕ → OutcomesLeft
refused_outcomes n out = record { result = refused_walk n; outcomes = out }

-- the log's groups, from its first byte on, whatever pointer byte and images hold
abbrev pub groups_on : List ℕ → List Group
groups_on disk = read_log 0 (log_part disk)

abbrev pub walked_log : List Group → List ℕ → OutcomesLeft
walked_log gs ids = record { result = record { says = done; groups = length gs }; outcomes = map (last_outcome gs) ids }

-- 1: the disk hasn't its length. "20, list not strictly rising, or lengths unequal, checked after 1"
unfoldable pub outcomes_of : List ℕ → List ℕ → List ℕ → OutcomesLeft
outcomes_of disk ids out =
    cond (eqb (length disk) disk_len)
    (cond (eqb (length ids) (length out) && rising ids) (walked_log (groups_on disk) ids) (refused_outcomes 20 out))
    (refused_outcomes 1 out)
