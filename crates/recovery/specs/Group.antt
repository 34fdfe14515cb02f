-- Writes and log groups. A group is what a log holds of one transaction: an abort, or the transaction's writes and its commit.
use Rattle.std.specs.Prelude.{ℕ, ◌+◌, ◌-◌, cond, List, [], ◌∷◌, length, leb}
use Rattle.layout.specs.{redo_len, commit_len, abort_len}

-- bytes and the address in memory of the first of them: new bytes in a redo record, old bytes in an undo record
pub record Write : Type 0 where
  pub addr : ℕ
  pub bytes : List ℕ

-- committed: transaction id, commit number (csn), writes in order; aborted: transaction id
pub data Group : Type 0 where
  committed : ℕ → ℕ → List Write → Group
  aborted : ℕ → Group

-- the bytes that redo records take in the log: 7 + length each
abbrev pub redo_size : List Write → ℕ
redo_size [] = 0
redo_size (w ∷ ws) = redo_len + length w.bytes + redo_size ws

-- the bytes that a group takes: a commit record has 8, an abort record 4
abbrev pub group_size : Group → ℕ
group_size (committed id csn ws) = redo_size ws + commit_len
group_size (aborted id) = abort_len

abbrev pub groups_size : List Group → ℕ
groups_size [] = 0
groups_size (g ∷ gs) = group_size g + groups_size gs

-- the last commit number after a group, and after groups, from the previous one
abbrev pub csn_after : ℕ → Group → ℕ
csn_after prev (committed id csn ws) = csn
csn_after prev (aborted id) = prev

abbrev pub last_csn : ℕ → List Group → ℕ
last_csn prev [] = prev
last_csn prev (g ∷ gs) = last_csn (csn_after prev g) gs

-- the first groups, as many as take n bytes or fewer together
abbrev pub fitting : ℕ → List Group → List Group
fitting n [] = []
fitting n (g ∷ gs) = cond (leb (group_size g) n) (g ∷ fitting (n - group_size g) gs) []
