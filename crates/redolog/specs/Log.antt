-- The log: "ends after the last group before the first place where no whole group stands".
use Rattle.std.specs.Prelude.{ℕ, ◌+◌, Bool, true, ◌&&◌, List, [], ◌∷◌, ◌++◌, drop}
use Rattle.std.proofs.Math.Option.{Option, none, some}
use Rattle.recovery.specs.Group.{Group, committed, aborted, group_size, groups_size, csn_after, last_csn}
use Rattle.redolog.specs.Group.{encode_group, well_formed_group, group_with}
use Rattle.redolog.specs.Reader.{whole}
use Rattle.redolog.specs.Stop.{stop_of}
use Rattle.redolog.specs.declared.scan.LogEnd.{LogEnd}
use Rattle.redolog.specs.declared.scan.Reached.{Reached}
use Rattle.redolog.specs.declared.stop.Stop.{Stop}

-- the number expected behind a group, where next was before it
abbrev pub next_after : ℕ → Group → ℕ
next_after next (committed id csn ws) = csn + 1
next_after next (aborted id) = next

abbrev pub on_group : (ℕ → List ℕ → List Group) → ℕ → List ℕ → Option Group → List Group
on_group rest next s none = []
on_group rest next s (some g) = g ∷ rest (next_after next g) (drop (group_size g) s)

abbrev pub log_step : (ℕ → List ℕ → List Group) → ℕ → List ℕ → List Group
log_step rest next s = on_group rest next s (group_with next s)

-- the groups of the log that starts at the front of s, where next is the commit number expected first
unfoldable pub read_log_with : ℕ → List ℕ → List Group
read_log_with next s = whole log_step [] next s

-- those of the log after a commit number
unfoldable pub read_log : ℕ → List ℕ → List Group
read_log prev s = read_log_with (prev + 1) s

-- why it ends where it does
unfoldable pub log_stop : ℕ → List ℕ → Stop
log_stop prev s = stop_of (drop (groups_size (read_log prev s)) s)

-- what the code answers of the first groups of a log after a commit number: where they end, and the last commit number
abbrev pub reached_of : ℕ → List Group → Reached
reached_of prev gs = record { end = groups_size gs; csn = record { 0 = last_csn prev gs } }

-- and of the whole log: the same of all its groups, and why it ends there
abbrev pub log_end_of : ℕ → List ℕ → LogEnd
log_end_of prev s = record { end = groups_size (read_log prev s); csn = record { 0 = last_csn prev (read_log prev s) }; stop = log_stop prev s }

-- groups one after the other
abbrev pub encode_log : List Group → List ℕ
encode_log [] = []
encode_log (g ∷ gs) = encode_group g ++ encode_log gs

abbrev pub well_formed_log : ℕ → List Group → Bool
well_formed_log prev [] = true
well_formed_log prev (g ∷ gs) = well_formed_group prev g && well_formed_log (csn_after prev g) gs
