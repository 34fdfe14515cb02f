-- Groups on disk: "an abort, or zero or more redo records and one commit, all of one id, whose commit number is the previous one plus 1".
use Rattle.std.specs.Prelude.{ℕ, ◌+◌, Bool, cond, ◌&&◌, List, [], ◌∷◌, ◌++◌, drop, eqb, Result, Ok, Err}
use Rattle.std.proofs.Math.Option.{Option, none, some}
use Rattle.recovery.specs.Group.{Write, Group, committed, aborted, group_size}
use Rattle.redolog.specs.Record.{Record, redo, commit, abort, encode, size, well_formed, read_record}
use Rattle.redolog.specs.Reader.{whole}
use Rattle.redolog.specs.declared.group.GroupEnd.{GroupEnd}
use Rattle.redolog.specs.declared.group.GroupEnd.TheVariants.{Aborted, Committed}
use Rattle.redolog.specs.declared.stop.Stop.{Stop}

-- the redo records of these writes, and the commit
abbrev pub encode_body : ℕ → ℕ → List Write → List ℕ
encode_body id csn [] = encode (commit id csn)
encode_body id csn (w ∷ ws) = encode (redo id w) ++ encode_body id csn ws

abbrev pub encode_group : Group → List ℕ
encode_group (committed id csn ws) = encode_body id csn ws
encode_group (aborted id) = encode (abort id)

-- a group that may stand in a log after a commit number: its records are well formed and its own number is the next one
abbrev pub well_formed_body : ℕ → ℕ → List Write → Bool
well_formed_body id csn [] = well_formed (commit id csn)
well_formed_body id csn (w ∷ ws) = well_formed (redo id w) && well_formed_body id csn ws

abbrev pub well_formed_group : ℕ → Group → Bool
well_formed_group prev (committed id csn ws) = eqb csn (prev + 1) && well_formed_body id csn ws
well_formed_group prev (aborted id) = well_formed (abort id)

-- what a record is to a group of this id, where next is the commit number expected: one more write, the group's last record, or none of its own
pub data Turn : Type 0 where
  more : Write → Turn
  last : Turn
  stop : Turn

abbrev pub turn_of : ℕ → ℕ → Option Record → Turn
turn_of next id none = stop
turn_of next id (some (redo i w)) = cond (eqb i id) (more w) stop
turn_of next id (some (commit i csn)) = cond (eqb i id && eqb csn next) last stop
turn_of next id (some (abort i)) = stop

abbrev pub and_then : {A : Type 0} → A → Option (List A) → Option (List A)
and_then x none = none
and_then x (some xs) = some (x ∷ xs)

abbrev pub on_turn : (ℕ → List ℕ → Option (List Write)) → ℕ → List ℕ → Turn → Option (List Write)
on_turn rest id s (more w) = and_then w (rest id (drop (size (redo id w)) s))
on_turn rest id s last = some []
on_turn rest id s stop = none

abbrev pub body_step : ℕ → (ℕ → List ℕ → Option (List Write)) → ℕ → List ℕ → Option (List Write)
body_step next rest id s = on_turn rest id s (turn_of next id (read_record s))

-- the writes of the redo records of this id at the front of s, if their commit follows
unfoldable pub read_body : ℕ → ℕ → List ℕ → Option (List Write)
read_body next id s = whole (body_step next) none id s

abbrev pub committed_if : ℕ → ℕ → Option (List Write) → Option Group
committed_if id csn none = none
committed_if id csn (some ws) = some (committed id csn ws)

abbrev pub group_by : ℕ → List ℕ → Option Record → Option Group
group_by next s none = none
group_by next s (some (redo id w)) = committed_if id next (read_body next id s)
group_by next s (some (commit id csn)) = committed_if id next (read_body next id s)
group_by next s (some (abort id)) = some (aborted id)

-- the whole group at the front of s, if there is one; where it has a commit, next is the number expected
unfoldable pub group_with : ℕ → List ℕ → Option Group
group_with next s = group_by next s (read_record s)

-- that after a commit number: "the previous one plus 1"
unfoldable pub read_group : ℕ → List ℕ → Option Group
read_group prev s = group_with (prev + 1) s

-- what the code answers of a group: its id, its commit number and where it ends; of none, why none stands there
abbrev pub end_of : Stop → Option Group → Result GroupEnd Stop
end_of why none = Err why
end_of why (some (committed id csn ws)) = Ok (Committed (record { 0 = id }) (record { 0 = csn }) (group_size (committed id csn ws)))
end_of why (some (aborted id)) = Ok (Aborted (record { 0 = id }) (group_size (aborted id)))
