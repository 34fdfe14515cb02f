-- Number 2: what a state and the tail lent with it have to be.
use Rattle.std.specs.Prelude.{ℕ, ◌+◌, Bool, not, ◌&&◌, ◌||◌, List, drop, eqb, ltb}
use Rattle.layout.specs.{log_len}
use Rattle.recovery.specs.Group.{groups_size, last_csn}
use Rattle.redolog.specs.Log.{read_log}
use Rattle.transaction.specs.Lists.{every, sum_of}
use Rattle.transaction.specs.Rules.{state_ok, room_of}
use Rattle.image.specs.Rules.{keeps_rules}
use Rattle.store.specs.declared.State.{State}
use Rattle.store.specs.State.{image_of, txs_of}

-- ---- the image rules, as for number 4

abbrev pub keeps_image_rules : State → Bool
keeps_image_rules s = keeps_rules (image_of s)

-- ---- the tail and log room

abbrev pub is_zero : ℕ → Bool
is_zero b = eqb b 0

abbrev pub all_zero : List ℕ → Bool
all_zero bs = every is_zero bs

-- the tail's length: where its whole groups end, read from the commit number on disk
abbrev pub tail_length : ℕ → List ℕ → ℕ
tail_length ondisk tail = groups_size (read_log ondisk tail)

-- "whole groups, commit numbers going on from the one on disk up to the one assigned, then zeros"
abbrev pub tail_ok : ℕ → ℕ → List ℕ → Bool
tail_ok ondisk assigned tail = eqb (last_csn ondisk (read_log ondisk tail)) assigned && all_zero (drop (tail_length ondisk tail) tail)

-- "Log room used = log end + tail length + for each running transaction its redo bytes + 8."
abbrev pub room_used : State → List ℕ → ℕ
room_used s tail = s.logend + tail_length s.ondisk.0 tail + sum_of room_of (txs_of s)

-- ---- number 2

-- It is unrecovered, breaks an image rule, uses more than 16,384 bytes of log room, or has a running transaction whose redo records
-- differ from its undo records in count or ranges, or a transaction with more than it is allowed of what requests add to it (`state_ok`); or the
-- lent tail isn't whole groups, commit numbers going on from the one on disk up to the one assigned, then zeros.
unfoldable pub unfit : State → List ℕ → Bool
unfit s tail =
    not s.recovered
    || not (keeps_image_rules s)
    || ltb log_len (room_used s tail)
    || not (every state_ok (txs_of s))
    || not (tail_ok s.ondisk.0 s.assigned.0 tail)
