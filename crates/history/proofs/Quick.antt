-- The calls of the table M1 to M10, fast enough to be computed in long lists: the tail without its zeros, stores in one piece, lengths taken as
-- known. Where a quick way answers, it answers what the definitions do: of one call `quickly`, of a list of calls `right_run` (QuickRun).
use Prim.Native.Nat.{ℕ, ◌+◌, ◌-◌, ◌≤◌}
use mathlib.Core.Bool.{Bool, cond, ◌&&◌}
use mathlib.Core.List.{List, [], ◌++◌}
use mathlib.Core.Option.{Option, none, some}
use mathlib.Core.Path.{◌≡◌}
use lib.ListN.{length, take, drop, get_or, set, replicate}
use lib.Seq.{sets}
use lib.Dec.{eqb, leb, ltb}
use Rattle.recovery.specs.Group.{committed, aborted}
use Rattle.recovery.specs.Replay.{redo_all, undo_all, lay_bytes}
use Rattle.recovery.specs.Restart.{aborts}
use Rattle.redolog.specs.Group.{encode_group}
use Rattle.redolog.specs.Log.{encode_log}
use Rattle.transaction.specs.View.{used_by, writes_of}
use Rattle.transaction.specs.Rules.{covered}
use Rattle.transaction.specs.Steps.{return_writes}
use Rattle.image.specs.Format.{encode_image}
use Rattle.restart.proofs.Recovery.{undone_by}
use Rattle.store.specs.declared.State.{State}
use Rattle.store.specs.Answer.{done, cut, refused}
use Rattle.store.specs.State.{image_of, slot_of, unrecovered}
use Rattle.store.specs.Rules.{tail_length, room_used}
use Rattle.store.specs.Numbers.{tx_of, begin_checks, write_checks, read_checks, answer_checks, savepoint_checks, go_back_checks, precommit_checks, abort_checks, settle_checks}
use Rattle.store.specs.Steps.{begun_state, written_state, read_state, savepoint_state, went_back_state, precommitted_state, dropped_state}
use Rattle.store.specs.Calls.{decided}
use Rattle.store.specs.Flush.{first_size, flushed_state}
use Rattle.store.specs.Checkpoint.{target_at, target_name}
use Rattle.disk.specs.Examine.{examine_of}
use Rattle.disk.specs.Restart.{recovered_state}
use Rattle.disk.proofs.Accepted.{image_in, log_in}
use Rattle.history.specs.Calls.{Reply, told, part, World}
use Rattle.history.proofs.Padded.{padded, number_of}

-- a world whose tail's zeros are left out
pub record Short : Type 0 where
  pub disk : List ℕ
  pub memory : List ℕ
  pub tail : List ℕ
  pub state : State

abbrev pub widened : Short → World
widened q = record { disk = q.disk; memory = q.memory; tail = padded q.tail; state = q.state }

pub record Lengths (d m bs : List ℕ) : Type 0 where
  pub disk : length d ≡ 33691
  pub memory : length m ≡ 4096
  pub tail : length bs ≤ 16384

abbrev pub LengthsOf : Short → Type 0
LengthsOf q = Lengths q.disk q.memory q.tail

-- the reply, and what is left
pub record Went : Type 0 where
  pub reply : Reply
  pub left : Short

-- ---- the calls

-- bytes stored from a place on, in one piece
abbrev pub laid : List ℕ → ℕ → List ℕ → List ℕ
laid d at v = take at d ++ v ++ drop (at + length v) d

-- a group of these bytes can go right behind those of the tail
abbrev pub follows : State → List ℕ → List ℕ → Bool
follows s bs e = eqb (tail_length s.ondisk.0 bs) (length bs) && leb (length bs + length e) 16384

abbrev pub refusing : ℕ → Short → Option Went
refusing n q = some (record { reply = told (refused n) 0 0; left = q })

abbrev pub telling : ℕ → ℕ → List ℕ → List ℕ → List ℕ → State → Option Went
telling value stores d m bs s = some (record { reply = told done value stores; left = record { disk = d; memory = m; tail = bs; state = s } })

-- cut after so many stores: memory and tail are zero
abbrev pub cutting : ℕ → List ℕ → Option Went
cutting stores d = some (record { reply = told cut 0 stores; left = record { disk = d; memory = replicate 4096 0; tail = []; state = unrecovered } })

abbrev pub handing : Short → List ℕ → Option Went
handing q bytes = some (record { reply = part bytes; left = q })

module _ (d m bs : List ℕ) (s : State) where
  abbrev pub here : Short
  here = record { disk = d; memory = m; tail = bs; state = s }

  abbrev pub begin_quick : Option Went
  begin_quick =
      let n = number_of s bs (begin_checks s.count s.lastid.0 (room_used s bs)) in
      decided n (telling (s.lastid.0 + 1) 0 d m bs (begun_state s)) (refusing n here)

  abbrev pub write_quick : ℕ → ℕ → List ℕ → Option Went
  write_quick id a new =
      let n = number_of s bs (write_checks s (room_used s bs) id a (length new)) in
      decided n (telling 0 0 d (sets m a new) bs (written_state s (slot_of s id) m a new)) (refusing n here)

  abbrev pub read_quick : ℕ → ℕ → ℕ → Option Went
  read_quick id a k =
      decided (number_of s bs (read_checks s id a k))
      (handing here (cond (covered (used_by (tx_of s id)) a k) (take k (drop a m)) [])) (handing here [])

  abbrev pub answer_quick : ℕ → ℕ → ℕ → Option Went
  answer_quick id a k =
      let n = number_of s bs (answer_checks s id a k) in decided n (telling 0 0 d m bs (read_state s (slot_of s id) a k)) (refusing n here)

  abbrev pub savepoint_quick : ℕ → ℕ → Option Went
  savepoint_quick id name =
      let n = number_of s bs (savepoint_checks s id name) in decided n (telling 0 0 d m bs (savepoint_state s (slot_of s id) name)) (refusing n here)

  abbrev pub go_back_quick : ℕ → ℕ → Option Went
  go_back_quick id name =
      let n = number_of s bs (go_back_checks s (room_used s bs) id name) in
      decided n (telling 0 0 d (redo_all lay_bytes (return_writes (tx_of s id) name) m) bs (went_back_state s (slot_of s id) m name)) (refusing n here)

  abbrev pub commit_bytes : ℕ → List ℕ
  commit_bytes id = encode_group (committed id (s.assigned.0 + 1) (writes_of (tx_of s id).redo))

  abbrev pub precommit_quick : ℕ → Option Went
  precommit_quick id =
      let n = number_of s bs (precommit_checks s id) in
      decided n
      (cond (follows s bs (commit_bytes id)) (telling (s.assigned.0 + 1) 0 d m (bs ++ commit_bytes id) (precommitted_state s (slot_of s id))) none)
      (refusing n here)

  abbrev pub abort_quick : ℕ → Option Went
  abort_quick id =
      let n = number_of s bs (abort_checks s id) in
      let e = encode_group (aborted id) in
      decided n
      (cond (follows s bs e) (telling 0 0 d (undo_all lay_bytes (writes_of (tx_of s id).undo) m) (bs ++ e) (dropped_state s (slot_of s id))) none)
      (refusing n here)

  abbrev pub settle_quick : ℕ → Option Went
  settle_quick id =
      let n = number_of s bs (settle_checks s id) in
      decided n (telling 0 0 d m bs (dropped_state s (slot_of s id))) (refusing n here)

  abbrev pub flush_quick : ℕ → ℕ → Option Went
  flush_quick k a =
      let n = number_of s bs [] in
      let size = first_size s bs k in
      let at = 17307 + s.logend in
      decided n
      (cond (leb (at + size) 33691)
      (cond (ltb a size) (cutting a (laid d at (take a bs))) (telling 0 size (laid d at (take size bs)) m (drop size bs) (flushed_state s bs k)))
      none)
      (refusing n here)

  abbrev pub image_bytes : List ℕ
  image_bytes = encode_image (image_of s) m

  abbrev pub slot : ℕ
  slot = target_at (get_or d 0 0)

  abbrev pub checkpoint_quick : ℕ → Option Went
  checkpoint_quick a =
      let n = number_of s bs [] in
      let size = length image_bytes in
      decided n
      (cond (leb (slot + size) 33691)
      (cond (ltb a (size + 1)) (cutting a (laid d slot (take a image_bytes)))
      (telling 0 (size + 1) (set (laid d slot image_bytes) 0 (target_name (get_or d 0 0))) m bs s))
      none)
      (refusing n here)

  -- a restart that is refused has no answer here
  abbrev pub restart_quick : ℕ → Option Went
  restart_quick a =
      let r = (examine_of d).result in
      let need = 16384 - r.end in
      let left = take (17307 + r.end + (need - a)) d ++ (replicate (need - (need - a)) 0 ++ drop 33691 d) in
      cond (eqb r.number 0)
      (cond (ltb a need) (cutting a left)
      (telling r.undone need left (examine_of d).memory (encode_log (aborts (undone_by (image_in d) (log_in d)))) (recovered_state r.end r.csn r.last)))
      none
