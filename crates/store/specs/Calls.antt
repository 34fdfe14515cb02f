-- What each call leaves, for every input: its result, and memory and tail where it may change them.
use Rattle.std.specs.Prelude.{ℕ, ◌+◌, cond, List, [], length, take, drop, eqb}
use Rattle.std.proofs.lemmas.List.Edits.{sets}
use Rattle.recovery.specs.Group.{Group, committed, aborted}
use Rattle.recovery.specs.Replay.{redo_all, undo_all, lay_bytes}
use Rattle.redolog.specs.declared.TxId.{TxId}
use Rattle.redolog.specs.Group.{encode_group}
use Rattle.transaction.specs.View.{used_by, writes_of}
use Rattle.transaction.specs.Rules.{covered}
use Rattle.transaction.specs.Steps.{return_writes}
use Rattle.store.specs.declared.State.{State}
use Rattle.store.specs.State.{slot_of}
use Rattle.store.specs.Answer.{done, refused, Told, tells}
use Rattle.store.specs.Rules.{tail_length, room_used}
use Rattle.store.specs.Numbers.{tx_of, number_by, begin_checks, read_checks, answer_checks, write_checks, savepoint_checks, go_back_checks, precommit_checks, abort_checks, settle_checks}
use Rattle.store.specs.Steps.{begun_state, written_state, read_state, savepoint_state, went_back_state, precommitted_state, dropped_state}

pub record Outcome : Type 0 where
  pub result : Told
  pub memory : List ℕ
  pub tail : List ℕ

-- done if the number is 0
abbrev pub decided : {A : Type 0} → ℕ → A → A → A
decided n whenDone whenRefused = cond (eqb n 0) whenDone whenRefused

-- a refusal tells its number alone, and gives the state back as it was
abbrev pub refusing : ℕ → State → Told
refusing n s = tells (refused n) 0 0 s

-- ---- begin

abbrev pub begin_number : State → List ℕ → List ℕ → ℕ
begin_number s m t = number_by s (length m) t (begin_checks s.count s.lastid.0 (room_used s t))

unfoldable pub begin_of : State → List ℕ → List ℕ → Told
begin_of s m t =
    let n = begin_number s m t in
    decided n (tells done (s.lastid.0 + 1) 0 (begun_state s)) (refusing n s)

-- ---- write

abbrev pub write_number : State → List ℕ → List ℕ → TxId → ℕ → ℕ → ℕ
write_number s m t id a n = number_by s (length m) t (write_checks s (room_used s t) id.0 a n)

unfoldable pub write_of : State → List ℕ → List ℕ → TxId → ℕ → List ℕ → Outcome
write_of s m t id a bs =
    let n = write_number s m t id a (length bs) in
    decided n (record { result = tells done 0 0 (written_state s (slot_of s id.0) m a bs); memory = sets m a bs; tail = t })
    (record { result = refusing n s; memory = m; tail = t })

-- ---- read and its sister

abbrev pub read_number : State → List ℕ → List ℕ → TxId → ℕ → ℕ → ℕ
read_number s m t id a n = number_by s (length m) t (read_checks s id.0 a n)

-- "hands back the part of memory itself; a refused read hands back an empty part", and so does one of which a byte is not covered: "handed back just
-- where nothing up to 9 refuses and each of its bytes lies in a range that the transaction has read or written" (document 02, A.2)
unfoldable pub read_of : State → List ℕ → List ℕ → TxId → ℕ → ℕ → List ℕ
read_of s m t id a n = decided (read_number s m t id a n) (cond (covered (used_by (tx_of s id.0)) a n) (take n (drop a m)) []) []

abbrev pub answer_number : State → List ℕ → List ℕ → TxId → ℕ → ℕ → ℕ
answer_number s m t id a n = number_by s (length m) t (answer_checks s id.0 a n)

-- "A sister call with the same arguments tells the number"; it "takes the hold" (document 02, A.2)
unfoldable pub read_answer_of : State → List ℕ → List ℕ → TxId → ℕ → ℕ → Told
read_answer_of s m t id a n =
    let k = answer_number s m t id a n in
    decided k (tells done 0 0 (read_state s (slot_of s id.0) a n)) (refusing k s)

-- ---- savepoints (document 02, A.7): set, and gone back to

abbrev pub savepoint_number : State → List ℕ → List ℕ → TxId → ℕ → ℕ
savepoint_number s m t id name = number_by s (length m) t (savepoint_checks s id.0 name)

unfoldable pub savepoint_of : State → List ℕ → List ℕ → TxId → ℕ → Told
savepoint_of s m t id name =
    let n = savepoint_number s m t id name in
    decided n (tells done 0 0 (savepoint_state s (slot_of s id.0) name)) (refusing n s)

abbrev pub go_back_number : State → List ℕ → List ℕ → TxId → ℕ → ℕ
go_back_number s m t id name = number_by s (length m) t (go_back_checks s (room_used s t) id.0 name)

unfoldable pub go_back_of : State → List ℕ → List ℕ → TxId → ℕ → Outcome
go_back_of s m t id name =
    let n = go_back_number s m t id name in
    decided n
    (record {
      result = tells done 0 0 (went_back_state s (slot_of s id.0) m name);
      memory = redo_all lay_bytes (return_writes (tx_of s id.0) name) m;
      tail = t;
    })
    (record { result = refusing n s; memory = m; tail = t })

-- ---- precommit

abbrev pub precommit_number : State → List ℕ → List ℕ → TxId → ℕ
precommit_number s m t id = number_by s (length m) t (precommit_checks s id.0)

-- a group appended to the tail
abbrev pub appended : State → List ℕ → Group → List ℕ
appended s t g = sets t (tail_length s.ondisk.0 t) (encode_group g)

unfoldable pub precommit_of : State → List ℕ → List ℕ → TxId → Outcome
precommit_of s m t id =
    let n = precommit_number s m t id in
    let csn = s.assigned.0 + 1 in
    decided n
    (record {
      result = tells done csn 0 (precommitted_state s (slot_of s id.0));
      memory = m;
      tail = appended s t (committed id.0 csn (writes_of (tx_of s id.0).redo));
    })
    (record { result = refusing n s; memory = m; tail = t })

-- ---- abort

abbrev pub abort_number : State → List ℕ → List ℕ → TxId → ℕ
abort_number s m t id = number_by s (length m) t (abort_checks s id.0)

-- "undoes newest first, appends the abort record, drops the transaction"
unfoldable pub abort_of : State → List ℕ → List ℕ → TxId → Outcome
abort_of s m t id =
    let n = abort_number s m t id in
    decided n
    (record {
      result = tells done 0 0 (dropped_state s (slot_of s id.0));
      memory = undo_all lay_bytes (writes_of (tx_of s id.0).undo) m;
      tail = appended s t (aborted id.0);
    })
    (record { result = refusing n s; memory = m; tail = t })

-- ---- settle

abbrev pub settle_number : State → List ℕ → List ℕ → TxId → ℕ
settle_number s m t id = number_by s (length m) t (settle_checks s id.0)

unfoldable pub settle_of : State → List ℕ → List ℕ → TxId → Told
settle_of s m t id =
    decided (settle_number s m t id) (tells done 0 0 (dropped_state s (slot_of s id.0))) (refusing (settle_number s m t id) s)
