-- Calls one after the other: "Each call gets the disk, memory, tail and state that the calls before it left or returned". A call's outcome is the
-- definition that its contract cites.
use Rattle.std.specs.Prelude.{ℕ, List, [], ◌∷◌, replicate}
use Rattle.store.specs.declared.State.{State}
use Rattle.store.specs.State.{unrecovered}
use Rattle.store.specs.Answer.{Word, Told}
use Rattle.store.specs.Calls.{Outcome, begin_of, write_of, read_of, read_answer_of, savepoint_of, go_back_of, precommit_of, abort_of, settle_of}
use Rattle.store.specs.Stored.{DiskOutcome}
use Rattle.store.specs.Flush.{flush_of}
use Rattle.store.specs.Checkpoint.{checkpoint_of}
use Rattle.disk.specs.Restart.{restart_of}

-- the nine calls, read's sister (`read_answer`), setting a savepoint and going back (document 02, A.7), with their arguments
pub data Call : Type 0 where
  begin : Call
  write : (id addr : ℕ) (bytes : List ℕ) → Call
  read : (id addr len : ℕ) → Call
  read_answer : (id addr len : ℕ) → Call
  savepoint : (id name : ℕ) → Call
  go_back : (id name : ℕ) → Call
  precommit : (id : ℕ) → Call
  abort : (id : ℕ) → Call
  flush : (groups allowed : ℕ) → Call
  settle : (id : ℕ) → Call
  checkpoint : (allowed : ℕ) → Call
  restart : (allowed : ℕ) → Call

-- what a call tells: its word, its value and the stores made; read hands back a part of memory
pub data Reply : Type 0 where
  told : (says : Word) (value stores : ℕ) → Reply
  part : List ℕ → Reply

-- what is lent to the calls, and the state between them
pub record World : Type 0 where
  pub disk : List ℕ
  pub memory : List ℕ
  pub tail : List ℕ
  pub state : State

-- "An all-zero disk is a fresh one", and no call was made yet
abbrev pub fresh_world : World
fresh_world = record { disk = replicate 33691 0; memory = replicate 4096 0; tail = replicate 16384 0; state = unrecovered }

abbrev pub with_state : State → World → World
with_state s w = record { disk = w.disk; memory = w.memory; tail = w.tail; state = s }

pub record Stepped : Type 0 where
  pub reply : Reply
  pub world : World

-- ---- the reply, and the world that the call leaves

abbrev pub reply_of : Told → Reply
reply_of r = told r.says r.value r.stores

-- of a call that changes no buffer
abbrev pub returned : World → Told → Stepped
returned w r = record { reply = reply_of r; world = with_state r.state w }

-- of one that may change memory and tail
abbrev pub changed : World → Outcome → Stepped
changed w o = record { reply = reply_of o.result; world = record { disk = w.disk; memory = o.memory; tail = o.tail; state = o.result.state } }

-- of one that stores on the disk
abbrev pub stored : DiskOutcome → Stepped
stored o = record { reply = reply_of o.result; world = record { disk = o.disk; memory = o.memory; tail = o.tail; state = o.result.state } }

-- one call
unfoldable pub step_of : Call → World → Stepped
step_of begin w = returned w (begin_of w.state w.memory w.tail)
step_of (write id addr bytes) w = changed w (write_of w.state w.memory w.tail (record { 0 = id }) addr bytes)
step_of (read id addr len) w = record { reply = part (read_of w.state w.memory w.tail (record { 0 = id }) addr len); world = w }
step_of (read_answer id addr len) w = returned w (read_answer_of w.state w.memory w.tail (record { 0 = id }) addr len)
step_of (savepoint id name) w = returned w (savepoint_of w.state w.memory w.tail (record { 0 = id }) name)
step_of (go_back id name) w = changed w (go_back_of w.state w.memory w.tail (record { 0 = id }) name)
step_of (precommit id) w = changed w (precommit_of w.state w.memory w.tail (record { 0 = id }))
step_of (abort id) w = changed w (abort_of w.state w.memory w.tail (record { 0 = id }))
step_of (flush groups allowed) w = stored (flush_of w.state w.disk w.memory w.tail groups allowed)
step_of (settle id) w = returned w (settle_of w.state w.memory w.tail (record { 0 = id }))
step_of (checkpoint allowed) w = stored (checkpoint_of w.state w.disk w.memory w.tail allowed)
step_of (restart allowed) w = stored (restart_of w.disk w.memory w.tail allowed)

-- what a list of calls tells, and what it leaves
pub record Ran : Type 0 where
  pub replies : List Reply
  pub world : World

abbrev pub and_ran : Reply → Ran → Ran
and_ran x r = record { replies = x ∷ r.replies; world = r.world }

abbrev pub run_of : List Call → World → Ran
run_of [] w = record { replies = []; world = w }
run_of (c ∷ cs) w = and_ran (step_of c w).reply (run_of cs (step_of c w).world)
