-- Document 02, A.4, on demand 3's lists of happenings: the ledger with reads that is fed the calls, and the whole statement, `ReadsSerial`.
use Rattle.std.specs.Prelude.{ℕ, List, [], ◌∷◌, ◌≡◌, length, replicate}
use Rattle.recovery.specs.Ledger.{unchanged}
use Rattle.history.specs.Calls.{Call, begin, write, read, read_answer, savepoint, go_back, precommit, abort, flush, settle, checkpoint, restart}
use Rattle.history.specs.Calls.{Reply, told, part, World, step_of}
use Rattle.history.specs.Demand.{event_of, Happening, called, power_fails, Watched, happen, opening}
use Rattle.serial.specs.Ledger.{LedgerWithReads, no_reads, without_reads, Fed, event, saw, feed}
use Rattle.serial.specs.Claim.{Serial, OnlyOpen}

-- ---- what the ledger with reads is fed of a call

-- a part of memory was handed back that isn't empty: only a read hands back any
abbrev pub saw_by : Call → List ℕ → Fed
saw_by begin bytes = event unchanged
saw_by (write id addr new) bytes = event unchanged
saw_by (read id addr len) bytes = saw id addr bytes
saw_by (read_answer id addr len) bytes = event unchanged
saw_by (savepoint id name) bytes = event unchanged
saw_by (go_back id name) bytes = event unchanged
saw_by (precommit id) bytes = event unchanged
saw_by (abort id) bytes = event unchanged
saw_by (flush groups allowed) bytes = event unchanged
saw_by (settle id) bytes = event unchanged
saw_by (checkpoint allowed) bytes = event unchanged
saw_by (restart allowed) bytes = event unchanged

-- of any other reply, what the ledger is fed
abbrev pub fed_of : Call → Reply → Fed
fed_of c (told says value stores) = event (event_of c (told says value stores))
fed_of c (part []) = event (event_of c (part []))
fed_of c (part (b ∷ bs)) = saw_by c (b ∷ bs)

abbrev pub fed_by : Happening → World → Fed
fed_by (called c) w = fed_of c (step_of c w).reply
fed_by (power_fails memory tail lm lt) w = event unchanged

-- ---- what may happen: to the store and its ledger what demand 3 says

pub record WatchedReads : Type 0 where
  pub world : World
  pub ledger : LedgerWithReads

abbrev pub watched : WatchedReads → Watched
watched k = record { world = k.world; ledger = without_reads k.ledger }

abbrev pub happen_read : Happening → WatchedReads → WatchedReads
happen_read h k = record { world = (happen h (watched k)).world; ledger = feed (fed_by h k.world) k.ledger }

abbrev pub happen_reads : List Happening → WatchedReads → WatchedReads
happen_reads [] k = k
happen_reads (h ∷ hs) k = happen_reads hs (happen_read h k)

-- an all-zero disk, as demand 3 opens; no read yet
abbrev pub opening_reads : List ℕ → List ℕ → WatchedReads
opening_reads memory tail = record { world = (opening memory tail).world; ledger = no_reads (replicate 4096 0) }

-- ---- the whole statement

-- of a store and its ledger with reads; memory is the opening one
pub record ReadsOrdered (memory : List ℕ) (k : WatchedReads) : Type 0 where
  -- "for every transaction kept at the end: each of its non-empty reads returned the bytes that running all kept transactions one after another, in commit
  -- order, would return at that read, own earlier writes included"; all that were assigned then are durable before it: "A reader of a precommitted booking that
  -- was later lost is never kept". Of a transaction that is open or queued at the end it says nothing.
  pub serial : Serial memory k.ledger.durable
  -- No read escapes: one that hands back bytes is noted, and handed back as many as it asked for. Of one made next, and so of every one in a list, which comes
  -- next after those before it
  pub noted : (id addr len b : ℕ) (bs : List ℕ) → (step_of (read id addr len) k.world).reply ≡ part (b ∷ bs) → OnlyOpen id k.ledger.active
  pub whole : (id addr len b : ℕ) (bs : List ℕ) → (step_of (read id addr len) k.world).reply ≡ part (b ∷ bs) → length (b ∷ bs) ≡ len

-- Document 02, A.4: whatever happens to a store that opens with an all-zero disk, and whatever memory and tail hold at first
abbrev pub ReadsSerial : Type 0
ReadsSerial = (memory tail : List ℕ) → length memory ≡ 4096 → length tail ≡ 16384 → (hs : List Happening)
    → ReadsOrdered (replicate 4096 0) (happen_reads hs (opening_reads memory tail))
