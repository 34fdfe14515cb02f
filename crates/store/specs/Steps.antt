-- What the calls make of the state once nothing refuses them, in every field and slot: compact, in order of begin.
use Rattle.std.specs.Prelude.{ℕ, ◌+◌, ◌-◌, List, ◌∷◌, ◌++◌, length, take, drop, set}
use Rattle.transaction.specs.declared.Tx.{Tx}
use Rattle.transaction.specs.Flat.{empty_tx}
use Rattle.transaction.specs.Steps.{fresh_tx, written, with_read, savepointed, gone_back, precommitted}
use Rattle.store.specs.declared.State.{State}
use Rattle.store.specs.State.{tx_at, with_txs}

-- Begin: "gives the last id plus 1". The new transaction goes into the first unused slot.
unfoldable pub begun_state : State → State
begun_state s =
    with_txs s s.assigned (record { 0 = s.lastid.0 + 1 }) (s.count + 1) (set s.txs s.count (fresh_tx (record { 0 = s.lastid.0 + 1 })))

-- Write: "adds an undo record with the old bytes and a redo record to the transaction's own lists"
unfoldable pub written_state : State → ℕ → List ℕ → ℕ → List ℕ → State
written_state s slot m a bs =
    with_txs s s.assigned s.lastid s.count (set s.txs slot (written (tx_at s slot) a (take (length bs) (drop a m)) bs))

-- Read's sister: "adds a range to the state" (document 02, A.2)
unfoldable pub read_state : State → ℕ → ℕ → ℕ → State
read_state s slot a n = with_txs s s.assigned s.lastid s.count (set s.txs slot (with_read (tx_at s slot) a n))

-- Setting a savepoint (document 02, A.7)
unfoldable pub savepoint_state : State → ℕ → ℕ → State
savepoint_state s slot name = with_txs s s.assigned s.lastid s.count (set s.txs slot (savepointed (tx_at s slot) name))

-- Going back: "writes the old bytes of every later write, newest first, as ordinary writes"
unfoldable pub went_back_state : State → ℕ → List ℕ → ℕ → State
went_back_state s slot m name = with_txs s s.assigned s.lastid s.count (set s.txs slot (gone_back (tx_at s slot) m name))

-- Precommit: "assigns the next commit number, .. marks the transaction committing"
unfoldable pub precommitted_state : State → ℕ → State
precommitted_state s slot =
    with_txs s (record { 0 = s.assigned.0 + 1 }) s.lastid s.count (set s.txs slot (precommitted (tx_at s slot) (record { 0 = s.assigned.0 + 1 })))

-- n transactions without the one in a slot: the later ones move down, the slot that falls free is all zero, the unused ones stay
unfoldable pub without : List Tx → ℕ → ℕ → List Tx
without ts slot n = take slot ts ++ (take (n - 1 - slot) (drop (slot + 1) ts) ++ (empty_tx ∷ drop n ts))

-- Abort and settle: "drops the transaction"
unfoldable pub dropped_state : State → ℕ → State
dropped_state s slot = with_txs s s.assigned s.lastid (s.count - 1) (without s.txs slot s.count)
