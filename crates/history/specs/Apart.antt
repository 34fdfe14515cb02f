-- Readers hold (document 02, A.2), on demand 3's lists: whatever happens to a store that opens with an all-zero disk, no range that a running transaction
-- has read meets one that another running one has written, record by record. That it holds: `readers_hold` (proofs/Apart.antt).
use Rattle.std.specs.Prelude.{List, ℕ}
use Rattle.store.specs.Apart.{ReadsApart}
use Rattle.history.specs.Demand.{Happening, happen_all, opening}

abbrev pub ReadersHold : Type 0
ReadersHold = (memory tail : List ℕ) (hs : List Happening) → ReadsApart (happen_all hs (opening memory tail)).world.state
