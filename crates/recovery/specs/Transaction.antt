-- Transactions as the store and its images list them, in order of begin.
use Rattle.std.specs.Prelude.{ℕ, ◌+◌, Bool, not, cond, ◌&&◌, List, [], ◌∷◌, length, eqb, ltb}
use Rattle.std.proofs.Math.Option.{Option, none, some}
use Rattle.layout.specs.{commit_len}
use Rattle.recovery.specs.Group.{Write, redo_size}
use Rattle.recovery.specs.Lists.{any, filter}
use Rattle.recovery.specs.Savepoint.{Savepoint}

-- id, status (running or committing), commit number (csn), undo and redo records, oldest first, and savepoints; an image has neither redo records nor
-- savepoints
pub record Tx : Type 0 where
  pub id : ℕ
  pub committing : Bool
  pub csn : ℕ
  pub undo : List Write
  pub redo : List Write
  pub savepoints : List Savepoint

abbrev pub running : List Tx → List Tx
running txs = filter (λ t. not t.committing) txs

abbrev pub committing : List Tx → List Tx
committing txs = filter (λ t. t.committing) txs

-- by id
abbrev pub lookup : ℕ → List Tx → Option Tx
lookup i [] = none
lookup i (t ∷ ts) = cond (eqb i t.id) (some t) (lookup i ts)

abbrev pub edit : ℕ → (Tx → Tx) → List Tx → List Tx
edit i f [] = []
edit i f (t ∷ ts) = cond (eqb i t.id) (f t ∷ ts) (t ∷ edit i f ts)

abbrev pub remove : ℕ → List Tx → List Tx
remove i [] = []
remove i (t ∷ ts) = cond (eqb i t.id) ts (t ∷ remove i ts)

-- the ranges of two writes, of a byte at least each, have a byte in common
abbrev pub overlap : Write → Write → Bool
overlap v w = ltb v.addr (w.addr + length w.bytes) && ltb w.addr (v.addr + length v.bytes)

-- A byte is held while a running transaction has an undo record over it.
-- Number 9: a byte of the range is held by another.
abbrev pub held_by_other : ℕ → Write → List Tx → Bool
held_by_other i w txs = any (λ t. not (eqb i t.id) && (not t.committing && any (λ u. overlap u w) t.undo)) txs

-- the log room that running transactions hold: for each its redo bytes + 8
abbrev pub reserved : List Tx → ℕ
reserved [] = 0
reserved (t ∷ ts) = redo_size t.redo + commit_len + reserved ts
