-- Doing and undoing writes, over any memory M in which one write can be laid.
use Rattle.std.specs.Prelude.{ℕ, List, [], ◌∷◌, length, take, drop}
use Rattle.std.proofs.lemmas.List.Edits.{sets}
use Rattle.recovery.specs.Group.{Write, Group, committed, aborted}
use Rattle.recovery.specs.Transaction.{Tx}

module _ {M : Type 0} (lay : Write → M → M) where
  -- redo records, in order
  abbrev pub redo_all : List Write → M → M
  redo_all [] m = m
  redo_all (w ∷ ws) m = redo_all ws (lay w m)

  -- undo records, newest first; the list is oldest first
  abbrev pub undo_all : List Write → M → M
  undo_all [] m = m
  undo_all (w ∷ ws) m = lay w (undo_all ws m)

  -- one transaction after the other
  abbrev pub undo_each : List Tx → M → M
  undo_each [] m = m
  undo_each (t ∷ ts) m = undo_each ts (undo_all t.undo m)

  -- the commits of a log, one after the other
  abbrev pub replay : List Group → M → M
  replay [] m = m
  replay (committed i n ws ∷ gs) m = replay gs (redo_all ws m)
  replay (aborted i ∷ gs) m = replay gs m

-- a write in a memory of bytes; what would lie past its end is left out
abbrev pub lay_bytes : Write → List ℕ → List ℕ
lay_bytes w m = sets m w.addr w.bytes

-- what stands in a memory where a write goes: its old bytes
abbrev pub old_bytes : Write → List ℕ → Write
old_bytes w m = record { addr = w.addr; bytes = take (length w.bytes) (drop w.addr m) }

-- the old bytes of writes, in order, each as those before it leave them
abbrev pub olds_of : List ℕ → List Write → List Write
olds_of m [] = []
olds_of m (w ∷ ws) = old_bytes w m ∷ olds_of (lay_bytes w m) ws
