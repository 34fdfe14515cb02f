-- Laws of finding a transaction's slot by its id.
use Prim.Native.Nat.{ℕ, ◌<◌}
use native.Mathlib.Omega.{arith}
use mathlib.Core.Bool.{true}
use mathlib.Core.List.{List, map}
use mathlib.Core.Path.{◌≡◌, sym, ◌∙◌}
use lib.ListN.{length, length-map}
use Rattle.recovery.specs.Lists.{any}
use Rattle.transaction.proofs.First.{First, first, first_within}
use Rattle.store.specs.declared.State.{State}
use Rattle.store.specs.State.{tx_at, txs_of, has_id, slot_of}

pub slot : (s : State) (id : ℕ) → First (tx_at s) (has_id id) 0 s.count (slot_of s id) (any (has_id id) (txs_of s))
slot s id = first (tx_at s) (has_id id) s.count 0

-- the slot of a listed id is one that counts
pub slot_within : (s : State) (id : ℕ) → any (has_id id) (txs_of s) ≡ true → slot_of s id < s.count
slot_within s id e = let h = first_within (tx_at s) (has_id id) s.count 0 e in omega arith

-- ---- the array of slots

-- an array of structs has its length: `search (rules, length_mapped)` finds it in what a parameter tells
pub length_mapped : (X Y : Type 0) (f : X → Y) (l : List X) (n : ℕ) → length (map f l) ≡ n → length l ≡ n
length_mapped X Y f l n p = sym (length-map l f) ∙ p
