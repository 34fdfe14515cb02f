-- Worked cases of recovery, M3 to M5 from the image on and seven more: one table with one computed proof. And cases of number 9.
use mathlib.Core.Path.{◌≡◌, refl}
use mathlib.Core.Bool.{Bool, true, false}
use mathlib.Core.List.{List, [], ◌∷◌}
use Prim.Native.Nat.{ℕ}
use lib.Dec.{T, eqb, eqb→eq}
use lib.ListN.{set, replicate}
use Rattle.recovery.specs.Group.{Write, Group, committed, aborted}
use Rattle.recovery.specs.Lists.{All, nil, cons}
use Rattle.recovery.specs.Transaction.{Tx, held_by_other}
use Rattle.recovery.specs.Replay.{lay_bytes}
use Rattle.recovery.specs.Restart.{undo_order, recover}

-- an image's transactions and memory, number on disk 0; the groups after it; and the memory wanted
pub record Row : Type 0 where
  pub txs : List Tx
  pub groups : List Group
  pub memory : List ℕ
  pub wanted : List ℕ

abbrev zeros : List ℕ
zeros = replicate 4096 0

-- the byte b at address 10
abbrev pub byte10 : ℕ → Write
byte10 b = record { addr = 10; bytes = b ∷ [] }

abbrev pub byte11 : ℕ → Write
byte11 b = record { addr = 11; bytes = b ∷ [] }

abbrev memory10 : ℕ → List ℕ
memory10 b = set zeros 10 b

-- a transaction that wrote at address 10, over these old bytes, oldest first
abbrev ran : ℕ → List Write → Tx
ran id old = record { id = id; committing = false; csn = 0; undo = old; redo = []; savepoints = [] }

abbrev precommitted : ℕ → ℕ → List Write → Tx
precommitted id csn old = record { id = id; committing = true; csn = csn; undo = old; redo = []; savepoints = [] }

unfoldable pub rows : List Row
rows =
    -- M3: id 1 writes 5 over 0, checkpoint, abort; id 2 writes 7 there and commits
    record { txs = ran 1 (byte10 0 ∷ []) ∷ []; groups = aborted 1 ∷ committed 2 1 (byte10 7 ∷ []) ∷ []; memory = memory10 5; wanted = memory10 7 }
    -- M4: id 1 writes 5, precommit, checkpoint, no flush
    ∷ record { txs = precommitted 1 1 (byte10 0 ∷ []) ∷ []; groups = []; memory = memory10 5; wanted = zeros }
    -- M5: id 1 writes 5, precommit; id 2 writes 6 there, precommit, checkpoint
    ∷ record { txs = precommitted 1 1 (byte10 0 ∷ []) ∷ precommitted 2 2 (byte10 5 ∷ []) ∷ []; groups = []; memory = memory10 6; wanted = zeros }
    -- M5 with its first commit on disk
    ∷ record {
      txs = precommitted 1 1 (byte10 0 ∷ []) ∷ precommitted 2 2 (byte10 5 ∷ []) ∷ [];
      groups = committed 1 1 (byte10 5 ∷ []) ∷ [];
      memory = memory10 6;
      wanted = memory10 5;
    }
    -- a transaction that wrote twice is undone newest first
    ∷ record { txs = ran 1 (byte10 3 ∷ byte10 4 ∷ []) ∷ []; groups = []; memory = memory10 5; wanted = memory10 3 }
    -- an abort of an id that is finished does nothing
    ∷ record { txs = ran 1 (byte10 0 ∷ []) ∷ []; groups = committed 1 1 (byte10 5 ∷ []) ∷ aborted 1 ∷ []; memory = memory10 5; wanted = memory10 5 }
    -- A.7: id 1 writes 5 at 10, sets a savepoint, writes 6 at 11, checkpoint, goes back; its commit is on disk, or it is not
    ∷ record {
      txs = ran 1 (byte10 0 ∷ byte11 0 ∷ []) ∷ [];
      groups = committed 1 1 (byte10 5 ∷ byte11 6 ∷ byte11 0 ∷ []) ∷ [];
      memory = set (memory10 5) 11 6;
      wanted = memory10 5;
    }
    ∷ record { txs = ran 1 (byte10 0 ∷ byte11 0 ∷ []) ∷ []; groups = []; memory = set (memory10 5) 11 6; wanted = zeros }
    -- the same with the checkpoint after the return
    ∷ record { txs = ran 1 (byte10 0 ∷ byte11 0 ∷ byte11 6 ∷ []) ∷ []; groups = []; memory = memory10 5; wanted = zeros }
    -- running ones are undone in image order; on demand 3's lists they never meet in a byte
    ∷ record { txs = ran 1 (byte10 3 ∷ []) ∷ ran 2 (byte10 4 ∷ []) ∷ []; groups = []; memory = memory10 5; wanted = memory10 4 }
    ∷ []

-- an equality test that computes, and what it says

abbrev eq_list : List ℕ → List ℕ → Bool
eq_list [] [] = true
eq_list [] (y ∷ ys) = false
eq_list (x ∷ xs) [] = false
eq_list (x ∷ xs) (y ∷ ys) = elim (eqb x y) [ true ↦ eq_list xs ys | false ↦ false ]

eq_list_to_eq : (xs ys : List ℕ) → T (eq_list xs ys) → xs ≡ ys
eq_list_to_eq [] [] t = refl
eq_list_to_eq [] (y ∷ ys) t = absurd t
eq_list_to_eq (x ∷ xs) [] t = absurd t
eq_list_to_eq (x ∷ xs) (y ∷ ys) t = go (eqb x y) refl t (λ u. eq_list_to_eq xs ys u)
  where
    go : (b : Bool) → eqb x y ≡ b → T (elim b [ true ↦ eq_list xs ys | false ↦ false ]) → (T (eq_list xs ys) → xs ≡ ys) → x ∷ xs ≡ y ∷ ys
    go true e u f = let same : x ≡ y = eqb→eq x y (rw e tt) in let rest : xs ≡ ys = f u in cc
    go false e u f = absurd u

abbrev pub result : Row → List ℕ
result r = recover lay_bytes r.txs 0 r.groups r.memory

abbrev every : List Row → Bool
every [] = true
every (r ∷ rs) = elim (eq_list (result r) r.wanted) [ true ↦ every rs | false ↦ false ]

every_to_all : (rs : List Row) → T (every rs) → All (λ r. result r ≡ r.wanted) rs
every_to_all [] t = nil
every_to_all (r ∷ rs) t = go (eq_list (result r) r.wanted) refl t (λ u. every_to_all rs u)
  where
    go : (b : Bool) → eq_list (result r) r.wanted ≡ b → T (elim b [ true ↦ every rs | false ↦ false ]) → (T (every rs) → All (λ q. result q ≡ q.wanted) rs)
        → All (λ q. result q ≡ q.wanted) (r ∷ rs)
    go true e u f = cons (eq_list_to_eq (result r) r.wanted (rw e tt)) (f u)
    go false e u f = absurd u

pub cases : All (λ r. result r ≡ r.wanted) rows
unfolding rows undo_order
cases = every_to_all rows tt

-- Number 9: id 1 holds 10 and 11; id 3, which is committing, holds nothing.
abbrev range : ℕ → List ℕ → Write
range addr bytes = record { addr = addr; bytes = bytes }

abbrev held_by : ℕ → Write → Bool
held_by id w = held_by_other id w (ran 1 (range 10 (0 ∷ 0 ∷ []) ∷ []) ∷ precommitted 3 1 (range 20 (0 ∷ []) ∷ []) ∷ [])

pub held_cases : (held_by 2 (range 8 (1 ∷ 1 ∷ [])) ≡ false) × (held_by 2 (range 9 (1 ∷ 1 ∷ [])) ≡ true) × (held_by 2 (range 11 (1 ∷ 1 ∷ [])) ≡ true)
    × (held_by 2 (range 12 (1 ∷ 1 ∷ [])) ≡ false) × (held_by 1 (range 10 (1 ∷ [])) ≡ false) × (held_by 2 (range 20 (1 ∷ [])) ≡ false)
held_cases = (refl, refl, refl, refl, refl, refl)
