-- `luppaneth_read` gives a length alone: its part is the memory of that length from the address on.
use Prim.Native.Nat.{ℕ, zero, suc}
use mathlib.Core.Bool.{Bool, true, false, cond}
use mathlib.Core.List.{List, [], ◌∷◌}
use mathlib.Core.Path.{◌≡◌, refl, ap}
use lib.ListN.{length, take, drop}
use lib.Dec.{eqb}
use Rattle.redolog.specs.declared.TxId.{TxId}
use Rattle.transaction.specs.View.{used_by}
use Rattle.transaction.specs.Rules.{covered}
use Rattle.store.specs.declared.State.{State}
use Rattle.store.specs.Numbers.{tx_of}
use Rattle.store.specs.Calls.{read_number, read_of}

take_taken : (n : ℕ) (xs : List ℕ) → take n xs ≡ take (length (take n xs)) xs
take_taken zero xs = refl
take_taken (suc n) [] = refl
take_taken (suc n) (x ∷ xs) = ap (x ∷◌) (take_taken n xs)

pub read_part : (s : State) (m t : List ℕ) (id : TxId) (a n : ℕ) → let part = read_of s m t id a n in part ≡ take (length part) (drop a m)
unfolding read_of
read_part s m t id a n = go (eqb (read_number s m t id a n) 0) (covered (used_by (tx_of s id.0)) a n)
  where
    go : (b c : Bool) → let part = cond b (cond c (take n (drop a m)) []) [] in part ≡ take (length part) (drop a m)
    go true true = take_taken n (drop a m)
    go true false = refl
    go false c = refl
