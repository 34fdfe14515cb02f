-- Groups one after the other: sizes, numbers, the memories that they lead to, what fits; and the abort records that restart adds.
use mathlib.Core.Path.{◌≡◌, refl, ap}
use mathlib.Core.Bool.{Bool, true, false, cond}
use mathlib.Core.List.{List, [], ◌∷◌, ◌++◌}
use Prim.Native.Nat.{ℕ, ◌+◌, ◌-◌, ◌*◌, ◌≤◌}
use native.Mathlib.Omega.{arith}
use lib.Dec.{leb}
use lib.ListN.{length, drop}
use borrow.Author.Tests.{le-leb}
use Rattle.recovery.specs.Group.{Write, Group, committed, aborted, redo_size, group_size, groups_size, csn_after, last_csn, fitting}
use Rattle.recovery.specs.Lists.{has}
use Rattle.recovery.specs.Transaction.{Tx, reserved}
use Rattle.recovery.specs.Replay.{redo_all, undo_all, undo_each, replay}
use Rattle.recovery.specs.Restart.{finished, undo_of, aborts, forward}

-- sizes

pub redo_size_append : (us vs : List Write) → redo_size (us ++ vs) ≡ redo_size us + redo_size vs
redo_size_append [] vs = omega arith
redo_size_append (w ∷ us) vs = let ih : redo_size (us ++ vs) ≡ redo_size us + redo_size vs = redo_size_append us vs in omega arith

pub groups_size_append : (gs hs : List Group) → groups_size (gs ++ hs) ≡ groups_size gs + groups_size hs
groups_size_append [] hs = omega arith
groups_size_append (g ∷ gs) hs = let ih : groups_size (gs ++ hs) ≡ groups_size gs + groups_size hs = groups_size_append gs hs in omega arith

pub reserved_append : (xs ys : List Tx) → reserved (xs ++ ys) ≡ reserved xs + reserved ys
reserved_append [] ys = omega arith
reserved_append (x ∷ xs) ys = let ih : reserved (xs ++ ys) ≡ reserved xs + reserved ys = reserved_append xs ys in omega arith

-- one list of groups after another

pub last_csn_append : (n : ℕ) (gs hs : List Group) → last_csn n (gs ++ hs) ≡ last_csn (last_csn n gs) hs
last_csn_append n [] hs = refl
last_csn_append n (g ∷ gs) hs = last_csn_append (csn_after n g) gs hs

module _ {M : Type 0} (lay : Write → M → M) where
  pub replay_append : (gs hs : List Group) (m : M) → replay lay (gs ++ hs) m ≡ replay lay hs (replay lay gs m)
  replay_append [] hs m = refl
  replay_append (committed i n ws ∷ gs) hs m = replay_append gs hs (redo_all lay ws m)
  replay_append (aborted i ∷ gs) hs m = replay_append gs hs m

  pub undo_each_append : (ts us : List Tx) (m : M) → undo_each lay (ts ++ us) m ≡ undo_each lay us (undo_each lay ts m)
  undo_each_append [] us m = refl
  undo_each_append (t ∷ ts) us m = undo_each_append ts us (undo_all lay t.undo m)

  pub forward_append : (txs : List Tx) (gs hs : List Group) (f : List ℕ) (m : M)
      → forward lay txs (gs ++ hs) f m ≡ forward lay txs hs (finished gs f) (forward lay txs gs f m)
  forward_append txs [] hs f m = refl
  forward_append txs (committed i n ws ∷ gs) hs f m = forward_append txs gs hs (i ∷ f) (redo_all lay ws m)
  forward_append txs (aborted i ∷ gs) hs f m = forward_append txs gs hs (i ∷ f) (cond (has i f) m (undo_all lay (undo_of i txs) m))

-- what fits is a first part, and all if there are stores enough

pub fitting_split : (n : ℕ) (gs : List Group) → gs ≡ fitting n gs ++ drop (length (fitting n gs)) gs
fitting_split n [] = refl
fitting_split n (g ∷ gs) = go (leb (group_size g) n) (fitting_split (n - group_size g) gs)
  where
    go : (b : Bool) → gs ≡ fitting (n - group_size g) gs ++ drop (length (fitting (n - group_size g) gs)) gs
        → g ∷ gs ≡ cond b (g ∷ fitting (n - group_size g) gs) [] ++ drop (length (cond b (g ∷ fitting (n - group_size g) gs) [])) (g ∷ gs)
    go true e = ap (λ (l : List Group). g ∷ l) e
    go false e = refl

pub fitting_all : (n : ℕ) (gs : List Group) → groups_size gs ≤ n → fitting n gs ≡ gs
fitting_all n [] h = refl
fitting_all n (g ∷ gs) h = rw (le-leb (group_size g) n (omega arith)) (ap (λ (l : List Group). g ∷ l) (fitting_all (n - group_size g) gs (omega arith)))

-- restart's own abort records

pub groups_size_aborts : (us : List Tx) → groups_size (aborts us) ≡ 4 * length us
groups_size_aborts [] = omega arith
groups_size_aborts (u ∷ us) = let ih : groups_size (aborts us) ≡ 4 * length us = groups_size_aborts us in omega arith

pub last_csn_aborts : (n : ℕ) (us : List Tx) → last_csn n (aborts us) ≡ n
last_csn_aborts n [] = refl
last_csn_aborts n (u ∷ us) = last_csn_aborts n us

pub replay_aborts : {M : Type 0} (lay : Write → M → M) (us : List Tx) (m : M) → replay lay (aborts us) m ≡ m
replay_aborts lay [] m = refl
replay_aborts lay (u ∷ us) m = replay_aborts lay us m
