-- The first groups of a disk's log: by cases.
use Prim.Native.Nat.{ℕ, ◌≤◌}
use native.Mathlib.Omega.{arith}
use mathlib.Core.Bool.{Bool, true, false, ◌&&◌}
use mathlib.Core.List.{List}
use mathlib.Core.Path.{◌≡◌, refl, ap}
use lib.ListN.{length}
use lib.Dec.{eqb}
use borrow.Author.Tests.{eq-eqb, ne_eqb}
use Rattle.image.specs.declared.Image.{Image}
use Rattle.restart.specs.declared.forward.Pass.{Pass}
use Rattle.restart.specs.Forward.{first_of}
use Rattle.restart.proofs.First.{first_within}
use Rattle.disk.specs.Open.{open_of}
use Rattle.inspect.specs.Groups.{refused_groups, GroupsLeft, pass_of, applied_by, first_groups_of}

pub and_no : (a : Bool) → a && false ≡ false
and_no true = refl
and_no false = refl

module _ (disk memory : List ℕ) (k : ℕ) where
  abbrev refused_by1 : GroupsLeft
  refused_by1 = record { result = refused_groups 1; memory = memory }

  pub groups_no_disk : (length disk ≡ 33691 → ⊥) → first_groups_of disk memory k ≡ refused_by1
  unfolding first_groups_of
  groups_no_disk n = rw (ne_eqb (length disk) 33691 n)

  pub groups_no_memory : (length memory ≡ 4096 → ⊥) → first_groups_of disk memory k ≡ refused_by1
  unfolding first_groups_of
  groups_no_memory n = rw (ne_eqb (length memory) 4096 n, and_no (eqb (length disk) 33691))

  module _ (d : length disk ≡ 33691) (m : length memory ≡ 4096) where
    pub groups_shut : ((open_of disk).number ≡ 0 → ⊥)
        → first_groups_of disk memory k ≡ record { result = refused_groups (open_of disk).number; memory = (open_of disk).memory }
    unfolding first_groups_of
    groups_shut n = rw (eq-eqb (length disk) 33691 d, eq-eqb (length memory) 4096 m, ne_eqb (open_of disk).number 0 n)

    pub groups_open : (open_of disk).number ≡ 0 → first_groups_of disk memory k ≡ applied_by (open_of disk).image.logend (pass_of k (open_of disk))
    unfolding first_groups_of
    groups_open e = rw (eq-eqb (length disk) 33691 d, eq-eqb (length memory) 4096 m, eq-eqb (open_of disk).number 0 e)

-- over however many groups, the pass stays within the log
pub pass_within : (k : ℕ) (image : Image) (log m : List ℕ) {p : Pass} → p ≡ (first_of k image log m).pass → p.end ≤ length log
pass_within k image log m e = omega (arith, ap (λ (p : Pass). p.end) e, first_within k image log m)
