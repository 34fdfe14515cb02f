-- The pass over the first groups of a log (document 02, A.3): from one number of groups to the next, over all of them, and in recovery's terms.
use Prim.Native.Nat.{ℕ, zero, suc, ◌≤◌}
use native.Mathlib.Omega.{arith}
use mathlib.Core.Bool.{true}
use mathlib.Core.List.{List, [], ◌∷◌}
use mathlib.Core.Path.{◌≡◌, refl, sym, ap, ◌∙◌}
use lib.ListN.{length, take}
use lib.Seq.{take_all}
use Rattle.recovery.specs.Group.{Group, groups_size, last_csn}
use Rattle.recovery.specs.Replay.{lay_bytes}
use Rattle.recovery.specs.Restart.{forward}
use Rattle.redolog.proofs.LogLaws.{log_within, log_whole}
use Rattle.image.specs.declared.Image.{Image}
use Rattle.image.specs.Content.{transactions_in}
use Rattle.image.specs.Rules.{keeps_rules}
use Rattle.restart.specs.Forward.{Went, go_over, start_of, groups_of, forward_of, first_of}
use Rattle.restart.proofs.Passed.{counted, started}
use Rattle.restart.proofs.Steps.{rest, group_step, rest_more}

-- ---- over all groups

pub first_all : (k : ℕ) (image : Image) (log m : List ℕ) → length (groups_of image log) ≤ k → first_of k image log m ≡ forward_of image log m
unfolding first_of forward_of
first_all k image log m h = ap (λ (gs : List Group). go_over image gs (start_of image m)) (take_all k (groups_of image log) h)

-- no log has more groups than bytes
pub first_whole : (image : Image) (log m : List ℕ) → first_of (length log) image log m ≡ forward_of image log m
unfolding first_of forward_of
first_whole image log m = ap (λ (gs : List Group). go_over image gs (start_of image m)) (log_whole image.ondisk.0 log)

-- ---- one group more

rest_last : (k : ℕ) (image : Image) (log : List ℕ) (w : Went) → rest (suc k) image log w ≡ group_step image log (rest k image log w)
rest_last zero image log w = rest_more image log w 0
rest_last (suc k) image log w =
    rest_more image log w (suc k) ∙ rest_last k image log (group_step image log w) ∙ ap (group_step image log) (sym (rest_more image log w k))

-- the step between two answers is the group's own effect; where none stands, nothing
pub first_more : (k : ℕ) (image : Image) (log m : List ℕ) → first_of (suc k) image log m ≡ group_step image log (first_of k image log m)
unfolding first_of
first_more k image log m = rest_last k image log (start_of image m)

-- ---- in recovery's terms

take_few : (k : ℕ) (gs : List Group) → groups_size (take k gs) ≤ groups_size gs
take_few zero gs = omega arith
take_few (suc k) [] = omega arith
take_few (suc k) (g ∷ gs) = omega (arith, take_few k gs)

module _ (k : ℕ) (image : Image) (log m : List ℕ) where
  pub first_end_lem : (first_of k image log m).pass.end ≡ groups_size (take k (groups_of image log))
  unfolding first_of
  first_end_lem = omega (arith, (counted image (take k (groups_of image log)) (start_of image m)).end)

  pub first_within : (first_of k image log m).pass.end ≤ length log
  first_within = omega (arith, first_end_lem, take_few k (groups_of image log), log_within image.ondisk.0 _ log refl)

  pub first_csn : (first_of k image log m).pass.csn.0 ≡ last_csn image.ondisk.0 (take k (groups_of image log))
  unfolding first_of
  first_csn = (counted image (take k (groups_of image log)) (start_of image m)).csn

  pub first_memory : keeps_rules image ≡ true → (first_of k image log m).memory ≡ forward lay_bytes (transactions_in image) (take k (groups_of image log)) [] m
  unfolding first_of
  first_memory ok = (started image ok (take k (groups_of image log)) m).memory
