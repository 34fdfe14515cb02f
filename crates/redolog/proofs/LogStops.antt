-- Laws of `log_stop`: it is the stop where no group stands, handed on over every group before; from any place what is left at the end found
-- decides; full exactly if nothing is; never torn where zeros are.
use Prim.Native.Nat.{ℕ, zero, suc, ◌+◌}
use native.Mathlib.Omega.{arith}
use mathlib.Core.List.{List}
use mathlib.Core.Option.{none, some}
use mathlib.Core.Path.{◌≡◌, refl, sym, ap, ◌∙◌}
use lib.ListN.{length, drop, replicate, length-drop}
use lib.Seq.{drop-drop}
use Rattle.recovery.specs.Group.{Group, group_size, groups_size, csn_after}
use Rattle.redolog.specs.Group.{read_group}
use Rattle.redolog.specs.Log.{read_log, log_stop}
use Rattle.redolog.specs.Stop.{stop_of}
use Rattle.redolog.specs.declared.stop.Stop.TheVariants.{Full, Torn}
use Rattle.redolog.proofs.Basics.{clash}
use Rattle.redolog.proofs.StopLaws.{stop_full, full_empty}
use Rattle.redolog.proofs.LogLaws.{log_none, log_more, log_within}

module _ (prev : ℕ) (s : List ℕ) where
  pub log_stop_none : read_group prev s ≡ none → log_stop prev s ≡ stop_of s
  unfolding log_stop
  log_stop_none e = ap (λ (gs : List Group). stop_of (drop (groups_size gs) s)) (log_none prev s e)

  pub log_stop_more : (g : Group) → read_group prev s ≡ some g → log_stop prev s ≡ log_stop (csn_after prev g) (drop (group_size g) s)
  unfolding log_stop
  log_stop_more g e =
      let gs = read_log (csn_after prev g) (drop (group_size g) s) in
      ap (λ (hs : List Group). stop_of (drop (groups_size hs) s)) (log_more prev s g e) ∙ ap stop_of (sym (drop-drop (groups_size gs) (group_size g) s))

  -- full exactly if the groups end with the list
  pub log_full : log_stop prev s ≡ Full → groups_size (read_log prev s) ≡ length s
  unfolding log_stop
  log_full e =
      let n = groups_size (read_log prev s) in
      omega (arith, full_empty (drop n s) e, length-drop n s, log_within prev (read_log prev s) s refl)

  pub log_ended : groups_size (read_log prev s) ≡ length s → log_stop prev s ≡ Full
  unfolding log_stop
  log_ended e = stop_full (drop (groups_size (read_log prev s)) s) (length-drop (groups_size (read_log prev s)) s ∙ omega (arith, e))

-- of a log read from a place on
pub log_stop_at : (prev at : ℕ) (s : List ℕ) → log_stop prev (drop at s) ≡ stop_of (drop (at + groups_size (read_log prev (drop at s))) s)
unfolding log_stop
log_stop_at prev at s = ap stop_of (drop-drop (groups_size (read_log prev (drop at s))) at s)

-- ---- zeros where the log ends

pub stop_zeros : (m : ℕ) → stop_of (replicate m 0) ≡ Torn → ⊥
unfolding stop_of
stop_zeros zero e = clash (cc)
stop_zeros (suc m) e = clash (cc)
