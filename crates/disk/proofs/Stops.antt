-- Why the log ended, as restart tells it: it is that of the reading from the image's place; full exactly if the end found is the log's length;
-- never torn once a restart was done.
use Prim.Native.Nat.{ℕ, ◌+◌, ◌-◌}
use native.Mathlib.Omega.{arith}
use mathlib.Core.List.{List, ◌++◌}
use mathlib.Core.Path.{◌≡◌, sym, ap, ap₂, ◌∙◌}
use lib.ListN.{length, take, drop, replicate, length-drop}
use Rattle.std.specs.Prelude.{Some}
use lib.Seq.{drop_at, length-take-le}
use Rattle.layout.specs.Parts.{log_part}
use Rattle.recovery.specs.Group.{groups_size}
use Rattle.redolog.specs.declared.stop.Stop.{Stop}
use Rattle.redolog.specs.declared.stop.Stop.TheVariants.{Full, Torn}
use Rattle.redolog.specs.Log.{read_log, log_stop}
use Rattle.redolog.specs.Stop.{stop_of}
use Rattle.redolog.specs.Stores.{apply}
use Rattle.redolog.proofs.Basics.{clash}
use Rattle.redolog.proofs.StopLaws.{stop_full, full_empty}
use Rattle.redolog.proofs.LogStops.{log_stop_at, stop_zeros}
use Rattle.store.specs.Answer.{Word, done, cut, refused}
use Rattle.store.specs.Stored.{DiskOutcome}
use Rattle.disk.specs.Layout.{log_from}
use Rattle.disk.specs.Examine.{Meaning, examine_of}
use Rattle.disk.specs.Restart.{clearing, restart_of, stop_found, told_stop, stopped_of}
use Rattle.disk.proofs.Opened.{log_length, opened_log}
use Rattle.disk.proofs.Examining.{roomy}
use Rattle.disk.proofs.Accepted.{image_in, log_in, Accepted, accepted_is}
use Rattle.disk.proofs.Restarting.{stop_found_lem, Done?, DoneWith, done_inv, done_with}
use Rattle.disk.proofs.Again.{groups_size_lem, cleared, means_again}

-- the log that step 1 hands on, read after the image's commit number
pub stop_read : (disk : List ℕ) → length disk ≡ 33691 → Accepted disk → stop_found disk ≡ log_stop (image_in disk).ondisk.0 (log_in disk)
stop_read disk d a =
    let i = (image_in disk).logend in
    let csn = (image_in disk).ondisk.0 in
    let log : log_in disk ≡ drop i (log_part disk) = opened_log disk a.opened in
    let at = log_stop_at csn i (log_part disk) in
    let size = ap (λ (s : List ℕ). i + groups_size (read_log csn s)) (sym log) ∙ groups_size_lem disk d a in
    sym (ap (log_stop csn) log ∙ at ∙ stop_found_lem disk _ size)

module _ (disk : List ℕ) (d : length disk ≡ 33691) where
  left : length (log_from (examine_of disk).result.end disk) ≡ 16384 - (examine_of disk).result.end
  left = length-drop (examine_of disk).result.end (log_part disk) ∙ ap (λ (n : ℕ). n - (examine_of disk).result.end) (log_length disk d)

  pub full_at_end : stop_found disk ≡ Full → (examine_of disk).result.end ≡ 16384
  unfolding stop_found
  full_at_end e = omega (arith, full_empty (log_from (examine_of disk).result.end disk) e, left, roomy disk)

  pub end_full : (examine_of disk).result.end ≡ 16384 → stop_found disk ≡ Full
  unfolding stop_found
  end_full e = stop_full (log_from (examine_of disk).result.end disk) (omega (arith, left, e))

-- ---- after a restart that is done

told_torn : (w : Word) (stop : Stop) → told_stop w stop ≡ Some Torn → stop ≡ Torn
told_torn done stop e = cc
told_torn cut stop e = clash (cc)
told_torn (refused n) stop e = clash (cc)

-- what it left from the end on is zeros
left_zeros : (disk memory tail : List ℕ) (n : ℕ) → DoneWith disk memory tail n
    → stop_found (restart_of disk memory tail n).disk ≡ stop_of (replicate (16384 - (examine_of disk).result.end) 0)
left_zeros disk memory tail n w =
    let end = (examine_of disk).result.end in
    let d = w.disk_length in
    let cleared-disk = apply (take n (clearing end)) disk in
    let is : (restart_of disk memory tail n).disk ≡ cleared-disk = ap (λ (o : DiskOutcome). o.disk) (done_with disk memory tail n w) in
    let same = ap (λ (m : Meaning). m.result.end) (means_again disk d (accepted_is disk w.number) n) in
    let front-size : end + (16384 - end - n) ≡ end = omega (arith, w.enough) in
    let zeros : 16384 - end - (16384 - end - n) ≡ 16384 - end = omega (arith, w.enough) in
    let room = roomy disk in
    let front : length (take end (log_part disk)) ≡ end = length-take-le end (log_part disk) (omega (arith, log_length disk d)) in
    let log : log_part cleared-disk ≡ take end (log_part disk) ++ replicate (16384 - end) 0 =
    cleared n end disk d (omega arith) ∙ ap₂ (λ (a b : ℕ). take a (log_part disk) ++ replicate b 0) front-size zeros in
    ap stop_found is ∙ sym (stop_found_lem cleared-disk end (sym same)) ∙ ap (λ (s : List ℕ). stop_of (drop end s)) log
    ∙ ap stop_of (drop_at (take end (log_part disk)) (replicate (16384 - end) 0) end front)

-- a restart again, with whatever memory, tail and stores, tells full or zero
pub again_not_torn : (disk memory tail memory' tail' : List ℕ) (n k : ℕ) → Done? (restart_of disk memory tail n)
    → stopped_of (restart_of disk memory tail n).disk memory' tail' k ≡ Some Torn → ⊥
unfolding stopped_of
again_not_torn disk memory tail memory' tail' n k w e =
    let again = (restart_of disk memory tail n).disk in
    stop_zeros (16384 - (examine_of disk).result.end)
    (sym (left_zeros disk memory tail n (done_inv disk memory tail n w)) ∙ told_torn (restart_of again memory' tail' k).result.says (stop_found again) e)
