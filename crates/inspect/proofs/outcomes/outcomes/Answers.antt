use Prim.Native.Nat.{ℕ}
use mathlib.Core.Bool.{true, false}
use mathlib.Core.List.{List}
use mathlib.Core.Path.{◌≡◌, sym, ap, ap₂, ◌∙◌}
use lib.ListN.{length, replicate}
use Rattle.layout.specs.Parts.{log_part}
use Rattle.redolog.specs.Log.{read_log_with}
use Rattle.redolog.proofs.LogLaws.{log_next}
use Rattle.store.specs.Answer.{done}
use Rattle.inspect.specs.Outcomes.{rising, OutcomesLeft, groups_on, outcomes_of}
use Rattle.inspect.specs.Walk.{walked_over}
use Rattle.inspect.proofs.Walking.{walked_zeros, outcomes_no_disk, outcomes_unequal, outcomes_unsorted, outcomes_done}
use Rattle.inspect.proofs.outcomes.outcomes.Goals as goal

-- nothing refuses: the walk over the log, from zeros
module _ (disk ids out : List ℕ) (d : length disk ≡ 33691) (l : length ids ≡ length out) (r : rising ids ≡ true) where
  walked : read_log_with 1 (log_part disk) ≡ groups_on disk
  walked = sym (log_next 0 (log_part disk))

  is_told : (n : ℕ) → n ≡ length (read_log_with 1 (log_part disk)) → record { says = done; groups = n } ≡ (outcomes_of disk ids out).result
  is_told n e =
      ap (λ (k : ℕ). record { says = done; groups = k }) (e ∙ ap length walked) ∙ sym (ap (λ (x : OutcomesLeft). x.result) (outcomes_done disk ids out d l r))

  is_left : (zeros o : List ℕ) → zeros ≡ replicate (length out) 0 → o ≡ walked_over ids (read_log_with 1 (log_part disk)) zeros
      → o ≡ (outcomes_of disk ids out).outcomes
  is_left zeros o z e =
      e
      ∙ ap₂ (walked_over ids) walked z
      ∙ walked_zeros ids (groups_on disk) (length out) l
      ∙ sym (ap (λ (x : OutcomesLeft). x.outcomes) (outcomes_done disk ids out d l r))

pub returns-then-disk-ne-DISK_LEN-clause-result_value : goal.returns-then-disk-ne-DISK_LEN-clause-result_value
returns-then-disk-ne-DISK_LEN-clause-result_value c =
    let a = c.args in
    rw (outcomes_no_disk a.disk.now a.ids.now a.out.now c.if-disk-ne-DISK_LEN.true)

pub returns-then-disk-ne-DISK_LEN-clause-out_after : goal.returns-then-disk-ne-DISK_LEN-clause-out_after
returns-then-disk-ne-DISK_LEN-clause-out_after c = let a = c.args in rw (outcomes_no_disk a.disk.now a.ids.now a.out.now c.if-disk-ne-DISK_LEN.true)

pub returns-then-ids-out-clause-result_value : goal.returns-then-ids-out-clause-result_value
returns-then-ids-out-clause-result_value c =
    let a = c.args in
    rw (outcomes_unequal a.disk.now a.ids.now a.out.now c.if-disk-ne-DISK_LEN.false c.if-ids-out.true)

pub returns-then-ids-out-clause-out_after : goal.returns-then-ids-out-clause-out_after
returns-then-ids-out-clause-out_after c =
    let a = c.args in
    rw (outcomes_unequal a.disk.now a.ids.now a.out.now c.if-disk-ne-DISK_LEN.false c.if-ids-out.true)

pub returns-then-not-is_rising-clause-result_value : goal.returns-then-not-is_rising-clause-result_value
returns-then-not-is_rising-clause-result_value c =
    let a = c.args in
    let r : rising a.ids.now ≡ false = sym c.is_rising.ensures ∙ c.if-not-is_rising.true in
    rw (outcomes_unsorted a.disk.now a.ids.now a.out.now c.if-disk-ne-DISK_LEN.false r)

pub returns-then-not-is_rising-clause-out_after : goal.returns-then-not-is_rising-clause-out_after
returns-then-not-is_rising-clause-out_after c =
    let a = c.args in
    let r : rising a.ids.now ≡ false = sym c.is_rising.ensures ∙ c.if-not-is_rising.true in
    rw (outcomes_unsorted a.disk.now a.ids.now a.out.now c.if-disk-ne-DISK_LEN.false r)

pub returns-clause-result_value : goal.returns-clause-result_value
returns-clause-result_value c =
    let a = c.args in
    let r : rising a.ids.now ≡ true = sym c.is_rising.ensures ∙ c.if-not-is_rising.false in
    is_told a.disk.now a.ids.now a.out.now c.if-disk-ne-DISK_LEN.false c.if-ids-out.false r c.walk_log-groups.result c.walk_log-groups.ensures.value

pub returns-clause-out_after : goal.returns-clause-out_after
returns-clause-out_after c =
    let a = c.args in
    let r : rising a.ids.now ≡ true = sym c.is_rising.ensures ∙ c.if-not-is_rising.false in
    is_left a.disk.now a.ids.now a.out.now c.if-disk-ne-DISK_LEN.false c.if-ids-out.false r _ _ c.fill_zero.ensures c.walk_log-groups.ensures.out_after
