use Rattle.std.proofs.Common.{ℕ, ◌-◌, ◌≤◌, ◌≡◌, List, length, take, min, refl, arith, sym, ap, ◌∙◌, Some}
use mathlib.Core.Path.{ap₂}
use lib.ListN.{replicate}
use borrow.Rule.Slice.PartMut.{put_mid}
use borrow.Author.Tests.{eqb-false}
use Rattle.layout.specs.Refusal.{number_of}
use Rattle.layout.specs.Parts.{log_part}
use Rattle.redolog.specs.Stores.{apply, clears}
use Rattle.restart.specs.declared.Recovered.{Recovered}
use Rattle.store.specs.declared.State.{State}
use Rattle.store.specs.Answer.{done, cut, Told, tells}
use Rattle.store.proofs.Checks.{refused_some}
use Rattle.disk.specs.Examine.{Examined, examined, examine_of}
use Rattle.disk.specs.Restart.{recovered_state, refused_restart, clearing}
use Rattle.disk.proofs.Examining.{roomy}
use Rattle.disk.proofs.Restarting.{clearing_length, log_cleared, log_count, parts, restart_refused, restart_cut, restart_done, stop_found_lem}
use Rattle.disk.proofs.call.restart_lent.Goals as goal

pub returns-in-Err : goal.returns-in-Err
returns-in-Err c =
    let a = c.args in
    let x = c.in-Err.ensures in
    let f = c.refused.ensures in
    let n = ap (λ (r : Examined). r.number) x.value in
    let r = c.in-Err.refusal in
    parts a.disk.now a.memory.now a.tail.now a.allowed
    (restart_refused a.disk.now a.memory.now a.tail.now a.allowed c.told-disk c.told-memory c.told-tail
    (λ z. eqb-false (number_of r) 0 (refused_some r) (n ∙ z)))
    (f.result_value ∙ ap refused_restart n) refl x.memory_after x.tail_after f.stop_value

-- ---- once no number refuses: the end lies within the log, and stores are made

module _ (r : Recovered) (disk : List ℕ) (e : examined r.end r ≡ (examine_of disk).result) where
  ends : r.end ≡ (examine_of disk).result.end
  ends = ap (λ (x : Examined). x.end) e

  within : r.end ≤ 16384
  within = omega (arith, roomy disk, ends)

  taken : (examine_of disk).result.number ≡ 0
  taken = sym (ap (λ (x : Examined). x.number) e)

  module _ (allowed : ℕ) (d : length disk ≡ 33691) where
    -- the stores made
    made : (k : ℕ) → k ≡ min allowed (length (clears r.end (length (log_part disk) - r.end))) → k ≡ min allowed (length (clearing (examine_of disk).result.end))
    made k h = h ∙ ap (min allowed) (log_count r.end disk d ∙ ap (λ (i : ℕ). length (clearing i)) ends)

    -- what they leave on the disk
    emptied : (log : List ℕ) → log ≡ apply (take allowed (clears r.end (length (log_part disk) - r.end))) (log_part disk)
        → put_mid 17307 16384 disk log ≡ apply (take allowed (clearing (examine_of disk).result.end)) disk
    emptied log h = log_cleared allowed r.end disk log d within h ∙ ap (λ (i : ℕ). apply (take allowed (clearing i)) disk) ends

pub overflow_sub-end : goal.overflow_sub-end
overflow_sub-end c = within c.in-Ok.found _ c.in-Ok.ensures.value

pub returns-then-made-end : goal.returns-then-made-end
returns-then-made-end c =
    let a = c.args in
    let r = c.in-Ok.found in
    let e = c.in-Ok.ensures.value in
    let k = c.clear_log-cleared.ensures in
    let off = c.cut_off-off.ensures in
    let l = clearing_length (examine_of a.disk.now).result.end in
    let m = made r a.disk.now e a.allowed c.told-disk _ k.made_value in
    parts a.disk.now a.memory.now a.tail.now a.allowed
    (restart_cut a.disk.now a.memory.now a.tail.now a.allowed c.told-disk c.told-memory c.told-tail (taken r a.disk.now e)
    (omega (arith, m, l, ends r a.disk.now e, c.if-made-end.true)))
    (ap₂ (λ (n : ℕ) (s : State). tells cut 0 n s) m (ap (λ (t : Told). t.state) off.result_value))
    (emptied r a.disk.now e a.allowed c.told-disk _ k.log_after)
    (off.memory_after ∙ ap (λ (n : ℕ). replicate n 0) c.examine.array_long)
    (off.tail_after ∙ ap (λ (n : ℕ). replicate n 0) c.examine.array_long2)
    refl

pub overflow_cast-end : goal.overflow_cast-end
overflow_cast-end c = omega (arith, within c.in-Ok.found _ c.in-Ok.ensures.value)

pub returns : goal.returns
returns c =
    let a = c.args in
    let r = c.in-Ok.found in
    let x = c.in-Ok.ensures in
    let k = c.clear_log-cleared.ensures in
    let l = clearing_length (examine_of a.disk.now).result.end in
    let m = made r a.disk.now x.value a.allowed c.told-disk _ k.made_value in
    parts a.disk.now a.memory.now a.tail.now a.allowed
    (restart_done a.disk.now a.memory.now a.tail.now a.allowed c.told-disk c.told-memory c.told-tail (taken r a.disk.now x.value)
    (omega (arith, m, l, ends r a.disk.now x.value, c.if-made-end.false)))
    (ap₂ (λ (n : ℕ) (s : State). tells done r.undone n s) m c.recovered.ensures
    ∙ ap (λ (y : Examined). tells done y.undone (min a.allowed (length (clearing (examine_of a.disk.now).result.end))) (recovered_state y.end y.csn y.last))
    x.value)
    (emptied r a.disk.now x.value a.allowed c.told-disk _ k.log_after) x.memory_after x.tail_after
    (ap Some (k.stop_value ∙ stop_found_lem a.disk.now r.end (ends r a.disk.now x.value)))
