use Rattle.std.proofs.Common.{ℕ, ◌+◌, ◌≤◌, ◌≡◌, List, length, arith, sym, ap, ◌∙◌}
use mathlib.Core.Path.{ap₂}
use borrow.Author.Tests.{eqb-false}
use Rattle.std.proofs.lemmas.Result.{err_from_is_err_and}
use Rattle.layout.specs.declared.refusal.Refusal.{Refusal}
use Rattle.layout.specs.Refusal.{number_of}
use Rattle.image.specs.declared.Image.{Image}
use Rattle.image.specs.Heads.{image_by}
use Rattle.image.proofs.Rules.{image_logend, image_count}
use Rattle.image.proofs.HeadLaws.{shown_count}
use Rattle.restart.specs.declared.forward.Pass.{Pass}
use Rattle.restart.specs.Forward.{Went, first_of}
use Rattle.store.specs.Answer.{done}
use Rattle.store.proofs.Checks.{refused_some}
use Rattle.disk.specs.declared.open.Opened.{Opened}
use Rattle.disk.specs.Open.{open_of}
use Rattle.disk.proofs.Opened.{log_short, opened_rules, opened_log, handed_not, HandedOk, handed_ok}
use Rattle.inspect.specs.Groups.{GroupsTold, GroupsLeft, refused_groups, pass_of, first_groups_of}
use Rattle.inspect.proofs.Applying.{groups_no_disk, groups_no_memory, groups_shut, groups_open, pass_within}
use Rattle.inspect.proofs.groups.first_groups.Goals as goal

abbrev told_in : GroupsLeft → GroupsTold
told_in x = x.result

abbrev left_in : GroupsLeft → List ℕ
left_in x = x.memory

pub returns-in_default : goal.returns-in_default
returns-in_default c =
    let a = c.args in
    let e = groups_no_disk a.disk.now a.memory.now a.groups c.in_default.ensures.cases in
    record { result_value = sym (ap told_in e); memory_after = sym (ap left_in e) }

pub returns-in_default-as_mut_array : goal.returns-in_default-as_mut_array
returns-in_default-as_mut_array c =
    let a = c.args in
    let e = groups_no_memory a.disk.now a.memory.now a.groups c.in_default-as_mut_array.ensures.cases in
    record { result_value = sym (ap told_in e); memory_after = sym (ap left_in e) }

-- ---- of buffers that have their lengths; the array is the disk

module _ (disk array memory : List ℕ) (k : ℕ) (d : length disk ≡ 33691) (same : array ≡ disk) (m : length memory ≡ 4096) where
  at_disk : {x : GroupsLeft} → first_groups_of array memory k ≡ x → x ≡ first_groups_of disk memory k
  at_disk e = sym e ∙ ap (λ (y : List ℕ). first_groups_of y memory k) same

  -- refused by 3 or 4
  shut : (r : Refusal) → (open_of array).number ≡ number_of r
      → record { result = refused_groups (open_of array).number; memory = (open_of array).memory } ≡ first_groups_of disk memory k
  shut r n = at_disk (groups_shut array memory k (ap length same ∙ d) m (λ z. eqb-false (number_of r) 0 (refused_some r) (sym n ∙ z)))

  module _ (o : Opened) (h : HandedOk o array) where
    few : o.heads.counters.count ≤ 8
    few =
        omega (
          arith,
          shown_count o.heads o.txs.now h.shows,
          ap (λ (i : Image). i.count) h.image,
          image_count (open_of array).image (opened_rules array h.opened),
        )

    -- steps 2 and 3
    module _ (l : List ℕ) (w : l ≡ (open_of array).memory) where
      went : first_of k (image_by o.heads o.txs.now) o.log.now l ≡ pass_of k (open_of array)
      went =
          ap (λ (i : Image). first_of k i o.log.now l) h.image
          ∙ ap₂ (λ (g n : List ℕ). first_of k (open_of array).image g n) h.log w

      end_fits : (p : Pass) → p ≡ (first_of k (image_by o.heads o.txs.now) o.log.now l).pass → o.heads.counters.logend + p.end ≤ 65535
      end_fits p q =
          omega (
            arith,
            h.logend,
            image_logend (open_of array).image (opened_rules array h.opened),
            pass_within k _ o.log.now l q,
            ap length (h.log ∙ opened_log array h.opened),
            log_short (open_of array).image.logend array,
          )

      is_told : (p : Pass) → p ≡ (first_of k (image_by o.heads o.txs.now) o.log.now l).pass
          → record { says = done; end = o.heads.counters.logend + p.end; csn = p.csn.0 } ≡ (first_groups_of disk memory k).result
      is_told p q =
          ap₂ (λ (n : ℕ) (r : Pass). record { says = done; end = n + r.end; csn = r.csn.0 }) h.logend (q ∙ ap (λ (x : Went). x.pass) went)
          ∙ ap told_in (at_disk (groups_open array memory k (ap length same ∙ d) m h.opened))

      is_left : (n : List ℕ) → n ≡ (first_of k (image_by o.heads o.txs.now) o.log.now l).memory → n ≡ (first_groups_of disk memory k).memory
      is_left n q = q ∙ ap (λ (x : Went). x.memory) went ∙ ap left_in (at_disk (groups_open array memory k (ap length same ∙ d) m h.opened))

pub returns-in_err-opened-clause-result_value : goal.returns-in_err-opened-clause-result_value
returns-in_err-opened-clause-result_value c =
    let a = c.args in
    let d = c.in-Some.ensures.cases in
    let m = c.in-Some-as_mut_array.ensures.cases in
    let p = err_from_is_err_and c.from_residual.result c.from_residual.ensures.1 in
    let n = handed_not c.in-Some.disk.now _ c.in_err-opened.ensures.value in
    rw (p.1, p.2) (ap refused_groups (sym n) ∙ ap told_in (shut a.disk.now c.in-Some.disk.now a.memory.now a.groups d.long d.same m.long _ n))

pub returns-in_err-opened-clause-memory_after : goal.returns-in_err-opened-clause-memory_after
returns-in_err-opened-clause-memory_after c =
    let a = c.args in
    let d = c.in-Some.ensures.cases in
    let m = c.in-Some-as_mut_array.ensures.cases in
    let n = handed_not c.in-Some.disk.now _ c.in_err-opened.ensures.value in
    c.open.ensures.memory_after ∙ ap left_in (shut a.disk.now c.in-Some.disk.now a.memory.now a.groups d.long d.same m.long _ n)

pub forward-p-requires : goal.forward-p-requires
forward-p-requires c =
    let a = c.args in
    let d = c.in-Some.ensures.cases in
    let m = c.in-Some-as_mut_array.ensures.cases in
    let h = handed_ok c.in-Some.disk.now c.in_ok-opened.opened c.in_ok-opened.ensures.value in
    record { heads_fit = (h.shows, few a.disk.now c.in-Some.disk.now a.memory.now a.groups d.long d.same m.long c.in_ok-opened.opened h) }

pub overflow_add-result : goal.overflow_add-result
overflow_add-result c =
    let a = c.args in
    let d = c.in-Some.ensures.cases in
    let m = c.in-Some-as_mut_array.ensures.cases in
    let o = c.in_ok-opened.opened in
    let h = handed_ok c.in-Some.disk.now o c.in_ok-opened.ensures.value in
    let e = end_fits a.disk.now c.in-Some.disk.now a.memory.now a.groups d.long d.same m.long o h c.open.new.memory c.open.ensures.memory_after
    c.forward-p.result c.forward-p.ensures.value in
    omega (arith, e)

pub returns-clause-result_value : goal.returns-clause-result_value
returns-clause-result_value c =
    let a = c.args in
    let d = c.in-Some.ensures.cases in
    let m = c.in-Some-as_mut_array.ensures.cases in
    let o = c.in_ok-opened.opened in
    let h = handed_ok c.in-Some.disk.now o c.in_ok-opened.ensures.value in
    is_told a.disk.now c.in-Some.disk.now a.memory.now a.groups d.long d.same m.long o h c.open.new.memory c.open.ensures.memory_after
    c.forward-p.result c.forward-p.ensures.value

pub returns-clause-memory_after : goal.returns-clause-memory_after
returns-clause-memory_after c =
    let a = c.args in
    let d = c.in-Some.ensures.cases in
    let m = c.in-Some-as_mut_array.ensures.cases in
    let o = c.in_ok-opened.opened in
    let h = handed_ok c.in-Some.disk.now o c.in_ok-opened.ensures.value in
    is_left a.disk.now c.in-Some.disk.now a.memory.now a.groups d.long d.same m.long o h c.open.new.memory c.open.ensures.memory_after _
    c.forward-p.ensures.memory_after
