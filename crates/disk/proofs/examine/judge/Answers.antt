use Rattle.std.proofs.Common.{ℕ, ◌+◌, ◌*◌, ◌≤◌, ◌≡◌, List, true, arith, sym, ap, ◌∙◌}
use mathlib.Core.Path.{ap₂}
use lib.ListN.{replicate}
use Rattle.std.proofs.lemmas.Result.{err_from_is_err_and}
use Rattle.redolog.specs.declared.TxId.{TxId}
use Rattle.image.specs.declared.Image.{Image}
use Rattle.image.specs.Rules.{keeps_rules}
use Rattle.image.specs.Heads.{image_by}
use Rattle.restart.specs.declared.Recovered.{Recovered}
use Rattle.restart.specs.declared.Replayed.{Replayed}
use Rattle.restart.specs.Restart.{AfterSteps, recover_of}
use Rattle.restart.specs.Turns.{aborts_laid, undone_ids}
use Rattle.restart.proofs.Recovery.{laid_tail}
use Rattle.disk.specs.declared.open.Opened.{Opened}
use Rattle.disk.specs.Open.{open_of}
use Rattle.disk.specs.Examine.{Meaning, steps_of, examined}
use Rattle.disk.proofs.Opened.{opened_rules, HandedOk, handed_ok}
use Rattle.disk.proofs.Examining.{judged_by, shut_judged, shut_left, refused_memory, end_within, undone_within, means_5, means}
use Rattle.disk.proofs.examine.judge.Goals as goal

pub returns-in_err-opened-clause-judged_as : goal.returns-in_err-opened-clause-judged_as
returns-in_err-opened-clause-judged_as c =
    let p = err_from_is_err_and c.from_residual.result c.from_residual.ensures.1 in
    rw (p.1, p.2) (shut_judged c.args.disk.now _ c.in_err-opened.ensures.value)

pub returns-in_err-opened-clause-memory_after : goal.returns-in_err-opened-clause-memory_after
returns-in_err-opened-clause-memory_after c = c.open.ensures.memory_after ∙ shut_left c.args.disk.now _ c.in_err-opened.ensures.value

-- ---- once it is opened

module _ (o : Opened) (disk : List ℕ) (h : HandedOk o disk) where
  abbrev image : Image
  image = image_by o.heads o.txs.now

  rules : keeps_rules image ≡ true
  rules = ap keeps_rules h.image ∙ opened_rules disk h.opened

  -- steps 2 to 5
  module _ (m : List ℕ) (w : m ≡ (open_of disk).memory) (a : Replayed) (f : a.answer ≡ (recover_of image o.log.now m (replicate 16384 0)).answer) where
    steps : recover_of image o.log.now m (replicate 16384 0) ≡ steps_of (open_of disk)
    unfolding steps_of
    steps =
        ap (λ (i : Image). recover_of i o.log.now m (replicate 16384 0)) h.image
        ∙ ap₂ (λ (l k : List ℕ). recover_of (open_of disk).image l k (replicate 16384 0)) h.log w

    found : a.answer ≡ (steps_of (open_of disk)).answer
    found = f ∙ ap (λ (x : AfterSteps). x.answer) steps

    laid : a.ids ≡ undone_ids image o.log.now m → aborts_laid a.ids a.answer.undone (replicate 16384 0) ≡ (steps_of (open_of disk)).tail
    laid i =
        ap₂ (λ (ids : List TxId) (x : Recovered). aborts_laid ids x.undone (replicate 16384 0)) i f
        ∙ laid_tail image rules o.log.now m (replicate 16384 0)
        ∙ ap (λ (x : AfterSteps). x.tail) steps

    ends : o.heads.counters.logend + a.answer.end ≤ 16384
    ends = omega (arith, h.logend, end_within disk h.opened, ap (λ (x : Recovered). x.end) found)

    few : a.answer.undone ≤ 8
    few = omega (arith, undone_within disk h.opened, ap (λ (x : Recovered). x.undone) found)

    -- number 5, as the code sees it
    total : o.heads.counters.logend + a.answer.end + 4 * a.answer.undone
        ≡ (open_of disk).image.logend + (steps_of (open_of disk)).answer.end + 4 * (steps_of (open_of disk)).answer.undone
    total = ap₂ (λ (i : ℕ) (x : Recovered). i + x.end + 4 * x.undone) h.logend found

pub recover-replayed-requires : goal.recover-replayed-requires
recover-replayed-requires c =
    let o = c.in_ok-opened.opened in
    let h = handed_ok c.args.disk.now o c.in_ok-opened.ensures.value in
    record { heads_fit = (h.shows, rules o _ h) }

pub overflow_add-end : goal.overflow_add-end
overflow_add-end c =
    let o = c.in_ok-opened.opened in
    let h = handed_ok c.args.disk.now o c.in_ok-opened.ensures.value in
    omega (arith, ends o _ h _ c.open.ensures.memory_after c.recover-replayed.result c.recover-replayed.ensures.answer_value)

pub overflow_mul-replayed : goal.overflow_mul-replayed
overflow_mul-replayed c =
    let o = c.in_ok-opened.opened in
    let h = handed_ok c.args.disk.now o c.in_ok-opened.ensures.value in
    omega (arith, few o _ h _ c.open.ensures.memory_after c.recover-replayed.result c.recover-replayed.ensures.answer_value)

pub overflow_add-end-2 : goal.overflow_add-end-2
overflow_add-end-2 c =
    let o = c.in_ok-opened.opened in
    let h = handed_ok c.args.disk.now o c.in_ok-opened.ensures.value in
    omega (
      arith,
      ends o _ h _ c.open.ensures.memory_after c.recover-replayed.result c.recover-replayed.ensures.answer_value,
      few o _ h _ c.open.ensures.memory_after c.recover-replayed.result c.recover-replayed.ensures.answer_value,
    )

pub returns-then-end-replayed-gt-LOG_LEN-clause-judged_as : goal.returns-then-end-replayed-gt-LOG_LEN-clause-judged_as
returns-then-end-replayed-gt-LOG_LEN-clause-judged_as c =
    let disk = c.args.disk.now in
    let o = c.in_ok-opened.opened in
    let h = handed_ok disk o c.in_ok-opened.ensures.value in
    let t = total o _ h _ c.open.ensures.memory_after c.recover-replayed.result c.recover-replayed.ensures.answer_value in
    rw (means_5 disk h.opened (omega (arith, c.if-end-replayed-gt-LOG_LEN.true, t))) (judged_by _)

pub returns-then-end-replayed-gt-LOG_LEN-clause-memory_after : goal.returns-then-end-replayed-gt-LOG_LEN-clause-memory_after
returns-then-end-replayed-gt-LOG_LEN-clause-memory_after c =
    let disk = c.args.disk.now in
    let o = c.in_ok-opened.opened in
    let h = handed_ok disk o c.in_ok-opened.ensures.value in
    let t = total o _ h _ c.open.ensures.memory_after c.recover-replayed.result c.recover-replayed.ensures.answer_value in
    let five = means_5 disk h.opened (omega (arith, c.if-end-replayed-gt-LOG_LEN.true, t)) in
    c.fill_zero.ensures
    ∙ ap (λ (n : ℕ). replicate n 0) c.recover-replayed.array_long
    ∙ sym (ap (λ (m : Meaning). m.memory) five ∙ refused_memory 5)

pub returns-clause-judged_as : goal.returns-clause-judged_as
returns-clause-judged_as c =
    let disk = c.args.disk.now in
    let o = c.in_ok-opened.opened in
    let a = c.recover-replayed in
    let h = handed_ok disk o c.in_ok-opened.ensures.value in
    let t = total o _ h _ c.open.ensures.memory_after a.result a.ensures.answer_value in
    let f = found o _ h _ c.open.ensures.memory_after a.result a.ensures.answer_value in
    rw (means disk h.opened (omega (arith, c.if-end-replayed-gt-LOG_LEN.false, t)))
    (record {
      found = ap₂ (λ (i : ℕ) (x : Recovered). examined (i + x.end) x) h.logend f;
      tail = laid o _ h _ c.open.ensures.memory_after a.result a.ensures.answer_value a.ensures.ids_value;
    })

pub returns-clause-memory_after : goal.returns-clause-memory_after
returns-clause-memory_after c =
    let disk = c.args.disk.now in
    let o = c.in_ok-opened.opened in
    let a = c.recover-replayed in
    let h = handed_ok disk o c.in_ok-opened.ensures.value in
    let t = total o _ h _ c.open.ensures.memory_after a.result a.ensures.answer_value in
    a.ensures.memory_after
    ∙ ap (λ (x : AfterSteps). x.memory) (steps o _ h _ c.open.ensures.memory_after a.result a.ensures.answer_value)
    ∙ sym (ap (λ (m : Meaning). m.memory) (means disk h.opened (omega (arith, c.if-end-replayed-gt-LOG_LEN.false, t))))
