use Rattle.std.proofs.Common.{ℕ, Bool, List, take, drop, ◌≡◌, ◌-◌, ◌≤◌, Some, length, arith, refl, sym, ap, ◌∙◌}
use borrow.Author.Tests.{eqb-true, eqb-false, not-true, not-false}
use Rattle.redolog.specs.declared.scan.LogEnd.{LogEnd}
use Rattle.recovery.specs.Group.{last_csn}
use Rattle.redolog.specs.Log.{read_log, log_end_of}
use Rattle.redolog.proofs.Basics.{from}
use Rattle.redolog.proofs.LogLaws.{log_within}
use Rattle.store.specs.Rules.{all_zero, tail_length}
use Rattle.store.proofs.Admitting.{other_csn, other_rest, tail_right}
use Rattle.store.proofs.admit.measure_tail.Goals as goal

-- where the groups end
module _ (prev : ℕ) (t : List ℕ) (log : LogEnd) (e : log ≡ log_end_of prev t) where
  ended : log.end ≡ tail_length prev t
  ended = ap (λ (l : LogEnd). l.end) e ∙ omega arith

  within : log.end ≤ length t
  within = omega (arith, ended, log_within prev _ t refl)

  -- what follows them
  rest : (b : Bool) → b ≡ all_zero (take (length t - log.end) (drop log.end t)) → all_zero (drop (tail_length prev t) t) ≡ b
  rest b h = sym (h ∙ ap all_zero (from t log.end) ∙ ap (λ (k : ℕ). all_zero (drop k t)) ended)

-- the test of the commit number
csn_is : (d : ℕ) (t : List ℕ) (log : LogEnd) → log ≡ log_end_of d t → log.csn.0 ≡ last_csn d (read_log d t)
csn_is d t log e = ap (λ (l : LogEnd). l.csn.0) e

pub returns-then-ne : goal.returns-then-ne
returns-then-ne c =
    let a = c.args in
    sym
    (other_csn a.ondisk.0 a.assigned.0 a.tail.now
    (λ e. eqb-false _ _ (not-true _ (sym c.ne.ensures ∙ c.if-ne.true)) (csn_is a.ondisk.0 a.tail.now _ c.read_log-log.ensures ∙ e)))

pub slice_bounds-all_zero-count : goal.slice_bounds-all_zero-count
slice_bounds-all_zero-count c = within c.args.ondisk.0 c.args.tail.now _ c.read_log-log.ensures

pub slice_bounds-all_zero-start : goal.slice_bounds-all_zero-start
slice_bounds-all_zero-start c = within c.args.ondisk.0 c.args.tail.now _ c.read_log-log.ensures

pub returns-then-not-all_zero : goal.returns-then-not-all_zero
returns-then-not-all_zero c =
    let a = c.args in
    let r = rest a.ondisk.0 a.tail.now _ c.read_log-log.ensures _ c.all_zero.ensures in
    sym (other_rest a.ondisk.0 a.assigned.0 a.tail.now (r ∙ c.if-not-all_zero.true))

pub returns : goal.returns
returns c =
    let a = c.args in
    let log = c.read_log-log in
    let r = rest a.ondisk.0 a.tail.now _ log.ensures _ c.all_zero.ensures in
    let h = sym (csn_is a.ondisk.0 a.tail.now _ log.ensures) ∙ eqb-true _ _ (not-false _ (sym c.ne.ensures ∙ c.if-ne.false)) in
    ap (λ (n : ℕ). Some n) (ended a.ondisk.0 a.tail.now _ log.ensures)
    ∙ sym (tail_right a.ondisk.0 a.assigned.0 a.tail.now h (r ∙ c.if-not-all_zero.false))
