use Rattle.std.proofs.Common.{ℕ, List, sym, ap, ◌∙◌}
use mathlib.Core.Path.{ap₂}
use Rattle.disk.specs.Equal.{same_bytes}
use Rattle.disk.specs.Examine.{examine_of}
use Rattle.disk.proofs.Examining.{judged_err, judged_ok}
use Rattle.disk.proofs.Equals.{short, refused, taken, not_first, not_second, both}
use Rattle.disk.proofs.equal.equal.Goals as goal

pub returns-in_default : goal.returns-in_default
returns-in_default c = sym (not_first _ c.args.b.now (short c.args.a.now c.in_default.ensures.cases))

pub returns-in_default-as_array : goal.returns-in_default-as_array
returns-in_default-as_array c = sym (not_second c.args.a.now _ (short c.args.b.now c.in_default-as_array.ensures.cases))

-- ---- of disks that have their length

abbrev number_in : List ℕ → ℕ
number_in disk = (examine_of disk).result.number

abbrev memory_in : List ℕ → List ℕ
memory_in disk = (examine_of disk).memory

pub returns-then-is_err : goal.returns-then-is_err
returns-then-is_err c =
    let d = c.in-Some.ensures.cases in
    let n = judged_err _ _ c.judge.ensures.judged_as (sym c.if-is_err.ensures.value) in
    sym (not_first c.args.a.now c.args.b.now (refused c.args.a.now d.long (λ z. n (ap number_in d.same ∙ z))))

pub returns-then-is_err-2 : goal.returns-then-is_err-2
returns-then-is_err-2 c =
    let d = c.in-Some-as_array.ensures.cases in
    let n = judged_err _ _ c.judge-2.ensures.judged_as (sym c.if-is_err-2.ensures.value) in
    sym (not_second c.args.a.now c.args.b.now (refused c.args.b.now d.long (λ z. n (ap number_in d.same ∙ z))))

pub returns : goal.returns
returns c =
    let a = c.args.a.now in
    let b = c.args.b.now in
    let d = c.in-Some.ensures.cases in
    let f = c.in-Some-as_array.ensures.cases in
    let p = judged_ok _ _ c.judge.ensures.judged_as (sym c.if-is_err.ensures.value) in
    let q = judged_ok _ _ c.judge-2.ensures.judged_as (sym c.if-is_err-2.ensures.value) in
    c.same.ensures
    ∙ ap₂ same_bytes (c.judge.ensures.memory_after ∙ ap memory_in d.same) (c.judge-2.ensures.memory_after ∙ ap memory_in f.same)
    ∙ sym (both a b (taken a d.long (sym (ap number_in d.same) ∙ p)) (taken b f.long (sym (ap number_in f.same) ∙ q)))
