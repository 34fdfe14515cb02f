use Rattle.std.proofs.Common.{ℕ, ◌+◌, ◌-◌, ◌≡◌, List, arith, sym, ap, ◌∙◌}
use mathlib.Core.Path.{ap₂}
use lib.ListN.{replicate}
use Rattle.layout.specs.Parts.{part, pointer_of, image_at}
use Rattle.disk.specs.Layout.{log_from}
use Rattle.disk.proofs.Loading.{lent, not_named}
use Rattle.disk.proofs.Opened.{log_lent, shut_3, shut_4, handed_shut, shut_zeros, loaded}
use Rattle.disk.proofs.open.open.Goals as goal

pub returns-then-pointer-gt-NAMES_B-clause-value : goal.returns-then-pointer-gt-NAMES_B-clause-value
returns-then-pointer-gt-NAMES_B-clause-value c =
    let disk = c.args.disk.now in
    sym (handed_shut disk 3 (omega arith) (shut_3 disk c.if-pointer-gt-NAMES_B.true))

pub returns-then-pointer-gt-NAMES_B-clause-memory_after : goal.returns-then-pointer-gt-NAMES_B-clause-memory_after
returns-then-pointer-gt-NAMES_B-clause-memory_after c =
    let disk = c.args.disk.now in
    c.fill_zero.ensures ∙ ap (λ (n : ℕ). replicate n 0) c.told-memory ∙ sym (shut_zeros disk 3 (shut_3 disk c.if-pointer-gt-NAMES_B.true))

pub returns-in_default-clause-value : goal.returns-in_default-clause-value
returns-in_default-clause-value c =
    let disk = c.args.disk.now in
    let n = not_named (pointer_of disk) disk (sym c.in_default.ensures.value) in
    sym (handed_shut disk 4 (omega arith) (shut_4 disk c.if-pointer-gt-NAMES_B.false n))

pub returns-in_default-clause-memory_after : goal.returns-in_default-clause-memory_after
returns-in_default-clause-memory_after c =
    let disk = c.args.disk.now in
    let n = not_named (pointer_of disk) disk (sym c.in_default.ensures.value) in
    c.fill_zero-in_default.ensures
    ∙ ap (λ (n : ℕ). replicate n 0) c.load.array_long
    ∙ sym (shut_zeros disk 4 (shut_4 disk c.if-pointer-gt-NAMES_B.false n))

-- ---- once it is opened

pub slice_bounds-result-count-2 : goal.slice_bounds-result-count-2
slice_bounds-result-count-2 c = let l = loaded c.args.disk.now c.if-pointer-gt-NAMES_B.false _ (sym c.in-Some.ensures.value) in omega (arith, l.within)

pub slice_bounds-result-start-2 : goal.slice_bounds-result-start-2
slice_bounds-result-start-2 c = let l = loaded c.args.disk.now c.if-pointer-gt-NAMES_B.false _ (sym c.in-Some.ensures.value) in omega (arith, l.within)

pub returns-clause-value : goal.returns-clause-value
returns-clause-value c =
    let disk = c.args.disk.now in
    let h = c.in-Some.heads in
    let i = c.image_at-image.result in
    let l = loaded disk c.if-pointer-gt-NAMES_B.false h (sym c.in-Some.ensures.value) in
    let txs : part (i + 4109) (i + 8653 - (i + 4109)) disk ≡ part (image_at (pointer_of disk) + 4109) 4544 disk =
    lent i 4109 8653 disk (omega arith) ∙ ap (λ (n : ℕ). part (n + 4109) 4544 disk) c.image_at-image.ensures in
    let log : part (17307 + h.counters.logend) (33691 - (17307 + h.counters.logend)) disk ≡ log_from h.counters.logend disk =
    log_lent h.counters.logend disk l.within in
    ap₂ (λ (t g : List ℕ). record { number = 0; heads = h; txs = t; log = g }) txs log ∙ l.is

pub returns-clause-memory_after : goal.returns-clause-memory_after
returns-clause-memory_after c =
    let l = loaded c.args.disk.now c.if-pointer-gt-NAMES_B.false c.in-Some.heads (sym c.in-Some.ensures.value) in
    c.load.ensures.memory_after ∙ l.memory
