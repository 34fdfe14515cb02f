use Rattle.std.proofs.Common.{ℕ, ◌+◌, ◌-◌, ◌≡◌, Some, arith, sym, ap, ◌∙◌, take, drop}
use mathlib.Core.Path.{ap₂}
use lib.ListN.{replicate}
use Rattle.layout.specs.Parts.{image_at}
use Rattle.image.specs.Heads.{heads_of}
use Rattle.image.specs.Reading.{memory_of}
use Rattle.disk.specs.Open.{Loaded}
use Rattle.disk.proofs.Loading.{load_none, load_image, memory_loaded, heads_none, heads_image}
use Rattle.disk.proofs.open.load.Goals as goal

pub returns-then-pointer-eq0-clause-value : goal.returns-then-pointer-eq0-clause-value
returns-then-pointer-eq0-clause-value c = ap Some c.blank.ensures ∙ sym (heads_none c.args.pointer c.args.disk.now (omega arith))

pub returns-then-pointer-eq0-clause-memory_after : goal.returns-then-pointer-eq0-clause-memory_after
returns-then-pointer-eq0-clause-memory_after c =
    c.fill_zero.ensures
    ∙ ap (λ (n : ℕ). replicate n 0) c.told-memory
    ∙ sym (ap (λ (l : Loaded). l.memory) (load_none c.args.pointer c.args.disk.now (omega arith)))

pub returns-clause-value : goal.returns-clause-value
returns-clause-value c =
    let f = c.image_at-from.result in
    let s : f ≡ image_at c.args.pointer = c.image_at-from.ensures in
    let z : f + 8653 - f ≡ 8653 = omega arith in
    c.read_heads.ensures
    ∙ ap heads_of (ap₂ (λ (n k : ℕ). take n (drop k c.args.disk.now)) z s)
    ∙ sym (heads_image c.args.pointer c.args.disk.now (λ e. omega arith))

pub returns-clause-memory_after : goal.returns-clause-memory_after
returns-clause-memory_after c =
    let f = c.image_at-from.result in
    let s : f ≡ image_at c.args.pointer = c.image_at-from.ensures in
    let e = load_image c.args.pointer c.args.disk.now (λ z. omega arith) in
    c.copy_from_slice.ensures.after
    ∙ memory_loaded f c.args.disk.now
    ∙ ap (λ (k : ℕ). memory_of (take 8653 (drop k c.args.disk.now))) s
    ∙ sym (ap (λ (l : Loaded). l.memory) e)
