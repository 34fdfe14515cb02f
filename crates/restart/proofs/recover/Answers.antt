use Rattle.std.proofs.Common.{ap, ◌∙◌, replicate, arith}
use Rattle.image.specs.Heads.{image_by}
use Rattle.image.proofs.Rules.{image_count}
use Rattle.image.proofs.HeadLaws.{shown_count}
use Rattle.restart.specs.Forward.{Went}
use Rattle.restart.proofs.Rules.{status_by_csn}
use Rattle.restart.proofs.First.{first_whole}
use Rattle.restart.proofs.Undos.{restart_case}
use Rattle.restart.proofs.recover.Goals as goal

pub forward-p-requires : goal.forward-p-requires
forward-p-requires c =
    let f = c.requires.heads_fit in
    let n = shown_count c.args.h c.args.s.now f.0 in
    record { heads_fit = (f.0, omega (arith, n, image_count (image_by c.args.h c.args.s.now) f.1)) }

pub undo_left-left-requires : goal.undo_left-left-requires
undo_left-left-requires c =
    let f = c.requires.heads_fit in
    record { heads_fit = (f.0, status_by_csn (image_by c.args.h c.args.s.now) f.1) }

pub returns : goal.returns
returns c =
    let a = c.args in
    let image = image_by a.h a.s.now in
    let f = c.forward-p in
    let u = c.undo_left-left in
    let w = first_whole image a.log.now a.memory.now in
    let r = restart_case image a.log.now a.memory.now (replicate 16384 0) f.result _ (f.ensures.value ∙ ap (λ (x : Went). x.pass) w)
    (f.ensures.memory_after ∙ ap (λ (x : Went). x.memory) w) u.result _ u.ensures.value u.ensures.memory_after in
    record { answer_value = r.0; memory_after = r.1.0; ids_value = r.1.1 }
