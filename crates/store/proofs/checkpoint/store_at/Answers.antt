use Rattle.std.proofs.Common.{ℕ, List, ap, ◌∙◌}
use lib.ListN.{set}
use Rattle.store.proofs.Checkpointing.{slot_whole}
use Rattle.store.proofs.checkpoint.store_at.Goals as goal

pub returns-clause-disk_after : goal.returns-clause-disk_after
returns-clause-disk_after c =
    let a = c.args in
    let up = c.copy_up-made in
    let w = slot_whole a.at a.name a.image.now a.disk.now a.allowed up.result up.ensures.value c.if-made-allowed.false in
    ap (λ (d : List ℕ). set d 0 a.name) up.ensures.b_after ∙ w.1
