use Rattle.std.proofs.Common.{ap, arith}
use Rattle.store.specs.Answer.{Told}
use Rattle.disk.specs.Restart.{undone_by}
use Rattle.luppaneth.proofs.Replies.{few_undone}
use Rattle.luppaneth.proofs.disks.luppaneth_restart.Goals as goal

pub overflow_cast-recovery : goal.overflow_cast-recovery
overflow_cast-recovery c =
    let a = c.args in
    omega (arith, few_undone a.disk.now a.memory.now a.tail.now a.allowed, ap (λ (t : Told). t.value) c.restart-r.ensures.result_value, ap undone_by c.in-Ok.is)
