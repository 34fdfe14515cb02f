use Rattle.std.proofs.Common.{refl}
use Rattle.disk.proofs.Restarting.{parts, restart_1, not_disk, not_memory, not_tail}
use Rattle.disk.proofs.call.restart.Goals as goal

pub returns-in_default : goal.returns-in_default
returns-in_default c =
    let a = c.args in
    let f = c.refused.ensures in
    parts a.disk.now a.memory.now a.tail.now a.allowed
    (restart_1 a.disk.now a.memory.now a.tail.now a.allowed (not_disk a.disk.now a.memory.now a.tail.now c.in_default.ensures.cases))
    f.result_value refl refl refl f.stop_value

pub returns-in_default-as_mut_array : goal.returns-in_default-as_mut_array
returns-in_default-as_mut_array c =
    let a = c.args in
    let f = c.refused-in_default-as_mut_array.ensures in
    parts a.disk.now a.memory.now a.tail.now a.allowed
    (restart_1 a.disk.now a.memory.now a.tail.now a.allowed (not_memory a.disk.now a.memory.now a.tail.now c.in_default-as_mut_array.ensures.cases))
    f.result_value c.in-Some.ensures.cases.same refl refl f.stop_value

pub returns-in_default-as_mut_array-2 : goal.returns-in_default-as_mut_array-2
returns-in_default-as_mut_array-2 c =
    let a = c.args in
    let f = c.refused-in_default-as_mut_array-2.ensures in
    parts a.disk.now a.memory.now a.tail.now a.allowed
    (restart_1 a.disk.now a.memory.now a.tail.now a.allowed (not_tail a.disk.now a.memory.now a.tail.now c.in_default-as_mut_array-2.ensures.cases))
    f.result_value c.in-Some.ensures.cases.same c.in-Some-as_mut_array.ensures.cases.same refl f.stop_value
