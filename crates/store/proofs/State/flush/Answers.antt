use Rattle.std.proofs.Common.{◌≡◌, length, length-take, length-drop, length-take-le, arith, refl, sym, ap}
use Rattle.store.specs.Answer.{done, tells}
use Rattle.store.specs.Rules.{tail_length}
use Rattle.store.proofs.Checks.{named}
use Rattle.store.proofs.Bare.{disk_by, disk_number_by}
use Rattle.store.proofs.Storing.{disk_number, disk_end, leaves}
use Rattle.store.proofs.Flushing.{flush_refused, flush_fits, flush_nothing, flush_ends, flush_shift, flush_cut, flush_done}
use Rattle.store.proofs.State.flush.Goals as goal
use Rattle.store.proofs.State.flush.Goals.{In-Ok}

pub returns-in-Err : goal.returns-in-Err
returns-in-Err c =
    let a = c.args in
    let n = disk_number_by a.self _ c.extents.ensures a.disk.now a.memory.now a.tail.now _ c.in-Err.ensures in
    let o = leaves (flush_refused a.self a.disk.now a.memory.now a.tail.now a.k a.allowed _ n (named c.in-Err.refusal)) c.refused.ensures refl refl refl in
    record { result_value = o.0; disk_after = o.1.0; memory_after = o.1.1.0; tail_after = o.1.1.1 }

-- neither 1 nor 2
passed : (c : In-Ok) → let a = c.args in disk_number a.self a.disk.now a.memory.now a.tail.now ≡ 0
passed c = let a = c.args in disk_number_by a.self _ c.extents.ensures a.disk.now a.memory.now a.tail.now _ c.in-Ok.ensures

pub returns-then-size-eq0 : goal.returns-then-size-eq0
returns-then-size-eq0 c =
    let a = c.args in
    let z = passed ((goal.at.returns-then-size-eq0 c).In-Ok) in
    let read = c.read_first-first in
    let o =
    leaves (flush_nothing a.self a.disk.now a.memory.now a.tail.now a.k a.allowed z read.result read.ensures c.if-size-eq0.true) refl refl refl refl in
    record { result_value = o.0; disk_after = o.1.0; memory_after = o.1.1.0; tail_after = o.1.1.1 }

-- what was read fits into its buffers

pub slice_bounds-copy_up-end : goal.slice_bounds-copy_up-end
slice_bounds-copy_up-end c =
    let a = c.args in
    let z = passed ((goal.at.slice_bounds-copy_up-end c).In-Ok) in
    let r = flush_fits a.self a.disk.now a.memory.now a.tail.now a.k a.allowed z c.read_first-first.result c.read_first-first.ensures in
    omega (arith, r.disk)

pub slice_bounds-copy_up-end-2 : goal.slice_bounds-copy_up-end-2
slice_bounds-copy_up-end-2 c =
    let a = c.args in
    let z = passed ((goal.at.slice_bounds-copy_up-end-2 c).In-Ok) in
    (flush_fits a.self a.disk.now a.memory.now a.tail.now a.k a.allowed z c.read_first-first.result c.read_first-first.ensures).tail

pub slice_bounds-copy_up-end-3 : goal.slice_bounds-copy_up-end-3
slice_bounds-copy_up-end-3 c =
    let a = c.args in
    let z = passed ((goal.at.slice_bounds-copy_up-end-3 c).In-Ok) in
    sym (flush_fits a.self a.disk.now a.memory.now a.tail.now a.k a.allowed z c.read_first-first.result c.read_first-first.ensures).bytes

pub copy_up-stores-requires : goal.copy_up-stores-requires
copy_up-stores-requires c =
    let a = c.args in
    let z = passed ((goal.at.copy_up-stores-requires c).In-Ok) in
    let r = flush_fits a.self a.disk.now a.memory.now a.tail.now a.k a.allowed z c.read_first-first.result c.read_first-first.ensures in
    simp (r.bytes, length-take, length-drop) (omega (arith, r.disk, r.log))

pub returns-then-stores-size : goal.returns-then-stores-size
returns-then-stores-size c =
    let a = c.args in
    let z = passed ((goal.at.returns-then-stores-size c).In-Ok) in
    let read = c.read_first-first in
    let up = c.copy_up-stores in
    let off = c.cut_off.ensures in
    let o =
    leaves
    (flush_cut a.self a.disk.now a.memory.now a.tail.now a.k a.allowed z read.result read.ensures up.result up.new.b up.ensures.value
    up.ensures.b_after c.if-stores-size.true)
    off.result_value refl off.memory_after off.tail_after in
    record { result_value = o.0; disk_after = o.1.0; memory_after = o.1.1.0; tail_after = o.1.1.1 }

-- where the groups of the tail end
end : (c : In-Ok) → let a = c.args in c.in-Ok.admitted.end ≡ tail_length a.self.ondisk.0 a.tail.now
end c =
    let a = c.args in
    let by = disk_by a.self _ c.extents.ensures (length a.disk.now) (length a.memory.now) a.tail.now _ c.in-Ok.ensures in
    disk_end a.self a.disk.now a.memory.now a.tail.now _ by refl

pub slice_bounds-shift_down-end : goal.slice_bounds-shift_down-end
slice_bounds-shift_down-end c =
    let a = c.args in
    let x = (goal.at.slice_bounds-shift_down-end c).In-Ok in
    let read = c.read_first-first in
    flush_ends a.self a.disk.now a.memory.now a.tail.now a.k a.allowed (passed x) read.result read.ensures _ (end x)

pub slice_bounds-shift_down-end-2 : goal.slice_bounds-shift_down-end-2
slice_bounds-shift_down-end-2 c =
    let a = c.args in
    let x = (goal.at.slice_bounds-shift_down-end-2 c).In-Ok in
    let read = c.read_first-first in
    let l = flush_ends a.self a.disk.now a.memory.now a.tail.now a.k a.allowed (passed x) read.result read.ensures _ (end x) in
    sym (length-take-le _ _ l)

pub flush_step-s-requires : goal.flush_step-s-requires
flush_step-s-requires c =
    let a = c.args in
    let z = passed ((goal.at.flush_step-s-requires c).In-Ok) in
    (flush_fits a.self a.disk.now a.memory.now a.tail.now a.k a.allowed z c.read_first-first.result c.read_first-first.ensures).log

pub returns : goal.returns
returns c =
    let a = c.args in
    let x = (goal.at.returns c).In-Ok in
    let z = passed x in
    let read = c.read_first-first in
    -- the tail is moved as a whole, zeros and all
    let moved =
    flush_shift a.self a.disk.now a.memory.now a.tail.now a.k a.allowed z read.result read.ensures _ (end x) _ c.shift_down.ensures in
    let up = c.copy_up-stores in
    let o =
    leaves
    (flush_done a.self a.disk.now a.memory.now a.tail.now a.k a.allowed z read.result read.ensures up.result up.new.b up.ensures.value
    up.ensures.b_after c.if-stores-size.false)
    (ap (tells done 0 up.result) c.flush_step-s.ensures) refl refl moved in
    record { result_value = o.0; disk_after = o.1.0; memory_after = o.1.1.0; tail_after = o.1.1.1 }
