use Rattle.std.proofs.Common.{◌≡◌, ◌∙◌, ℕ, List, replicate, rules, arith, refl, sym, ap}
use Rattle.std.proofs.lemmas.List.Edits.{sets}
use Rattle.image.specs.Format.{encode_image}
use Rattle.std.proofs.lemmas.List.{length-replicate}
use Rattle.store.proofs.Checks.{named}
use Rattle.store.proofs.Bare.{disk_number_by}
use Rattle.store.proofs.Storing.{disk_number, disk_admitted, leaves}
use Rattle.store.proofs.Checkpointing.{Encoded, checkpoint_refused, image_ok_lem, encoded, checkpoint_cut, checkpoint_done}
use Rattle.store.proofs.State.checkpoint.Goals as goal
use Rattle.store.proofs.State.checkpoint.Goals.{In_default, After-encode-size}

pub returns-in-Err : goal.returns-in-Err
returns-in-Err c =
    let a = c.args in
    let n = disk_number_by a.self _ c.extents.ensures a.disk.now a.memory.now a.tail.now _ c.in-Err.ensures in
    let o =
    leaves (checkpoint_refused a.self a.disk.now a.memory.now a.tail.now a.allowed _ n (named c.in-Err.refusal)) c.refused.ensures refl refl refl in
    record { result_value = o.0; disk_after = o.1.0; memory_after = o.1.1.0; tail_after = o.1.1.1 }

-- neither 1 nor 2
passed : (c : In_default) → let a = c.args in disk_number a.self a.disk.now a.memory.now a.tail.now ≡ 0
passed c = let a = c.args in disk_number_by a.self _ c.extents.ensures a.disk.now a.memory.now a.tail.now _ c.in_default.ensures

pub encode-size-requires-clause-image_value : goal.encode-size-requires-clause-image_value
encode-size-requires-clause-image_value c =
    let a = c.args in
    let z = passed ((goal.at.encode-size-requires-clause-image_value c).In_default) in
    image_ok_lem a.self a.disk.now a.memory.now a.tail.now a.allowed z c.from.result c.from.ensures

pub unwrap-lent-requires : goal.unwrap-lent-requires
unwrap-lent-requires c =
    let a = c.args in
    let z = passed ((goal.at.unwrap-lent-requires c).In_default) in
    let l = (disk_admitted a.self a.disk.now a.memory.now a.tail.now z).memory in
    search rules

-- the image in the buffer
image : (c : After-encode-size) → let a = c.args in Encoded a.self a.disk.now a.memory.now c.encode-size.new.b c.encode-size.result
image c =
    let a = c.args in
    let z = disk_number_by a.self _ c.extents.ensures a.disk.now a.memory.now a.tail.now _ c.in_default.ensures in
    let same : c.unwrap-lent.result.now ≡ a.memory.now = search rules in
    encoded a.self a.disk.now a.memory.now a.tail.now a.allowed z c.from.result c.encode-size.result (replicate 8653 0) c.encode-size.new.b
    c.from.ensures c.encode-size.ensures.value (simp length-replicate (omega arith))
    (c.encode-size.ensures.b_after ∙ ap (λ (m : List ℕ). sets (replicate 8653 0) 0 (encode_image c.from.result m)) same)

pub slice_bounds-bytes-end : goal.slice_bounds-bytes-end
slice_bounds-bytes-end c =
    let e = image ((goal.at.slice_bounds-bytes-end c).After-encode-size) in
    omega (arith, e.small, c.encode-size.auto.b)

pub slice_bounds-store_image-end : goal.slice_bounds-store_image-end
slice_bounds-store_image-end c = sym (image ((goal.at.slice_bounds-store_image-end c).After-encode-size)).counted

pub store_image-stores-requires : goal.store_image-stores-requires
store_image-stores-requires c =
    let e = image ((goal.at.store_image-stores-requires c).After-encode-size) in
    (e.disk, omega (arith, e.counted, e.small))

pub returns-then-stores-size : goal.returns-then-stores-size
returns-then-stores-size c =
    let a = c.args in
    let x = goal.at.returns-then-stores-size c in
    let made = c.store_image-stores in
    let off = c.cut_off.ensures in
    let o =
    leaves
    (checkpoint_cut a.self a.disk.now a.memory.now a.tail.now a.allowed (passed (x.In_default)) c.encode-size.result made.result
    c.encode-size.new.b made.new.disk (image (x.After-encode-size)) made.ensures.value made.ensures.disk_after c.if-stores-size.true)
    off.result_value refl off.memory_after off.tail_after in
    record { result_value = o.0; disk_after = o.1.0; memory_after = o.1.1.0; tail_after = o.1.1.1 }

pub returns : goal.returns
returns c =
    let a = c.args in
    let x = goal.at.returns c in
    let made = c.store_image-stores in
    let o =
    leaves
    (checkpoint_done a.self a.disk.now a.memory.now a.tail.now a.allowed (passed (x.In_default)) c.encode-size.result made.result
    c.encode-size.new.b made.new.disk (image (x.After-encode-size)) made.ensures.value made.ensures.disk_after c.if-stores-size.false)
    refl refl refl refl in
    record { result_value = o.0; disk_after = o.1.0; memory_after = o.1.1.0; tail_after = o.1.1.1 }
