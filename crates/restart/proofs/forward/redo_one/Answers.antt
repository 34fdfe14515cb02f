use Rattle.std.proofs.Common.{◌≡◌, ℕ, ◌+◌, ◌≤◌, List, length, slice_index_or, arith}
use Rattle.std.proofs.Math.Option.{some}
use Rattle.std.proofs.Math.ListN.{length-take, length-drop}
use Rattle.recovery.specs.Group.{Write}
use Rattle.redolog.specs.Number.{be16}
use Rattle.redolog.specs.Record.{redo, read_record}
use Rattle.redolog.proofs.RecordLaws.{record_within}
use Rattle.restart.proofs.RedoLaws.{redo_parts, redo_case}
use Rattle.restart.proofs.forward.redo_one.Goals as goal

-- it lies within the slice, and within memory
within : (s : List ℕ) (id : ℕ) (w : Write) → read_record s ≡ some (redo id w)
    → (7 + slice_index_or s 5 0 ≤ length s) × (be16 s 3 + slice_index_or s 5 0 ≤ 4096)
within s id w e =
    let i = redo_parts s id w e in
    (omega (arith, record_within _ _ e, i.1), omega (arith, i.0, i.1, i.3))

pub be16-at-requires : goal.be16-at-requires
be16-at-requires c = let r = c.requires.by_index in omega (arith, (within c.args.s.now r.0 r.1 r.2).0)

pub bounds-s-5 : goal.bounds-s-5
bounds-s-5 c = let r = c.requires.by_index in omega (arith, (within c.args.s.now r.0 r.1 r.2).0)

pub slice_bounds-bytes-end : goal.slice_bounds-bytes-end
slice_bounds-bytes-end c = let r = c.requires.by_index in omega (arith, (within c.args.s.now r.0 r.1 r.2).0)

pub copy-requires : goal.copy-requires
copy-requires c =
    let r = c.requires.by_index in
    let m = (within c.args.s.now r.0 r.1 r.2).1 in
    simp (length-take, length-drop) (omega (arith, m, c.be16-at.ensures))

pub returns : goal.returns
returns c =
    let r = c.requires.by_index in
    let e = redo_case c.args.s.now c.args.memory.now r.0 r.1 r.2 _ _ c.be16-at.ensures c.copy.ensures in
    record { value = e.0; memory_after = e.1 }
