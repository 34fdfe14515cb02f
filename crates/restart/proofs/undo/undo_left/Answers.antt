use Rattle.std.proofs.Common.{◌≡◌, ℕ, ◌<◌, ◌≤◌, List, [], ◌∷◌, ◌++◌, length, take, slice_index_or, set, sym, ap, ◌∙◌, append_assoc, arith, length-append}
use Rattle.std.proofs.Math.ListN.{length-set}
use Rattle.std.specs.Prelude.{Some}
use mathlib.Core.List.{append-nil}
use Rattle.recovery.specs.Group.{Write}
use Rattle.recovery.specs.Transaction.{Tx}
use Rattle.recovery.specs.Replay.{undo_all, undo_each, lay_bytes}
use Rattle.redolog.proofs.Basics.{from}
use Rattle.transaction.specs.declared.Key.{Key}
use Rattle.image.specs.Reading.{read_tx}
use Rattle.image.specs.declared.read.Heads.{Heads}
use Rattle.image.specs.Keys.{no_head}
use Rattle.image.specs.Heads.{HeadsFit, image_by, undos_read}
use Rattle.image.proofs.HeadLaws.{shown_count}
use Rattle.restart.specs.declared.forward.Ending.TheVariants.{Abort}
use Rattle.restart.specs.Slots.{transaction_at}
use Rattle.restart.specs.Turns.{StatusByCsn, undone_list}
use Rattle.restart.proofs.Shown.{Shown, HasKeys, has_keys, shown}
use Rattle.restart.proofs.Undos.{undid_more, undid_all}
use Rattle.restart.proofs.Select.{left_by, left_is, left_few, next_some, next_none}
use Rattle.restart.proofs.undo.undo_left.Goals.{In-Some}
use Rattle.restart.proofs.undo.undo_left.Goals as goal

-- what the heads show
few : (h : Heads) (s : List ℕ) → HeadsFit h s → StatusByCsn (image_by h s) → h.counters.count ≤ 8
few h s shows status = omega (arith, shown_count h s shows, status.few)

heads : (h : Heads) (s : List ℕ) (f : HeadsFit h s × StatusByCsn (image_by h s)) → Shown (image_by h s) s (take h.counters.count h.txs)
heads h s f = shown h s f.0 (few h s f.0 f.1)

keys : (h : Heads) (s : List ℕ) (f : HeadsFit h s × StatusByCsn (image_by h s)) → HasKeys (image_by h s) (take h.counters.count h.txs)
keys h s f = has_keys (image_by h s) s (take h.counters.count h.txs) (heads h s f)

-- the one found is the next to undo
next : (c : In-Some)
    → let l = c.loop-i in
    let i = c.in-Some.i in
    let image = image_by c.args.h c.args.s.now in
    (i < image.count) × (left_by image l.found c.args.p.csn.0 ≡ transaction_at image i ∷ left_by image (set l.found i (Some Abort)) c.args.p.csn.0)
next c =
    let a = c.args in
    let f = c.requires.heads_fit in
    let l = c.loop-i in
    next_some (image_by a.h a.s.now) f.1 _ (keys a.h a.s.now f) l.found (omega (arith, l.invariant.endings, f.1.few)) a.p.csn _
    (sym c.next.ensures ∙ c.in-Some.is)

-- there is a place for its id
room : (c : In-Some) → c.loop-i.count < 8
room c =
    let image = image_by c.args.h c.args.s.now in
    let n = c.args.p.csn.0 in
    let l = c.loop-i in
    let v = l.invariant in
    omega (
      arith,
      v.undid.count,
      left_few image c.args.p.found n,
      length-append v.done (left_by image l.found n),
      ap length v.split,
      ap length (next c).1,
      c.requires.heads_fit.1.few,
    )

-- it is one of the slots
slot : (c : In-Some) → (c.in-Some.i < length (take c.args.h.counters.count c.args.h.txs)) × (c.in-Some.i < 8)
slot c =
    let f = c.requires.heads_fit in
    let v = heads c.args.h c.args.s.now f in
    (omega (arith, (next c).0, v.count), omega (arith, (next c).0, f.1.few))

-- where it begins
within : (c : In-Some) → (slice_index_or (take c.args.h.counters.count c.args.h.txs) c.in-Some.i no_head).at ≤ length c.args.s.now
within c = (heads c.args.h c.args.s.now c.requires.heads_fit).within _ (next c).0

pub shared_ref_as_front-txs : goal.shared_ref_as_front-txs
shared_ref_as_front-txs c = few c.args.h c.args.s.now c.requires.heads_fit.0 c.requires.heads_fit.1

pub lay_back-requires : goal.lay_back-requires
lay_back-requires c =
    let a = c.args in
    let v = heads a.h a.s.now c.requires.heads_fit in
    let r = v.read _ (next (goal.at.lay_back-requires c).In-Some).0 in
    (r.0, ap read_tx (from a.s.now _) ∙ r.1)

pub slice_bounds-lay_back-count : goal.slice_bounds-lay_back-count
slice_bounds-lay_back-count c = within (goal.at.slice_bounds-lay_back-count c).In-Some

pub slice_bounds-lay_back-start : goal.slice_bounds-lay_back-start
slice_bounds-lay_back-start c = within (goal.at.slice_bounds-lay_back-start c).In-Some

pub offset_bounds-txs-i : goal.offset_bounds-txs-i
offset_bounds-txs-i c = omega (arith, (slot c).1)

pub bounds-txs-i : goal.bounds-txs-i
bounds-txs-i c = (slot c).0

pub offset_bounds-ids-count : goal.offset_bounds-ids-count
offset_bounds-ids-count c = omega (arith, room (goal.at.offset_bounds-ids-count c).In-Some)

pub bounds-ids-count : goal.bounds-ids-count
bounds-ids-count c = room (goal.at.bounds-ids-count c).In-Some

pub overflow_add-count : goal.overflow_add-count
overflow_add-count c = omega (arith, room (goal.at.overflow_add-count c).In-Some)

pub offset_bounds-found-i : goal.offset_bounds-found-i
offset_bounds-found-i c = omega (arith, (slot (goal.at.offset_bounds-found-i c).In-Some).1)

pub bounds-found-i : goal.bounds-found-i
bounds-found-i c = (slot (goal.at.bounds-found-i c).In-Some).1

pub loop-i-smaller : goal.loop-i-smaller
loop-i-smaller c = omega (arith, ap length (next (goal.at.loop-i-smaller c).In-Some).1)

pub loop-i-preserved : goal.loop-i-preserved
loop-i-preserved c =
    let a = c.args in
    let image = image_by a.h a.s.now in
    let l = c.loop-i in
    let v = l.invariant in
    let i = c.in-Some.i in
    let n = next (goal.at.loop-i-preserved c).In-Some in
    let h = heads a.h a.s.now c.requires.heads_fit in
    let t = transaction_at image i in
    let ts = left_by image (set l.found i (Some Abort)) a.p.csn.0 in
    let us = ap (λ (x : List ℕ). undos_read (read_tx x)) (from a.s.now _) ∙ h.undo i n.0 in
    let laid = c.lay_back.ensures ∙ ap (λ (ws : List Write). undo_all lay_bytes ws l.memory) us in
    let id = ap (λ (k : Key). k.id) (h.keys i n.0) in
    record {
      endings = length-set l.found i (Some Abort) ∙ v.endings;
      done = v.done ++ (t ∷ []);
      split = v.split ∙ ap (λ (xs : List Tx). v.done ++ xs) n.1 ∙ sym (append_assoc v.done (t ∷ []) ts);
      undid = undid_more v.done t _ _ _ _ _ _ v.undid laid id;
    }

pub returns : goal.returns
returns c =
    let a = c.args in
    let f = c.requires.heads_fit in
    let image = image_by a.h a.s.now in
    let l = c.loop-i in
    let v = l.invariant in
    let z = next_none image f.1 _ (keys a.h a.s.now f) l.found (omega (arith, v.endings, f.1.few)) a.p.csn (sym c.next.ensures ∙ c.in_default.is) in
    let e = left_is image a.p ∙ (v.split ∙ ap (λ (xs : List Tx). v.done ++ xs) z ∙ append-nil v.done) in
    record {
      value = undid_all v.done _ _ _ _ v.undid ∙ ap undone_list (sym e);
      memory_after = v.undid.memory ∙ ap (λ (ts : List Tx). undo_each lay_bytes ts a.memory.now) (sym e);
    }
