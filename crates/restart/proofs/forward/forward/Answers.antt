use Rattle.std.proofs.Common.{◌≡◌, ℕ, ◌+◌, ◌-◌, ◌<◌, ◌≤◌, List, length, take, slice_index_or, refl, sym, ap, ap₂, ◌∙◌, arith}
use Rattle.std.specs.Prelude.{Some, None}
use Rattle.recovery.specs.Group.{Write}
use Rattle.recovery.specs.Replay.{undo_all, lay_bytes}
use Rattle.redolog.proofs.Basics.{from}
use Rattle.image.specs.declared.read.Heads.{Heads}
use Rattle.image.specs.Reading.{read_tx}
use Rattle.image.specs.Pack.{packed}
use Rattle.image.specs.Keys.{no_head}
use Rattle.image.specs.Heads.{image_by, HeadsFit, undos_read}
use Rattle.image.proofs.HeadLaws.{shown_count}
use Rattle.restart.specs.Slots.{Slot}
use Rattle.restart.specs.Forward.{Went, went_by, first_of}
use Rattle.restart.proofs.Shown.{Shown, has_keys, shown}
use Rattle.restart.proofs.Steps.{rest, group_step, rest_step, rest_none, rest_zero, step_within, undone_at, after_turn, turn_step_lem, turn_stop, turn_undo}
use Rattle.restart.proofs.forward.forward.Goals.{In-Some, in-Some-undo, in_default-undo}
use Rattle.restart.proofs.forward.forward.Goals as goal

heads : (h : Heads) (s : List ℕ) (f : HeadsFit h s × (h.counters.count ≤ 8)) → Shown (image_by h s) s (take h.counters.count h.txs)
heads h s f = shown h s f.0 f.1

-- the turn, with what it leaves to be undone
turned : (c : In-Some) (x : Slot) → c.in-Some.turn.undo ≡ x
    → let l = c.loop-group in
    let image = image_by c.args.h c.args.s.now in
    went_by (undone_at image x c.step.new.memory) c.in-Some.turn.pass ≡ group_step image c.args.log.now (went_by l.memory l.p)
turned c x e =
    let a = c.args in
    let image = image_by a.h a.s.now in
    let l = c.loop-group in
    let w = went_by l.memory l.p in
    ap (λ (y : Slot). went_by (undone_at image y c.step.new.memory) c.in-Some.turn.pass) (sym e)
    ∙ ap₂ (after_turn image w) c.step.ensures.memory_after (sym c.in-Some.is ∙ c.step.ensures.value)
    ∙ sym (turn_step_lem image _ a.log.now w (has_keys image a.s.now _ (heads a.h a.s.now c.requires.heads_fit)))

bounds : (c : In-Some) → c.in-Some.turn.pass.end ≤ length c.args.log.now
bounds c =
    let l = c.loop-group in
    let w = step_within (image_by c.args.h c.args.s.now) c.args.log.now (went_by l.memory l.p) l.invariant.within in
    let e = ap (λ (w : Went). w.pass.end) (turned c _ refl) in
    omega (arith, w.0, e)

-- what is left to go over after a turn
passed : (c : In-Some) (x : Slot) (m : List ℕ) → c.in-Some.turn.undo ≡ x → m ≡ undone_at (image_by c.args.h c.args.s.now) x c.step.new.memory
    → let l = c.loop-group in
    let image = image_by c.args.h c.args.s.now in
    rest (c.args.groups - l._group) image c.args.log.now (went_by l.memory l.p)
    ≡ rest (c.args.groups - (l._group + 1)) image c.args.log.now (went_by m c.in-Some.turn.pass)
passed c x m e z =
    let l = c.loop-group in
    let image = image_by c.args.h c.args.s.now in
    let n : c.args.groups - l._group - 1 ≡ c.args.groups - (l._group + 1) = omega arith in
    rest_step image c.args.log.now (went_by l.memory l.p) (c.args.groups - l._group) (omega (arith, c.loop-group-test.true))
    ∙ ap₂ (λ (k : ℕ) (w : Went). rest k image c.args.log.now w) n
    (sym (ap (λ (y : List ℕ). went_by y c.in-Some.turn.pass) z ∙ turned c x e))

-- one that is to be undone has a slot
undone : (c : In-Some) (i : ℕ) → c.in-Some.turn.undo ≡ Some i → i < length (take c.args.h.counters.count c.args.h.txs)
undone c i e =
    let l = c.loop-group in
    (turn_undo _ c.args.log.now (went_by l.memory l.p) _ i (sym c.step.ensures.value ∙ c.in-Some.is) e).0

-- it is one of the image's
slot : (c : In-Some) (i : ℕ) → c.in-Some.turn.undo ≡ Some i → i < (image_by c.args.h c.args.s.now).count
slot c i e = omega (arith, undone c i e, (heads c.args.h c.args.s.now c.requires.heads_fit).count)

-- where it begins
within : (c : In-Some) (i : ℕ) → c.in-Some.turn.undo ≡ Some i
    → (slice_index_or (take c.args.h.counters.count c.args.h.txs) i no_head).at ≤ length c.args.s.now
within c i e = (heads c.args.h c.args.s.now c.requires.heads_fit).within _ (slot c i e)

pub returns-in_default : goal.returns-in_default
unfolding first_of image_by packed
returns-in_default c =
    let a = c.args in
    let image = image_by a.h a.s.now in
    let l = c.loop-group in
    let w = went_by l.memory l.p in
    let s = turn_stop _ a.log.now w (sym c.step.ensures.value ∙ c.in_default.is) in
    let r = l.invariant.same ∙ rest_none image a.log.now w (a.groups - l._group) s.0 in
    record { value = ap (λ (w : Went). w.pass) (sym r); memory_after = c.step.ensures.memory_after ∙ s.1 ∙ ap (λ (w : Went). w.memory) (sym r) }

pub bounds-txs-i : goal.bounds-txs-i
bounds-txs-i c = undone (goal.at.bounds-txs-i c).In-Some _ c.in-Some-undo.is

pub offset_bounds-txs-i : goal.offset_bounds-txs-i
offset_bounds-txs-i c =
    omega (arith, slot (goal.at.offset_bounds-txs-i c).In-Some _ c.in-Some-undo.is, shown_count c.args.h c.args.s.now c.requires.heads_fit.0, c.requires.heads_fit.1)

pub slice_bounds-lay_back-count : goal.slice_bounds-lay_back-count
slice_bounds-lay_back-count c = within (goal.at.slice_bounds-lay_back-count c).In-Some _ c.in-Some-undo.is

pub slice_bounds-lay_back-start : goal.slice_bounds-lay_back-start
slice_bounds-lay_back-start c = within (goal.at.slice_bounds-lay_back-start c).In-Some _ c.in-Some-undo.is

pub lay_back-requires : goal.lay_back-requires
lay_back-requires c =
    let a = c.args in
    let r = (heads a.h a.s.now c.requires.heads_fit).read _ (slot (goal.at.lay_back-requires c).In-Some _ c.in-Some-undo.is) in
    (r.0, ap read_tx (from a.s.now _) ∙ r.1)

pub loop-group-preserved : goal.loop-group-preserved
loop-group-preserved c =
    let t = (goal.at.loop-group-preserved c).In-Some in
    let a = c.args in
    let l = c.loop-group in
    elim c.match-turn.branch [
      | in-Some-undo w ↦
          let e = w.in-Some-undo.is in
          let us = ap (λ (x : List ℕ). undos_read (read_tx x)) (from a.s.now _) ∙ (heads a.h a.s.now c.requires.heads_fit).undo _ (slot t _ e) in
          let laid = w.memory-is ∙ w.lay_back.ensures ∙ ap (λ (ws : List Write). undo_all lay_bytes ws c.step.new.memory) us in
          record { within = bounds t; same = l.invariant.same ∙ passed t (Some _) _ e laid }
      | in_default-undo w ↦ record { within = bounds t; same = l.invariant.same ∙ passed t None _ w.in_default-undo.is w.memory-is }
    ]

pub returns : goal.returns
unfolding first_of image_by packed
returns c =
    let a = c.args in
    let l = c.loop-group in
    let r = l.invariant.same ∙ rest_zero (image_by a.h a.s.now) a.log.now (went_by l.memory l.p) (a.groups - l._group) (omega (arith, c.loop-group-test.false)) in
    record { value = ap (λ (w : Went). w.pass) (sym r); memory_after = ap (λ (w : Went). w.memory) (sym r) }
