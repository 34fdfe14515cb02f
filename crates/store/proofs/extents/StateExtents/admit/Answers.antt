use Rattle.std.proofs.Common.{ℕ, List, true, ◌&&◌, ◌≡◌, ◌≤◌, length, arith, refl, sym, ap₂, ◌∙◌, Some}
use Rattle.redolog.proofs.LogLaws.{log_within}
use Rattle.transaction.specs.Lists.{every, sum_of}
use Rattle.transaction.specs.Rules.{state_ok, room_of}
use Rattle.store.specs.declared.State.{State}
use Rattle.store.specs.State.{txs_of, outlines_of}
use Rattle.store.specs.Extents.{bare_state}
use Rattle.image.specs.Rules.{outlines_ok}
use Rattle.store.specs.Rules.{tail_length, tail_ok}
use Rattle.store.specs.Admission.{counters_ok, measured_txs, measured_tail}
use Rattle.store.proofs.Admitting.{head_count, unfit_head, unfit_txs, unfit_tail, unfit_room, unfit_none, txs_none, txs_some}
use Rattle.store.proofs.Admitting.{tail_none, tail_some, reserved_bound, admit_memory, admit_tail, admit_unfit, admit_fit}
use Rattle.store.proofs.extents.StateExtents.admit.Goals as goal

-- what was measured, once both parts keep their rules
record Measures (s : State) (t : List ℕ) (a b : ℕ) : Type 0 where
  heads : counters_ok s.recovered s.logend s.ondisk.0 s.assigned.0 s.count ≡ true
  txs : outlines_ok s.lastid.0 s.assigned.0 (outlines_of s) && every state_ok (txs_of s) ≡ true
  log : tail_ok s.ondisk.0 s.assigned.0 t ≡ true
  end : a ≡ tail_length s.ondisk.0 t
  rooms : b ≡ sum_of room_of (txs_of s)
  short : tail_length s.ondisk.0 t ≤ length t
  few : sum_of room_of (txs_of s) ≤ 5056

measured : (s : State) (t : List ℕ) → counters_ok s.recovered s.logend s.ondisk.0 s.assigned.0 s.count ≡ true
    → (x : ℕ) → Some x ≡ measured_txs s → (y : ℕ) → Some y ≡ measured_tail s.ondisk.0 s.assigned.0 t → Measures s t y x
measured s t h x e y g =
    let m = txs_some s x (sym e) in
    let n = tail_some s.ondisk.0 s.assigned.0 t y (sym g) in
    record {
      heads = h;
      txs = m.0;
      log = n.0;
      end = n.1;
      rooms = m.1;
      short = log_within s.ondisk.0 _ t refl;
      few = reserved_bound s (head_count s t h) m.0;
    }

pub returns-then-memory-ne-MEMORY_LEN : goal.returns-then-memory-ne-MEMORY_LEN
returns-then-memory-ne-MEMORY_LEN c = sym (admit_memory (bare_state c.args.self) c.args.memory c.args.tail.now c.if-memory-ne-MEMORY_LEN.true)

pub returns-then-tail-ne-TAIL_LEN : goal.returns-then-tail-ne-TAIL_LEN
returns-then-tail-ne-TAIL_LEN c = sym (admit_tail (bare_state c.args.self) c.args.memory c.args.tail.now c.if-tail-ne-TAIL_LEN.true)

pub returns-then-not-counters_ok : goal.returns-then-not-counters_ok
returns-then-not-counters_ok c =
    let s = bare_state c.args.self in
    let t = c.args.tail.now in
    sym
    (admit_unfit s c.args.memory t c.if-memory-ne-MEMORY_LEN.false c.if-tail-ne-TAIL_LEN.false
    (unfit_head s t (sym c.counters_ok.ensures ∙ c.if-not-counters_ok.true)))

pub measure_txs-requires : goal.measure_txs-requires
measure_txs-requires c = head_count (bare_state c.args.self) c.args.tail.now (sym c.counters_ok.ensures ∙ c.if-not-counters_ok.false)

pub returns-in_default : goal.returns-in_default
returns-in_default c =
    let s = bare_state c.args.self in
    let t = c.args.tail.now in
    sym
    (admit_unfit s c.args.memory t c.if-memory-ne-MEMORY_LEN.false c.if-tail-ne-TAIL_LEN.false
    (unfit_txs s t (txs_none s (sym c.in_default.ensures))))

pub returns-in_default-measure_tail : goal.returns-in_default-measure_tail
returns-in_default-measure_tail c =
    let s = bare_state c.args.self in
    let t = c.args.tail.now in
    sym
    (admit_unfit s c.args.memory t c.if-memory-ne-MEMORY_LEN.false c.if-tail-ne-TAIL_LEN.false
    (unfit_tail s t (tail_none s.ondisk.0 s.assigned.0 t (sym c.in_default-measure_tail.ensures))))

pub overflow_add-room : goal.overflow_add-room
overflow_add-room c =
    let m =
    measured (bare_state c.args.self) c.args.tail.now (sym c.counters_ok.ensures ∙ c.if-not-counters_ok.false) _ c.in-Some.ensures _
    c.in-Some-measure_tail.ensures in
    omega (arith, m)

pub overflow_add-room-2 : goal.overflow_add-room-2
overflow_add-room-2 c =
    let m =
    measured (bare_state c.args.self) c.args.tail.now (sym c.counters_ok.ensures ∙ c.if-not-counters_ok.false) _ c.in-Some.ensures _
    c.in-Some-measure_tail.ensures in
    omega (arith, m)

pub returns-then-room-gt-LOG_LEN : goal.returns-then-room-gt-LOG_LEN
returns-then-room-gt-LOG_LEN c =
    let s = bare_state c.args.self in
    let t = c.args.tail.now in
    let m = measured s t (sym c.counters_ok.ensures ∙ c.if-not-counters_ok.false) _ c.in-Some.ensures _ c.in-Some-measure_tail.ensures in
    sym
    (admit_unfit s c.args.memory t c.if-memory-ne-MEMORY_LEN.false c.if-tail-ne-TAIL_LEN.false
    (unfit_room s t (omega (arith, m, c.if-room-gt-LOG_LEN.true))))

pub returns : goal.returns
returns c =
    let s = bare_state c.args.self in
    let t = c.args.tail.now in
    let m = measured s t (sym c.counters_ok.ensures ∙ c.if-not-counters_ok.false) _ c.in-Some.ensures _ c.in-Some-measure_tail.ensures in
    let u = unfit_none s t m.heads m.txs m.log (omega (arith, m.end, m.rooms, c.if-room-gt-LOG_LEN.false)) in
    ap₂ (λ (x y : ℕ). record { number = 0; end = x; room = y }) m.end (omega (arith, m.end, m.rooms))
    ∙ sym (admit_fit s c.args.memory t c.if-memory-ne-MEMORY_LEN.false c.if-tail-ne-TAIL_LEN.false u)
