use Rattle.std.proofs.Common.{rules, ℕ, Bool, true, ◌+◌, ◌-◌, ◌≤◌, ◌<◌, ◌≡◌, Some, get_or, take, length, length-take, length-take-le, arith, sym, ap, ◌∙◌, subst}
use Rattle.recovery.specs.Lists.{any}
use Rattle.redolog.proofs.Basics.{and_right}
use Rattle.transaction.specs.Lists.{up_from, every, sum_of}
use Rattle.transaction.specs.declared.Tx.{Tx}
use Rattle.transaction.specs.declared.Key.{Key}
use Rattle.transaction.specs.View.{ranges_of, outline_of, bare_tx}
use Rattle.transaction.specs.Rules.{records_ok, head_ok, outline_ok, alike, state_ok, room_of}
use Rattle.transaction.proofs.Lists.{up_done, every_bad, every_good, sum_turn}
use Rattle.image.specs.Rules.{distinct}
use Rattle.image.proofs.Rules.{distinct_hit, distinct_miss}
use Rattle.store.specs.declared.State.{State}
use Rattle.store.specs.declared.extents.StateExtents.{StateExtents}
use Rattle.store.specs.State.{tx_at, txs_of, outline_at}
use Rattle.store.specs.Extents.{no_extents, bare_state}
use Rattle.store.proofs.Bare.{listed_at}
use Rattle.store.proofs.Slots.{length_mapped}
use Rattle.store.proofs.Admitting.{bad_outline, bad_alike, bad_states, good_txs, redo_records, room_bound}
use Rattle.store.proofs.extents.StateExtents.measure_txs.Goals as goal

-- what each test says of the transaction in slot i, which is the one of the extents there
module _ (e : StateExtents) (i : ℕ) (h : i < e.counters.count) where
  abbrev s : State
  s = bare_state e

  abbrev t : Tx
  t = tx_at s i

  abbrev x : Tx
  x = bare_tx (get_or (take e.counters.count e.txs) i no_extents)

  outline : (r : Bool) → r ≡ outline_ok s.lastid.0 s.assigned.0 (outline_of x) → outline_ok s.lastid.0 s.assigned.0 (outline_at s i) ≡ r
  outline r q = ap (λ (y : Tx). outline_ok s.lastid.0 s.assigned.0 (outline_of y)) (listed_at e e.counters.count i h) ∙ sym q

  state : (r : Bool) → r ≡ state_ok x → state_ok t ≡ r
  state r q = ap state_ok (listed_at e e.counters.count i h) ∙ sym q

  -- the later transactions, to which its key is compared
  compared : (k : Key) → k ≡ record { id = x.id; csn = x.csn } → (r : Bool) → r ≡ any (alike k.id.0 k.csn.0) (up_from (outline_at s) (s.count - (i + 1)) (i + 1))
      → any (alike t.id.0 t.csn.0) (up_from (outline_at s) (s.count - (i + 1)) (i + 1)) ≡ r
  compared k p r q =
      ap (λ (y : Tx). any (alike y.id.0 y.csn.0) (up_from (outline_at s) (s.count - (i + 1)) (i + 1))) (listed_at e e.counters.count i h)
      ∙ ap (λ (k : Key). any (alike k.id.0 k.csn.0) (up_from (outline_at s) (s.count - (i + 1)) (i + 1))) (sym p)
      ∙ sym q

  module _ (o : outline_ok s.lastid.0 s.assigned.0 (outline_at s i) ≡ true) where
    undo : records_ok (ranges_of t.undo.ranges) ≡ true
    undo = and_right (head_ok s.lastid.0 s.assigned.0 t.id.0 t.status t.csn.0) _ o

    redo : state_ok t ≡ true → x.status ≡ 1 → records_ok (ranges_of x.redo.ranges) ≡ true
    redo f = subst (λ (y : Tx). y.status ≡ 1 → records_ok (ranges_of y.redo.ranges) ≡ true) (listed_at e e.counters.count i h) (redo_records t undo f)

    reserved : (r : ℕ) → r ≡ room_of x → r ≡ room_of t
    reserved r q = q ∙ ap room_of (sym (listed_at e e.counters.count i h))

    small : state_ok t ≡ true → (r : ℕ) → r ≡ room_of x → r ≤ 632
    small f r q = omega (arith, reserved r q, room_bound t undo f)

pub returns-then-not-image_ok : goal.returns-then-not-image_ok
returns-then-not-image_ok c =
    let e = c.args.self in
    let h : c.loop-i.i < e.counters.count = omega (arith, length-take e.counters.count e.txs) in
    let s = bare_state e in
    let bad = outline e c.loop-i.i h _ c.image_ok.ensures ∙ c.if-not-image_ok.true in
    sym
    (bad_outline s
    (c.loop-i.invariant.1 ∙ every_bad (outline_at s) _ _ h (outline_ok s.lastid.0 s.assigned.0) bad))

pub returns-then-not-state_ok : goal.returns-then-not-state_ok
returns-then-not-state_ok c =
    let e = c.args.self in
    let h : c.loop-i.i < e.counters.count = omega (arith, length-take e.counters.count e.txs) in
    let s = bare_state e in
    let bad = state e c.loop-i.i h _ c.state_ok.ensures ∙ c.if-not-state_ok.true in
    sym (bad_states s (c.loop-i.invariant.3 ∙ every_bad (tx_at s) _ _ h state_ok bad))

pub returns-then-alike_from : goal.returns-then-alike_from
returns-then-alike_from c =
    let e = c.args.self in
    let h : c.loop-i.i < e.counters.count = omega (arith, length-take e.counters.count e.txs) in
    let s = bare_state e in
    let hit = compared e c.loop-i.i h _ c.key.ensures _ c.alike_from.ensures ∙ c.if-alike_from.true in
    sym (bad_alike s (c.loop-i.invariant.2 ∙ distinct_hit s.txs _ _ h hit))

pub room-room-requires : goal.room-room-requires
room-room-requires c =
    let e = c.args.self in
    let h : c.loop-i.i < e.counters.count = omega (arith, length-take e.counters.count e.txs) in
    let i = c.loop-i.i in
    redo e i h (outline e i h _ c.image_ok.ensures ∙ c.if-not-image_ok.false) (state e i h _ c.state_ok.ensures ∙ c.if-not-state_ok.false)

pub overflow_add-room : goal.overflow_add-room
overflow_add-room c =
    let e = c.args.self in
    let h : c.loop-i.i < e.counters.count = omega (arith, length-take e.counters.count e.txs) in
    let i = c.loop-i.i in
    let n =
    small e i h (outline e i h _ c.image_ok.ensures ∙ c.if-not-image_ok.false) (state e i h _ c.state_ok.ensures ∙ c.if-not-state_ok.false) _
    c.room-room.ensures in
    omega (arith, n)

pub loop-i-preserved : goal.loop-i-preserved
loop-i-preserved c =
    let e = c.args.self in
    let h : c.loop-i.i < e.counters.count = omega (arith, length-take e.counters.count e.txs) in
    let i = c.loop-i.i in
    let s = bare_state e in
    let v = c.loop-i.invariant in
    let o = outline e i h _ c.image_ok.ensures ∙ c.if-not-image_ok.false in
    let f = state e i h _ c.state_ok.ensures ∙ c.if-not-state_ok.false in (
      omega (arith, small e i h o f _ c.room-room.ensures),
      v.1 ∙ every_good (outline_at s) _ _ h (outline_ok s.lastid.0 s.assigned.0) o,
      v.2 ∙ distinct_miss s.txs _ _ h (compared e i h _ c.key.ensures _ c.alike_from.ensures ∙ c.if-alike_from.false),
      v.3 ∙ every_good (tx_at s) _ _ h state_ok f,
      omega (arith, sum_turn (tx_at s) s.count i h room_of, v.4, reserved e i h o _ c.room-room.ensures),
    )

pub returns : goal.returns
returns c =
    let e = c.args.self in
    let s = bare_state e in
    let i = c.loop-i.i in
    let v = c.loop-i.invariant in
    let l : length e.txs ≡ 8 = search (rules, length_mapped) in
    let n : length (take e.counters.count e.txs) ≡ e.counters.count = length-take-le e.counters.count e.txs (omega (arith, l)) in
    let d : e.counters.count ≤ i = omega (arith, n) in
    let o = up_done (outline_at s) e.counters.count i d in
    let t = up_done (tx_at s) e.counters.count i d in
    let z : sum_of room_of (up_from (tx_at s) (e.counters.count - i) i) ≡ 0 = ap (sum_of room_of) t in
    let r : c.loop-i.room ≡ sum_of room_of (txs_of s) = omega (arith, z, v.4) in
    ap (λ (n : ℕ). Some n) r
    ∙ sym (good_txs s (v.1 ∙ ap (every (outline_ok s.lastid.0 s.assigned.0)) o) (v.2 ∙ ap distinct o) (v.3 ∙ ap (every state_ok) t))
