use Rattle.std.proofs.Common.{arith, rules, ◌≡◌, ◌<◌, ℕ, Bool, eqb, take, get_or, length, length-take, length-take-le, refl, sym, ap, ◌∙◌, cond}
use Rattle.std.specs.Prelude.{Some, None}
use borrow.Author.Tests.{eq-eqb, ne_eqb}
use Rattle.transaction.proofs.Lists.{up_done}
use Rattle.transaction.proofs.First.{first_hit, first_miss}
use Rattle.store.specs.declared.extents.StateExtents.{StateExtents}
use Rattle.store.specs.State.{tx_at, has_id, slot_in, slot_of}
use Rattle.store.specs.Extents.{no_extents, bare_state}
use Rattle.store.proofs.Bare.{listed_at}
use Rattle.store.proofs.Slots.{length_mapped}
use Rattle.store.proofs.extents.StateExtents.find.Goals as goal

-- the test on an element
tested : (e : StateExtents) (id i : ℕ) → i < e.counters.count → (r : Bool) → r ≡ eqb id (get_or (take e.counters.count e.txs) i no_extents).id.0
    → has_id id (tx_at (bare_state e) i) ≡ r
tested e id i h r q = ap (has_id id) (listed_at e e.counters.count i h) ∙ sym q

-- what is answered where the search has come to slot i
come : (e : StateExtents) (id i n : ℕ) → slot_of (bare_state e) id ≡ i → cond (eqb (slot_of (bare_state e) id) n) None (Some (slot_of (bare_state e) id)) ≡ cond (eqb i n) None (Some i)
come e id i n q = ap (λ (k : ℕ). cond (eqb k n) None (Some k)) q

pub returns-then-eq : goal.returns-then-eq
returns-then-eq c =
    let e = c.args.self in
    let i = c.loop-i.i in
    let h : i < e.counters.count = omega (arith, length-take e.counters.count e.txs) in
    let q = c.loop-i.invariant ∙ first_hit (tx_at (bare_state e)) (has_id _) _ _ h (tested e _ i h _ c.eq.ensures ∙ c.if-eq.true) in
    sym (come e c.args.id.0 i e.counters.count q ∙ rw (ne_eqb i e.counters.count (λ z. omega (arith, z, h))) refl)

pub loop-i-preserved : goal.loop-i-preserved
loop-i-preserved c =
    let e = c.args.self in
    let i = c.loop-i.i in
    let h : i < e.counters.count = omega (arith, length-take e.counters.count e.txs) in
    c.loop-i.invariant ∙ first_miss (tx_at (bare_state e)) (has_id _) _ _ h (tested e _ i h _ c.eq.ensures ∙ c.if-eq.false)

pub returns : goal.returns
returns c =
    let e = c.args.self in
    let s = bare_state e in
    let i = c.loop-i.i in
    let l : length e.txs ≡ 8 = search (rules, length_mapped) in
    let n : length (take e.counters.count e.txs) ≡ e.counters.count = length-take-le e.counters.count e.txs (omega (arith, l)) in
    let q : e.counters.count ≡ i = omega (arith, n) in
    let w = c.loop-i.invariant ∙ ap (slot_in _ i) (up_done (tx_at s) e.counters.count i (omega (arith, q))) in
    sym (come e c.args.id.0 i e.counters.count w ∙ rw (eq-eqb i e.counters.count (sym q)) refl)
