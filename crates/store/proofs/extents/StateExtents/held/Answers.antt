use Rattle.std.proofs.Common.{arith, rules, ◌≡◌, ◌<◌, ℕ, Bool, take, get_or, length, length-take, length-take-le, sym, ap, ◌∙◌}
use Rattle.recovery.specs.Lists.{any}
use Rattle.transaction.specs.declared.Tx.{Tx}
use Rattle.transaction.specs.View.{bare_tx}
use Rattle.transaction.specs.Rules.{held_against}
use Rattle.transaction.proofs.Lists.{up_done, any_hit, any_miss}
use Rattle.store.specs.declared.extents.StateExtents.{StateExtents}
use Rattle.store.specs.State.{tx_at}
use Rattle.store.specs.Extents.{no_extents, bare_state}
use Rattle.store.proofs.Bare.{listed_at}
use Rattle.store.proofs.Slots.{length_mapped}
use Rattle.store.proofs.extents.StateExtents.held.Goals as goal

-- element i, and the test on it
module _ (e : StateExtents) (i : ℕ) (h : i < e.counters.count) where
  abbrev t : Tx
  t = bare_tx (get_or (take e.counters.count e.txs) i no_extents)

  tested : (p : Tx → Bool) (r : Bool) → r ≡ p t → p (tx_at (bare_state e) i) ≡ r
  tested p r q = ap p (listed_at e e.counters.count i h) ∙ sym q

pub returns-then-holds_against : goal.returns-then-holds_against
returns-then-holds_against c =
    let a = c.args in
    let e = a.self in
    let i = c.loop-t.t-index in
    let h : i < e.counters.count = omega (arith, length-take e.counters.count e.txs) in
    let p = held_against a.writing a.id.0 a.addr a.len in
    sym (c.loop-t.invariant ∙ any_hit (tx_at (bare_state e)) _ _ h p (tested e i h p _ c.holds_against.ensures ∙ c.if-holds_against.true))

pub loop-t-preserved : goal.loop-t-preserved
loop-t-preserved c =
    let a = c.args in
    let e = a.self in
    let i = c.loop-t.t-index in
    let h : i < e.counters.count = omega (arith, length-take e.counters.count e.txs) in
    let p = held_against a.writing a.id.0 a.addr a.len in
    c.loop-t.invariant ∙ any_miss (tx_at (bare_state e)) _ _ h p (tested e i h p _ c.holds_against.ensures ∙ c.if-holds_against.false)

pub returns : goal.returns
returns c =
    let a = c.args in
    let e = a.self in
    let i = c.loop-t.t-index in
    let l : length e.txs ≡ 8 = search (rules, length_mapped) in
    let n : length (take e.counters.count e.txs) ≡ e.counters.count = length-take-le e.counters.count e.txs (omega (arith, l, c.requires.0)) in
    sym (c.loop-t.invariant ∙ ap (any (held_against a.writing a.id.0 a.addr a.len)) (up_done (tx_at (bare_state e)) e.counters.count i (omega (arith, n))))
