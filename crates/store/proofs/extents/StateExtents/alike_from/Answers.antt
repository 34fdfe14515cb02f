use Rattle.std.proofs.Common.{arith, rules, ◌≡◌, ◌+◌, ◌-◌, ◌<◌, ℕ, Bool, [], take, drop, get_or, length, length-take, length-take-le, length-drop, sym, ap, ◌∙◌}
use Rattle.std.proofs.lemmas.List.{get_or-take, get_or-drop}
use Rattle.recovery.specs.Lists.{any}
use Rattle.transaction.specs.Lists.{up_from}
use Rattle.transaction.specs.declared.Tx.{Tx}
use Rattle.transaction.specs.declared.Key.{Key}
use Rattle.transaction.specs.View.{outline, outline_of, bare_tx}
use Rattle.transaction.specs.Rules.{alike}
use Rattle.transaction.proofs.Lists.{up_done, any_hit, any_miss}
use Rattle.store.specs.declared.extents.StateExtents.{StateExtents}
use Rattle.store.specs.State.{outline_at}
use Rattle.store.specs.Extents.{no_extents, bare_state}
use Rattle.store.proofs.Bare.{bare_at}
use Rattle.store.proofs.Slots.{length_mapped}
use Rattle.store.proofs.extents.StateExtents.alike_from.Goals as goal

-- what is compared is the key of the transaction in slot i + j
compared : (e : StateExtents) (id csn i j : ℕ) → j < e.counters.count - i → (k : Key)
    → (let x = get_or (take (e.counters.count - i) (drop i e.txs)) j no_extents in k ≡ record { id = x.id; csn = x.csn })
    → (r : Bool) → r ≡ alike id csn (outline k.id.0 0 k.csn.0 []) → alike id csn (outline_at (bare_state e) (i + j)) ≡ r
compared e id csn i j h k p r q =
    let d = get_or-take (e.counters.count - i) (drop i e.txs) j no_extents h ∙ get_or-drop i e.txs j no_extents in
    ap (λ (t : Tx). alike id csn (outline_of t)) (bare_at e (i + j) ∙ ap bare_tx (sym d))
    ∙ ap (λ (k : Key). alike id csn (outline k.id.0 0 k.csn.0 [])) (sym p)
    ∙ sym q

pub returns-then-alike : goal.returns-then-alike
returns-then-alike c =
    let a = c.args in
    let e = a.self in
    let k = c.loop-t.t-index in
    let h : k < e.counters.count - a.i = omega (arith, length-take (e.counters.count - a.i) (drop a.i e.txs)) in
    let p = compared e a.key.id.0 a.key.csn.0 a.i k h _ c.key.ensures _ c.alike.ensures ∙ c.if-alike.true in
    sym (c.loop-t.invariant ∙ any_hit (outline_at (bare_state e)) _ _ (omega (arith, h)) (alike _ _) p)

pub loop-t-preserved : goal.loop-t-preserved
loop-t-preserved c =
    let a = c.args in
    let e = a.self in
    let k = c.loop-t.t-index in
    let h : k < e.counters.count - a.i = omega (arith, length-take (e.counters.count - a.i) (drop a.i e.txs)) in
    let p = compared e a.key.id.0 a.key.csn.0 a.i k h _ c.key.ensures _ c.alike.ensures ∙ c.if-alike.false in
    let z : a.i + k + 1 ≡ a.i + (k + 1) = omega arith in
    c.loop-t.invariant
    ∙ any_miss (outline_at (bare_state e)) _ _ (omega (arith, h)) (alike _ _) p
    ∙ ap (λ (j : ℕ). any (alike a.key.id.0 a.key.csn.0) (up_from (outline_at (bare_state e)) (e.counters.count - j) j)) z

pub returns : goal.returns
returns c =
    let a = c.args in
    let e = a.self in
    let k = c.loop-t.t-index in
    let l : length e.txs ≡ 8 = search (rules, length_mapped) in
    let d = length-drop a.i e.txs in
    let n : length (take (e.counters.count - a.i) (drop a.i e.txs)) ≡ e.counters.count - a.i = length-take-le (e.counters.count - a.i) (drop a.i e.txs) (omega (arith, l, d, c.requires.0, c.requires.1)) in
    sym (c.loop-t.invariant ∙ ap (any (alike a.key.id.0 a.key.csn.0)) (up_done (outline_at (bare_state e)) e.counters.count (a.i + k) (omega (arith, n))))
