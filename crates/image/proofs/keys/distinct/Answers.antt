use Rattle.std.proofs.Common.{◌≡◌, Bool, not, ◌&&◌, ◌+◌, ◌<◌, ◌-◌, ℕ, List, length, take, drop, map, get_or, sym, ◌∙◌, add-one, refl, arith}
use Rattle.std.proofs.Math.Seq.{drop-cons}
use Rattle.std.proofs.Math.ListN.{length-drop}
use Rattle.std.proofs.lemmas.List.{take_all}
use Rattle.recovery.specs.Lists.{any}
use Rattle.image.specs.declared.read.TxHead.{TxHead}
use Rattle.image.specs.Keys.{no_head, outline_by}
use Rattle.image.specs.Rules.{alike_to, distinct}
use Rattle.image.proofs.keys.distinct.Goals as goal

-- a turn: the one at i against those after it
module _ (hs : List TxHead) (i : ℕ) (h : i < length hs) (b : Bool)
    (e : b ≡ any (alike_to (outline_by (get_or hs i no_head))) (map outline_by (take (length hs - (i + 1)) (drop (i + 1) hs)))) where
  turn : distinct (map outline_by (drop i hs)) ≡ not b && distinct (map outline_by (drop (i + 1) hs))
  turn =
      let all : take (length hs - (i + 1)) (drop (i + 1) hs) ≡ drop (i + 1) hs = take_all _ _ (rw length-drop (omega arith)) in
      rw (e, all, drop-cons hs i no_head h) (rw add-one refl)

pub returns-then-any_alike : goal.returns-then-any_alike
returns-then-any_alike c = sym (c.loop-i.invariant ∙ turn c.args.txs.now c.loop-i.i c.loop-i-test.true _ c.any_alike.ensures ∙ rw c.if-any_alike.true)

pub loop-i-preserved : goal.loop-i-preserved
loop-i-preserved c = c.loop-i.invariant ∙ turn c.args.txs.now c.loop-i.i c.loop-i-test.true _ c.any_alike.ensures ∙ rw c.if-any_alike.false
