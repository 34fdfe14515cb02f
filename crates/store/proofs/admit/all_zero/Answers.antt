use Rattle.std.proofs.Common.{◌≡◌, ◌+◌, ◌*◌, ◌/◌, ◌<◌, ◌&&◌, ℕ, Bool, [], List, length, get_or, drop, arith, sym, ap, ◌∙◌}
use Rattle.std.specs.Simd.{first_chunks}
use Rattle.store.specs.Rules.{all_zero}
use Rattle.store.proofs.Zeros.{zeros_chunk}
use Rattle.store.proofs.admit.all_zero.Goals as goal

-- what the test of a part says of it and of what comes after it
tested : (s : List ℕ) (k i : ℕ) → i < k → (parts : List (List ℕ)) → parts ≡ first_chunks 512 k s → (r : Bool) → r ≡ all_zero (get_or parts i [])
    → all_zero (drop (i * 512) s) ≡ (r && all_zero (drop ((i + 1) * 512) s))
tested s k i h parts e r q =
    zeros_chunk 512 k i s h ∙ ap (λ (b : Bool). b && all_zero (drop ((i + 1) * 512) s)) (sym (q ∙ ap (λ (l : List (List ℕ)). all_zero (get_or l i [])) e))

pub returns-then-not-zero_part : goal.returns-then-not-zero_part
returns-then-not-zero_part c =
    let s = c.args.s.now in
    let i = c.loop-part.part-index in
    let a = c.as_chunks.ensures in
    let h : i < length s / 512 = omega (arith, a.front_len) in
    sym (c.loop-part.invariant ∙ tested s _ i h _ a.front _ c.zero_part.ensures ∙ ap (λ (b : Bool). b && all_zero (drop ((i + 1) * 512) s)) c.if-not-zero_part.true)

pub loop-part-preserved : goal.loop-part-preserved
loop-part-preserved c =
    let s = c.args.s.now in
    let i = c.loop-part.part-index in
    let a = c.as_chunks.ensures in
    let h : i < length s / 512 = omega (arith, a.front_len) in
    c.loop-part.invariant ∙ tested s _ i h _ a.front _ c.zero_part.ensures ∙ ap (λ (b : Bool). b && all_zero (drop ((i + 1) * 512) s)) c.if-not-zero_part.false
