use Rattle.std.proofs.Common.{◌≡◌, ℕ, ◌+◌, ◌-◌, ◌*◌, ◌≤◌, ◌<◌, true, length, get_or, take, drop, length-drop, ◌∙◌, arith, rules}
use Rattle.std.proofs.lemmas.List.{length-take-le}
use Rattle.transaction.specs.declared.records.Records.{Records}
use Rattle.transaction.specs.View.{ranges_of}
use Rattle.transaction.specs.Rules.{records_ok}
use Rattle.transaction.proofs.RangeLaws.{counted, ranged}
use Rattle.image.proofs.Writings.{undo_size_lem, undo_turn}
use Rattle.image.proofs.write.put_undos.Goals as goal

-- a record of a list that keeps the rules lies within the place set aside for it, and so does what is lent of it
record Placed (r : Records) (i : ℕ) : Type 0 where
  pub few : i < 16
  pub short : get_or r.ranges.len i 0 ≤ 32
  pub aside : i * 32 + get_or r.ranges.len i 0 ≤ length r.bytes
  pub lent : length (take (i * 32 + get_or r.ranges.len i 0 - i * 32) (drop (i * 32) r.bytes)) ≡ i * 32 + get_or r.ranges.len i 0 - i * 32

placed : (r : Records) (i : ℕ) → records_ok (ranges_of r.ranges) ≡ true → length r.bytes ≡ 512 → i < r.ranges.count → Placed r i
placed r i e l h =
    let n = counted r.ranges e in
    let g = ranged r.ranges e i h in
    let s = g.1 in
    let aside : i * 32 + get_or r.ranges.len i 0 ≤ length r.bytes = omega arith in
    record {
      few = omega arith;
      short = s;
      aside = aside;
      lent = length-take-le _ _ (rw length-drop (omega arith));
    }

pub slice_bounds-put_undo-end : goal.slice_bounds-put_undo-end
slice_bounds-put_undo-end c =
    let h = placed c.args.undo c.loop-i.i c.requires.ranges_value (search rules) c.loop-i-test.true in
    omega (arith, h.aside)

pub put_undo-requires-clause-src_in_bounds : goal.put_undo-requires-clause-src_in_bounds
put_undo-requires-clause-src_in_bounds c =
    let r = c.args.undo in
    let h = placed r c.loop-i.i c.requires.ranges_value (search rules) c.loop-i-test.true in
    let z = undo_size_lem r.ranges.addr r.ranges.len r.bytes r.ranges.count c.loop-i.i c.loop-i-test.true h.lent in
    omega (arith, h.lent, z, c.loop-i.invariant.size, c.requires.undo_in_bounds)

pub loop-i-preserved : goal.loop-i-preserved
loop-i-preserved c =
    let r = c.args.undo in
    let l = c.loop-i in
    let h = placed r l.i c.requires.ranges_value (search rules) c.loop-i-test.true in
    let z = undo_size_lem r.ranges.addr r.ranges.len r.bytes r.ranges.count l.i c.loop-i-test.true h.lent in
    let t = undo_turn r.ranges.addr r.ranges.len r.bytes r.ranges.count l.i c.loop-i-test.true h.lent l.o l.b c.put_undo.new.b c.put_undo.ensures in
    record { size = omega (arith, z, l.invariant.size); same = l.invariant.same ∙ t }
