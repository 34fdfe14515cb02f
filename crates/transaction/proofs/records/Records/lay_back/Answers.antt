use Rattle.std.proofs.Common.{◌≡◌, ℕ, suc, ◌+◌, ◌-◌, ◌*◌, ◌≤◌, ◌<◌, true, List, get_or, take, drop, length-take, sym, ap, ◌∙◌, arith}
use Rattle.std.proofs.lemmas.List.Edits.{sets}
use Rattle.recovery.specs.Replay.{undo_all, lay_bytes}
use Rattle.redolog.specs.Flat.{write_at, writes_from}
use Rattle.transaction.specs.declared.records.Records.{Records}
use Rattle.transaction.specs.View.{ranges_of}
use Rattle.transaction.specs.Rules.{records_ok}
use Rattle.transaction.proofs.RangeLaws.{counted, ranged}
use Rattle.transaction.proofs.Writes.{undo_turn}
use Rattle.transaction.proofs.records.Records.lay_back.Goals as goal

-- a record is one of 16 at most, and keeps the range rule
record Placed (at n i : ℕ) : Type 0 where
  pub few : i < 16
  pub short : n ≤ 32
  pub within : at + n ≤ 4096

placed : (r : Records) → records_ok (ranges_of r.ranges) ≡ true → (k : ℕ) → k < r.ranges.count → Placed (get_or r.ranges.addr k 0) (get_or r.ranges.len k 0) k
placed r e k h =
    let g = ranged r.ranges e k h in
    record { few = omega (arith, counted r.ranges e, h); short = g.1; within = g.2 }

-- laying it is what the copy of its bytes does
laid : (r : Records) (k : ℕ) (m n : List ℕ)
    → n ≡ sets m (get_or r.ranges.addr k 0) (take (k * 32 + get_or r.ranges.len k 0 - k * 32) (drop (k * 32) r.bytes))
    → undo_all lay_bytes (writes_from r.ranges.addr r.ranges.len r.bytes k 0) (lay_bytes (write_at r.ranges.addr r.ranges.len r.bytes k) m)
    ≡ undo_all lay_bytes (writes_from r.ranges.addr r.ranges.len r.bytes k 0) n
laid r k m n h =
    let e : k * 32 + get_or r.ranges.len k 0 - k * 32 ≡ get_or r.ranges.len k 0 = omega arith in
    ap (undo_all lay_bytes (writes_from r.ranges.addr r.ranges.len r.bytes k 0))
    (sym (h ∙ ap (λ (j : ℕ). sets m (get_or r.ranges.addr k 0) (take j (drop (k * 32) r.bytes))) e))

pub bounds-ranges-k : goal.bounds-ranges-k
bounds-ranges-k c = omega (arith, counted c.args.self.ranges c.requires)

pub bounds-ranges-k-in-loop-k : goal.bounds-ranges-k-in-loop-k
bounds-ranges-k-in-loop-k c = omega (arith, counted c.args.self.ranges c.requires)

pub slice_bounds-copy-end-in-loop-k : goal.slice_bounds-copy-end-in-loop-k
slice_bounds-copy-end-in-loop-k c =
    let r = c.args.self in
    let h = placed r c.requires (c.loop-k.k - 1) (omega arith) in
    omega (arith, h.few, h.short, c.well_formed)

pub copy-requires : goal.copy-requires
copy-requires c =
    let h = placed c.args.self c.requires (c.loop-k.k - 1) (omega arith) in
    omega (arith, length-take {A = ℕ}, h.within)

pub loop-k-preserved : goal.loop-k-preserved
loop-k-preserved c =
    let k = c.loop-k.k - 1 in
    let h : c.loop-k.k ≡ suc k = omega arith in
    c.loop-k.invariant ∙ undo_turn _ _ _ _ _ _ h ∙ laid c.args.self k c.loop-k.memory c.copy.new.b c.copy.ensures
