use Rattle.std.proofs.Common.{◌≡◌, true, ℕ, suc, ◌+◌, ◌-◌, ◌*◌, ◌≤◌, ◌<◌, List, [], ◌∷◌, refl, length, get_or, take, drop, sym, ap, ap₂, ◌∙◌, arith, length-drop}
use Rattle.std.proofs.lemmas.List.Edits.{sets}
use Rattle.recovery.specs.Group.{Write}
use Rattle.recovery.specs.Replay.{redo_all, lay_bytes}
use Rattle.redolog.specs.Flat.{write_at}
use Rattle.transaction.specs.declared.records.Records.{Records}
use Rattle.transaction.specs.declared.Tx.{Tx}
use Rattle.transaction.specs.View.{range_at, ranges_of, written_by, savepoints_of}
use Rattle.transaction.specs.Rules.{records_ok, savepoints_ok, stood_at, later_ranges}
use Rattle.transaction.specs.Steps.{written, written_all, return_writes, gone_back}
use Rattle.transaction.proofs.Lists.{length_up}
use Rattle.transaction.proofs.RangeLaws.{counted, ranged}
use Rattle.transaction.proofs.Writes.{bytes_length}
use Rattle.transaction.proofs.SavepointLaws.{few_savepoints, stood_within}
use Rattle.transaction.proofs.Returning.{left, left_turn, left_done, written_counts}
use Rattle.transaction.proofs.Tx.go_back.Goals.{In-loop-k}
use Rattle.transaction.proofs.Tx.go_back.Goals as goal

-- ---- how many stay, and room for the others

kept_within : (t : Tx) (name n : ℕ) → savepoints_ok t.undo.ranges.count (savepoints_of t) ≡ true → n ≡ stood_at name t → n ≤ t.undo.ranges.count
kept_within t name n e s = omega (arith, s, stood_within t.extras.savepoints t.undo.ranges.count name e)

room : (t : Tx) (name n : ℕ) → t.undo.ranges.count + length (later_ranges name t) ≤ 16 → n ≡ stood_at name t
    → t.undo.ranges.count + (t.undo.ranges.count - n) ≤ 16
room t name n h s =
    omega (arith, length-drop (stood_at name t) (written_by t), length_up (range_at t.undo.ranges) t.undo.ranges.count 0, h, s)

-- ---- the record at hand in a turn: the newest of those left

-- its bytes where they are set aside
abbrev aside : Records → ℕ → List ℕ
aside r k = take (k * 32 + get_or r.ranges.len k 0 - k * 32) (drop (k * 32) r.bytes)

-- it keeps the range rule, and lies where it is set aside
record Placed (r : Records) (k : ℕ) : Type 0 where
  few : k < 16
  short : get_or r.ranges.len k 0 ≤ 32
  within : get_or r.ranges.addr k 0 + get_or r.ranges.len k 0 ≤ 4096
  inside : k * 32 + get_or r.ranges.len k 0 ≤ length r.bytes
  long : length (aside r k) ≡ get_or r.ranges.len k 0

placed : (r : Records) (k : ℕ) → records_ok (ranges_of r.ranges) ≡ true → k < r.ranges.count → length r.bytes ≡ 512 → Placed r k
placed r k ok h l =
    let n = get_or r.ranges.len k 0 in
    let few : k < 16 = omega (arith, counted r.ranges ok) in
    let g = ranged r.ranges ok k h in
    let e : k * 32 + n - k * 32 ≡ n = omega arith in
    record {
      few = few;
      short = g.1;
      within = g.2;
      inside = omega (arith, g.1);
      long = ap (λ (j : ℕ). length (take j (drop (k * 32) r.bytes))) e ∙ bytes_length r k l few g.1;
    }

-- it is written, and the others are left
turn : (r : Records) (n k : ℕ) (t u : Tx) (m v : List ℕ) → n < k
    → let a = get_or r.ranges.addr (k - 1) 0 in
    u ≡ written t a (take (length (aside r (k - 1))) (drop a m)) (aside r (k - 1)) → v ≡ sets m a (aside r (k - 1))
    → (written_all t m (left r.ranges r.bytes n k) ≡ written_all u v (left r.ranges r.bytes n (k - 1)))
    × (redo_all lay_bytes (left r.ranges r.bytes n k) m ≡ redo_all lay_bytes (left r.ranges r.bytes n (k - 1)) v)
turn r n k t u m v h e f =
    let i = k - 1 in
    let a = get_or r.ranges.addr i 0 in
    let l = get_or r.ranges.len i 0 in
    let long : l ≡ i * 32 + l - i * 32 = omega arith in
    let q : take l (drop (i * 32) r.bytes) ≡ aside r i = ap (λ (x : ℕ). take x (drop (i * 32) r.bytes)) long in
    let res = ap (λ (b : List ℕ). written t a (take (length b) (drop a m)) b) q ∙ sym e in
    let mem = ap (λ (b : List ℕ). sets m a b) q ∙ sym f in
    let whole : k ≡ n + suc (i - n) = omega arith in
    let rest : n + (i - n) ≡ i = omega arith in
    let ws = ap (left r.ranges r.bytes n) whole
    ∙ left_turn r.ranges r.bytes n (i - n)
    ∙ ap (λ (x : ℕ). write_at r.ranges.addr r.ranges.len r.bytes x ∷ left r.ranges r.bytes n x) rest in (
      ap (written_all t m) ws ∙ ap₂ (λ (x : Tx) (b : List ℕ). written_all x b (left r.ranges r.bytes n i)) res mem,
      ap (λ (xs : List Write). redo_all lay_bytes xs m) ws ∙ ap (λ (b : List ℕ). redo_all lay_bytes (left r.ranges r.bytes n i) b) mem,
    )

-- ---- before the loop

pub stood-kept-requires : goal.stood-kept-requires
stood-kept-requires c = few_savepoints c.args.self.extras.savepoints _ c.requires.self_value.0

pub loop-k-init : goal.loop-k-init
loop-k-init c =
    record {
      in_range = kept_within c.args.self c.args.name _ c.requires.self_value.0 c.stood-kept.ensures;
      undo_count = refl;
      redo_count = omega (arith, c.requires.ranges_value.1);
      records = refl;
      bytes = refl;
    }

-- ---- a turn

at_hand : (c : In-loop-k) → Placed c.args.self.undo (c.loop-k.k - 1)
at_hand c = placed c.args.self.undo _ c.requires.ranges_value.0 (omega arith) (omega (arith, c.well_formed))

pub slice_bounds-lay-end : goal.slice_bounds-lay-end
slice_bounds-lay-end c = omega (arith, (at_hand (goal.at.slice_bounds-lay-end c).In-loop-k).inside)

pub lay-t-requires-clause-in_range : goal.lay-t-requires-clause-in_range
lay-t-requires-clause-in_range c =
    let h = at_hand (goal.at.lay-t-requires-clause-in_range c).In-loop-k in
    (omega (arith, h.long, h.short), omega (arith, h.long, h.within))

pub lay-t-requires-clause-count_lt_max_records : goal.lay-t-requires-clause-count_lt_max_records
lay-t-requires-clause-count_lt_max_records c =
    let r = room c.args.self c.args.name _ c.requires.self_value.1 c.stood-kept.ensures in
    (omega (arith, r), omega (arith, r))

pub loop-k-preserved : goal.loop-k-preserved
loop-k-preserved c =
    let v = c.loop-k.invariant in
    let r = c.args.self.undo in
    let k = c.loop-k.k in
    let a = get_or r.ranges.addr (k - 1) 0 in
    let y = c.lay-t.ensures in
    let next = turn r c.stood-kept.result k c.loop-k.t c.lay-t.result c.loop-k.memory c.lay-t.new.memory (omega arith) y.value y.memory_after in
    let more = written_counts c.loop-k.t a (take (length (aside r (k - 1))) (drop a c.loop-k.memory)) (aside r (k - 1)) in
    record {
      in_range = omega arith;
      undo_count = omega (arith, ap (λ (u : Tx). u.undo.ranges.count) y.value, more.0);
      redo_count = omega (arith, ap (λ (u : Tx). u.redo.ranges.count) y.value, more.1);
      records = v.records ∙ next.0;
      bytes = v.bytes ∙ next.1;
    }

-- ---- at the end every later record has been written

-- the later ones are all that the loop began with
all_left : (t : Tx) (name n : ℕ) → n ≡ stood_at name t → return_writes t name ≡ left t.undo.ranges t.undo.bytes n t.undo.ranges.count
all_left t name n s = ap (λ (j : ℕ). left t.undo.ranges t.undo.bytes j t.undo.ranges.count) (sym s)

-- and none is left
none_left : (t : Tx) (n k : ℕ) → n ≤ k → k ≤ n → left t.undo.ranges t.undo.bytes n k ≡ []
none_left t n k h g = let z : k ≡ n = omega arith in ap (left t.undo.ranges t.undo.bytes n) z ∙ left_done t.undo.ranges t.undo.bytes n

pub returns-clause-value : goal.returns-clause-value
unfolding gone_back
returns-clause-value c =
    let t = c.args.self in
    let v = c.loop-k.invariant in
    sym
    (ap (written_all t c.args.memory.now) (all_left t c.args.name _ c.stood-kept.ensures) ∙ v.records
    ∙ ap (written_all c.loop-k.t c.loop-k.memory) (none_left t c.stood-kept.result c.loop-k.k v.in_range (omega arith)))

pub returns-clause-memory_after : goal.returns-clause-memory_after
returns-clause-memory_after c =
    let t = c.args.self in
    let v = c.loop-k.invariant in
    sym
    (ap (λ (ws : List Write). redo_all lay_bytes ws c.args.memory.now) (all_left t c.args.name _ c.stood-kept.ensures) ∙ v.bytes
    ∙ ap (λ (ws : List Write). redo_all lay_bytes ws c.loop-k.memory) (none_left t c.stood-kept.result c.loop-k.k v.in_range (omega arith)))
