-- What number 2 asks of a transaction beyond the image rules: what it says of one, and what keeps it. The store rests on these laws, not on the
-- rule's parts.
use Prim.Native.Nat.{ℕ, ◌≤◌, ◌<◌}
use native.Mathlib.Omega.{arith}
use mathlib.Core.Bool.{Bool, true, false, cond, not, ◌&&◌, ◌||◌}
use mathlib.Core.List.{List, [], ◌∷◌, ◌++◌}
use mathlib.Core.Path.{◌≡◌, refl, sym, ap, ap₂, ◌∙◌, subst}
use lib.ListN.{length}
use lib.Dec.{eqb, leb}
use borrow.Author.Tests.{eq-eqb, eqb-true}
use Rattle.redolog.specs.declared.TxId.{TxId}
use Rattle.redolog.specs.declared.Csn.{Csn}
use Rattle.recovery.specs.Savepoint.{Savepoint}
use Rattle.redolog.specs.Record.{in_range}
use Rattle.redolog.proofs.Basics.{and_left, and_right, and_both}
use Rattle.transaction.specs.declared.Tx.{Tx}
use Rattle.transaction.specs.Flat.{empty_records}
use Rattle.transaction.specs.Lists.{every}
use Rattle.transaction.specs.View.{Range, range, range_at, ranges_of, reads_of, savepoints_of}
use Rattle.transaction.specs.Rules.{range_ok, records_ok, same_ranges, savepoints_ok, name_refused, redo_ok, extras_ok, state_ok}
use Rattle.transaction.specs.Steps.{pushed_range, fresh_tx, written, with_read, savepointed, precommitted}
use Rattle.transaction.proofs.Lists.{length_up}
use Rattle.transaction.proofs.RangeLaws.{counted, equal_ranges}
use Rattle.transaction.proofs.Pushed.{Sized, SizedRanges, pushed_count, ranges_pushed, pushed_ranges, one_more, ranges_self}
use Rattle.transaction.proofs.SavepointLaws.{SizedSavepoints, savepoints_set, later_rule, name_rule, place_fits}
use Rattle.transaction.proofs.SavepointLaws as laws

-- ---- what it says

module _ (t : Tx) (e : state_ok t ≡ true) where
  redo_rule : redo_ok t ≡ true
  unfolding state_ok
  redo_rule = and_left (redo_ok t) (extras_ok t) e

  extras_rule : extras_ok t ≡ true
  unfolding state_ok
  extras_rule = and_right (redo_ok t) (extras_ok t) e

  pub running_ranges : t.status ≡ 1 → ranges_of t.undo.ranges ≡ ranges_of t.redo.ranges
  running_ranges h = equal_ranges _ _ (rw (eq-eqb t.status 1 h) at redo_rule)

  abbrev kept : Bool
  kept = savepoints_ok t.undo.ranges.count (savepoints_of t)

  running_extras : t.status ≡ 1 → records_ok (reads_of t) && kept ≡ true
  running_extras h = rw (eq-eqb t.status 1 h) at extras_rule

  pub running_reads : t.status ≡ 1 → records_ok (reads_of t) ≡ true
  running_reads h = and_left (records_ok (reads_of t)) kept (running_extras h)

  pub running_savepoints : t.status ≡ 1 → savepoints_ok t.undo.ranges.count (savepoints_of t) ≡ true
  running_savepoints h = and_right (records_ok (reads_of t)) kept (running_extras h)

  pub few_reads : t.extras.reads.count ≤ 16
  few_reads = go (eqb t.status 1) extras_rule
    where
      go : (b : Bool) → cond b (records_ok (reads_of t) && kept) (eqb t.extras.reads.count 0 && eqb t.extras.savepoints.count 0) ≡ true
          → t.extras.reads.count ≤ 16
      go true q = counted t.extras.reads (and_left (records_ok (reads_of t)) kept q)
      go false q = omega (arith, eqb-true t.extras.reads.count 0 (and_left (eqb t.extras.reads.count 0) (eqb t.extras.savepoints.count 0) q))

  pub few_savepoints : t.extras.savepoints.count ≤ 4
  few_savepoints = go (eqb t.status 1) extras_rule
    where
      go : (b : Bool) → cond b (records_ok (reads_of t) && kept) (eqb t.extras.reads.count 0 && eqb t.extras.savepoints.count 0) ≡ true
          → t.extras.savepoints.count ≤ 4
      go true q = laws.few_savepoints t.extras.savepoints t.undo.ranges.count (and_right (records_ok (reads_of t)) kept q)
      go false q =
          omega (arith, eqb-true t.extras.savepoints.count 0 (and_right (eqb t.extras.reads.count 0) (eqb t.extras.savepoints.count 0) q))

-- ---- what keeps it

pub fresh_state : (id : TxId) → state_ok (fresh_tx id) ≡ true
unfolding state_ok fresh_tx empty_records savepoints_ok
fresh_state id = refl

pub precommitted_state_lem : (t : Tx) (n : Csn) → state_ok (precommitted t n) ≡ true
unfolding state_ok precommitted
precommitted_state_lem t n = refl

-- one read range more
pub read_state_lem : (t : Tx) (a n : ℕ) → SizedRanges t.extras.reads → t.extras.reads.count < 16 → in_range a n ≡ true → t.status ≡ 1
    → state_ok t ≡ true → state_ok (with_read t a n) ≡ true
unfolding state_ok with_read
read_state_lem t a n z c i h e =
    let reads = reads_of t in
    let ok = running_reads t e h in
    let few : length reads < 16 = omega (arith, length_up (range_at t.extras.reads) t.extras.reads.count 0, c) in
    let more = one_more reads a n few (and_right (leb (length reads) 16) (every range_ok reads) ok) i in
    let pushed : records_ok (ranges_of (pushed_range t.extras.reads a n)) ≡ true =
    subst (λ (rs : List Range). records_ok rs ≡ true) (sym (ranges_pushed t.extras.reads a n z c)) more in
    rw (redo_rule t e, eq-eqb t.status 1 h) (and_both _ _ pushed (running_savepoints t e h))

-- a savepoint set, which number 19 lets pass
pub savepoint_state_lem : (t : Tx) (name : ℕ) → SizedSavepoints t.extras.savepoints → name_refused name (savepoints_of t) ≡ false → t.status ≡ 1
    → state_ok t ≡ true → state_ok (savepointed t name) ≡ true
unfolding state_ok savepointed
savepoint_state_lem t name z q h e =
    let n = t.undo.ranges.count in
    let p = t.extras.savepoints in
    let ok = running_savepoints t e h in
    let moved : savepoints_ok n (savepoints_of (savepointed t name)) ≡ true =
    subst (λ (ps : List Savepoint). savepoints_ok n ps ≡ true) (sym (savepoints_set p name n z (place_fits p n name ok q)))
    (name_rule n (savepoints_of t) ok name q n (omega arith)) in
    rw (redo_rule t e, eq-eqb t.status 1 h) (and_both _ _ (running_reads t e h) moved)

-- ---- one write more

module _ (t : Tx) (a : ℕ) (old new : List ℕ) (zu : Sized t.undo) (zr : Sized t.redo) (cu : t.undo.ranges.count < 16)
    (cr : t.redo.ranges.count < 16) (l : length old ≡ length new) where
  pub written_undo : ranges_of (written t a old new).undo.ranges ≡ ranges_of t.undo.ranges ++ (range a (length new) ∷ [])
  unfolding written
  written_undo = pushed_ranges t.undo a old zu cu ∙ ap (λ (n : ℕ). ranges_of t.undo.ranges ++ (range a n ∷ [])) l

  pub written_redo : ranges_of (written t a old new).redo.ranges ≡ ranges_of t.redo.ranges ++ (range a (length new) ∷ [])
  unfolding written
  written_redo = pushed_ranges t.redo a new zr cr

  same_written : ranges_of t.undo.ranges ≡ ranges_of t.redo.ranges
      → same_ranges (ranges_of (written t a old new).undo.ranges) (ranges_of (written t a old new).redo.ranges) ≡ true
  same_written e =
      let us = ranges_of (written t a old new).undo.ranges in
      let q : us ≡ ranges_of (written t a old new).redo.ranges = written_undo ∙ ap (λ (rs : List Range). rs ++ (range a (length new) ∷ [])) e ∙ sym written_redo in
      subst (λ (rs : List Range). same_ranges us rs ≡ true) q (ranges_self us)

  -- a count that is not above the writes is not above one more
  extras_written : state_ok t ≡ true → extras_ok (written t a old new) ≡ true
  unfolding written
  extras_written e = go (eqb t.status 1) refl
    where
      none : Bool
      none = eqb t.extras.reads.count 0 && eqb t.extras.savepoints.count 0

      go : (b : Bool) → eqb t.status 1 ≡ b → cond b (records_ok (reads_of t) && savepoints_ok (written t a old new).undo.ranges.count (savepoints_of t)) none ≡ true
      go true q =
          let h = eqb-true t.status 1 q in
          and_both _ _ (running_reads t e h)
          (later_rule t.undo.ranges.count (savepoints_of t) (running_savepoints t e h) _ (omega (arith, pushed_count t.undo a old)))
      go false q = rw q at (extras_rule t e)

  pub written_state_lem : state_ok t ≡ true → state_ok (written t a old new) ≡ true
  unfolding state_ok written
  written_state_lem e = and_both _ _ (go (eqb t.status 1) refl) (extras_written e)
    where
      go : (b : Bool) → eqb t.status 1 ≡ b → not b || same_ranges (ranges_of (written t a old new).undo.ranges) (ranges_of (written t a old new).redo.ranges) ≡ true
      go true q = same_written (running_ranges t e (eqb-true t.status 1 q))
      go false q = refl

-- ---- transactions that show the same

module _ (t u : Tx) (s : t.status ≡ u.status) where
  redo_same : ranges_of t.undo.ranges ≡ ranges_of u.undo.ranges → (t.status ≡ 1 → ranges_of t.redo.ranges ≡ ranges_of u.redo.ranges)
      → redo_ok t ≡ redo_ok u
  redo_same undo redo =
      go (eqb t.status 1) refl ∙ ap (λ (n : ℕ). not (eqb n 1) || same_ranges (ranges_of u.undo.ranges) (ranges_of u.redo.ranges)) s
    where
      go : (b : Bool) → eqb t.status 1 ≡ b
          → not b || same_ranges (ranges_of t.undo.ranges) (ranges_of t.redo.ranges) ≡ not b || same_ranges (ranges_of u.undo.ranges) (ranges_of u.redo.ranges)
      go true e = ap₂ same_ranges undo (redo (eqb-true t.status 1 e))
      go false e = refl

  extras_same : t.undo.ranges.count ≡ u.undo.ranges.count → t.extras.reads.count ≡ u.extras.reads.count → reads_of t ≡ reads_of u
      → t.extras.savepoints.count ≡ u.extras.savepoints.count → savepoints_of t ≡ savepoints_of u → extras_ok t ≡ extras_ok u
  extras_same writes count reads names savepoints =
      ap (λ (n : ℕ). cond (eqb n 1) (records_ok (reads_of t) && savepoints_ok t.undo.ranges.count (savepoints_of t)) (eqb t.extras.reads.count 0 && eqb t.extras.savepoints.count 0)) s
      ∙ ap₂ (λ (a b : Bool). cond (eqb u.status 1) a b)
      (ap₂ (λ (a b : Bool). a && b) (ap records_ok reads) (ap₂ savepoints_ok writes savepoints))
      (ap₂ (λ (n k : ℕ). eqb n 0 && eqb k 0) count names)

  pub state_same : ranges_of t.undo.ranges ≡ ranges_of u.undo.ranges → (t.status ≡ 1 → ranges_of t.redo.ranges ≡ ranges_of u.redo.ranges)
      → t.extras.reads.count ≡ u.extras.reads.count → reads_of t ≡ reads_of u
      → t.extras.savepoints.count ≡ u.extras.savepoints.count → savepoints_of t ≡ savepoints_of u
      → state_ok t ≡ state_ok u
  unfolding state_ok
  state_same undo redo count reads names savepoints =
      let writes : t.undo.ranges.count ≡ u.undo.ranges.count =
      sym (length_up (range_at t.undo.ranges) t.undo.ranges.count 0) ∙ ap length undo ∙ length_up (range_at u.undo.ranges) u.undo.ranges.count 0 in
      ap₂ (λ (x y : Bool). x && y) (redo_same undo redo) (extras_same writes count reads names savepoints)
