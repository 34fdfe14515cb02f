-- What a call knows once no number refuses it: a record for each, by the one law that takes the call's list of checks apart.
use Prim.Native.Nat.{ℕ, ◌+◌, ◌≤◌, ◌<◌}
use native.Mathlib.Omega.{arith}
use mathlib.Core.Bool.{true, false}
use mathlib.Core.List.{List, [], ◌∷◌, ◌++◌}
use mathlib.Core.Path.{◌≡◌, refl, sym, ap, ◌∙◌, subst}
use lib.ListN.{length}
use lib.Dec.{eqb, ltb}
use borrow.Author.Tests.{eq-eqb, eqb-false, ltb-false, not-false}
use Rattle.recovery.specs.Lists.{any}
use Rattle.recovery.proofs.Bool.{or_left, or_right}
use Rattle.redolog.specs.declared.TxId.{TxId}
use Rattle.transaction.specs.declared.ranges.Ranges.{Ranges}
use Rattle.transaction.specs.Lists.{sum_of}
use Rattle.transaction.specs.View.{Range, range_at, ranges_of, savepoints_of}
use Rattle.transaction.specs.Rules.{records_ok, reading, writing, held_against, ranges_size, room_of, savepoints_ok, name_refused, is_set, later_ranges}
use Rattle.transaction.proofs.Lists.{length_up}
use Rattle.transaction.proofs.RangeLaws.{counted}
use Rattle.transaction.proofs.StateRule.{few_reads, running_savepoints}
use Rattle.image.proofs.Rules.{image_count, undo_at_lem}
use Rattle.store.specs.declared.State.{State}
use Rattle.store.specs.State.{txs_of, slot_of, image_of}
use Rattle.store.specs.Rules.{tail_length, room_used}
use Rattle.store.specs.Numbers.{Check, first_number, number_by, tx_of, check8, check9, check10, check12, check13, check15, check16, check18, check19, return_check10, return_check13, begin_checks, range_checks, abort_checks, settle_checks}
use Rattle.store.specs.Calls.{begin_number, write_number, read_number, answer_number, savepoint_number, go_back_number, precommit_number, abort_number, settle_number}
use Rattle.store.proofs.Checks.{passed}
use Rattle.store.proofs.Fits.{Fit, rule_at, status_at, redo_at, room_at}
use Rattle.store.proofs.Admitting.{unrefused}
use Rattle.store.proofs.Choosing.{listed_by_6, Ranged, ranged_by_8}
use Rattle.store.proofs.Stepping.{same_or_other}

pub same_count : (u r : Ranges) → ranges_of u ≡ ranges_of r → u.count ≡ r.count
same_count u r e = sym (length_up (range_at u) u.count 0) ∙ ap length e ∙ length_up (range_at r) r.count 0

-- 1, 2, 11, 12 and 13
pub record BeginPassed (s : State) (t : List ℕ) : Type 0 where
  pub fits : Fit s t
  pub free : s.count < 8
  pub unspent : s.lastid.0 ≡ 65535 → ⊥
  pub room : room_used s t + 8 ≤ 16384

-- 1, 2, 6 and 7: abort's own, and what write, read and precommit begin with
pub record RunningPassed (s : State) (m t : List ℕ) (id : ℕ) : Type 0 where
  pub memory : length m ≡ 4096
  pub tail : length t ≡ 16384
  pub fits : Fit s t
  pub few : s.count ≤ 8
  pub listed : slot_of s id < s.count
  pub named : (tx_of s id).id.0 ≡ id
  pub status : (tx_of s id).status ≡ 1
  pub same : ranges_of (tx_of s id).undo.ranges ≡ ranges_of (tx_of s id).redo.ranges
  pub undo : records_ok (ranges_of (tx_of s id).undo.ranges) ≡ true
  pub redo : records_ok (ranges_of (tx_of s id).redo.ranges) ≡ true
  pub room : tail_length s.ondisk.0 t + ranges_size (ranges_of (tx_of s id).redo.ranges) + 8 ≤ 16384

-- these, 8 and 9
pub record ReadPassed (s : State) (m t : List ℕ) (id a n : ℕ) : Type 0 where
  pub runs : RunningPassed s m t id
  pub range : Ranged a n
  pub free : any (held_against reading id a n) (txs_of s) ≡ false

-- these and 15: read's sister
pub record AnswerPassed (s : State) (m t : List ℕ) (id a n : ℕ) : Type 0 where
  pub read : ReadPassed s m t id a n
  pub reads : (tx_of s id).extras.reads.count < 16

-- these, 8, 16, 9, 10 and 13
pub record WritePassed (s : State) (m t : List ℕ) (id a n : ℕ) : Type 0 where
  pub runs : RunningPassed s m t id
  pub range : Ranged a n
  pub free : any (held_against writing id a n) (txs_of s) ≡ false
  pub undo : (tx_of s id).undo.ranges.count < 16
  pub redo : (tx_of s id).redo.ranges.count < 16
  pub room : room_used s t + (7 + n) ≤ 16384

-- these and 19
pub record SavepointPassed (s : State) (m t : List ℕ) (id name : ℕ) : Type 0 where
  pub runs : RunningPassed s m t id
  pub saved : savepoints_ok (tx_of s id).undo.ranges.count (savepoints_of (tx_of s id)) ≡ true
  pub given : name_refused name (savepoints_of (tx_of s id)) ≡ false

-- these, 18, and 10 and 13 on the totals
pub record GoBackPassed (s : State) (m t : List ℕ) (id name : ℕ) : Type 0 where
  pub runs : RunningPassed s m t id
  pub saved : savepoints_ok (tx_of s id).undo.ranges.count (savepoints_of (tx_of s id)) ≡ true
  pub set : is_set name (savepoints_of (tx_of s id)) ≡ true
  pub records : (tx_of s id).undo.ranges.count + length (later_ranges name (tx_of s id)) ≤ 16
  pub room : room_used s t + ranges_size (later_ranges name (tx_of s id)) ≤ 16384

-- these and 12
pub record PrecommitPassed (s : State) (m t : List ℕ) (id : ℕ) : Type 0 where
  pub runs : RunningPassed s m t id
  pub unspent : s.assigned.0 ≡ 4294967295 → ⊥

-- 1, 2, 6 and 14
pub record SettlePassed (s : State) (t : List ℕ) (id : ℕ) : Type 0 where
  pub fits : Fit s t
  pub few : s.count ≤ 8
  pub listed : slot_of s id < s.count
  pub named : (tx_of s id).id.0 ≡ id
  pub status : (tx_of s id).status ≡ 2
  pub stored : (tx_of s id).csn.0 ≤ s.ondisk.0

module _ (s : State) (m t : List ℕ) where
  pub begin_passed : begin_number s m t ≡ 0 → BeginPassed s t
  begin_passed e =
      let cs = begin_checks s.count s.lastid.0 (room_used s t) in
      let x = unrefused s (length m) t cs e in
      let p = (passed cs [] refl x.own).0 in
      record {
        fits = x.fits;
        free = omega (arith, image_count (image_of s) x.fits.image, eqb-false s.count 8 p.0);
        unspent = eqb-false _ _ p.1.0;
        room = ltb-false _ _ p.1.1.0;
      }

  module _ (id : TxId) where
    -- 6 and 7 come first, whatever the call checks besides
    running_passed : (cs : List Check) → number_by s (length m) t (abort_checks s id.0 ++ cs) ≡ 0 → RunningPassed s m t id.0 × (first_number cs ≡ 0)
    running_passed cs e =
        let i = id.0 in
        let k = slot_of s i in
        let x = unrefused s (length m) t (abort_checks s i ++ cs) e in
        let f = x.fits in
        let p = passed (abort_checks s i) cs refl x.own in
        let l = listed_by_6 s i p.0.0 in
        let one : (tx_of s i).status ≡ 1 = status_at s t f k l.0 (eqb-false _ _ p.0.1.0) in
        let same = redo_at s t f k l.0 one in
        let u = undo_at_lem (image_of s) f.image k l.0 in
        let r : ranges_size (ranges_of (tx_of s i).redo.ranges) + 8 ≤ sum_of room_of (txs_of s) = rw (eq-eqb (tx_of s i).status 1 one) at (room_at s t f k l.0) in (
          record {
            memory = x.memory;
            tail = x.tail;
            fits = f;
            few = image_count (image_of s) f.image;
            listed = l.0;
            named = l.1;
            status = one;
            same = same;
            undo = u;
            redo = subst (λ (rs : List Range). records_ok rs ≡ true) same u;
            room = omega (arith, r, f.room);
          },
          p.1,
        )

    pub abort_passed : abort_number s m t id ≡ 0 → RunningPassed s m t id.0
    abort_passed e = (running_passed [] e).0

    pub precommit_passed : precommit_number s m t id ≡ 0 → PrecommitPassed s m t id.0
    precommit_passed e =
        let cs = check12 s ∷ [] in
        let p = running_passed cs e in
        record { runs = p.0; unspent = eqb-false _ _ (passed cs [] refl p.1).0.0 }

    pub savepoint_passed : (name : ℕ) → savepoint_number s m t id name ≡ 0 → SavepointPassed s m t id.0 name
    savepoint_passed name e =
        let cs = check19 s id.0 name ∷ [] in
        let p = running_passed cs e in
        let r = p.0 in
        record {
          runs = r;
          saved = running_savepoints (tx_of s id.0) (rule_at s t r.fits (slot_of s id.0) r.listed) r.status;
          given = (passed cs [] refl p.1).0.0;
        }

    pub go_back_passed : (name : ℕ) → go_back_number s m t id name ≡ 0 → GoBackPassed s m t id.0 name
    go_back_passed name e =
        let cs = check18 s id.0 name ∷ return_check10 s id.0 name ∷ return_check13 s (room_used s t) id.0 name ∷ [] in
        let p = running_passed cs e in
        let r = p.0 in
        let q = (passed cs [] refl p.1).0 in
        record {
          runs = r;
          saved = running_savepoints (tx_of s id.0) (rule_at s t r.fits (slot_of s id.0) r.listed) r.status;
          set = not-false _ q.0;
          records = ltb-false _ _ q.1.0;
          room = ltb-false _ _ q.1.1.0;
        }

    module _ (a n : ℕ) where
      -- then 8, whatever the call checks besides
      range_passed : (cs : List Check) → number_by s (length m) t (range_checks s id.0 a n ++ cs) ≡ 0
          → RunningPassed s m t id.0 × Ranged a n × (first_number cs ≡ 0)
      range_passed cs e =
          let p = running_passed (check8 a n ∷ cs) e in
          let q = passed (check8 a n ∷ []) cs refl p.1 in
          (p.0, ranged_by_8 a n q.0.0, q.1)

      pub read_passed : read_number s m t id a n ≡ 0 → ReadPassed s m t id.0 a n
      read_passed e =
          let cs = check9 s reading id.0 a n ∷ [] in
          let p = range_passed cs e in
          record { runs = p.0; range = p.1; free = (passed cs [] refl p.2).0.0 }

      pub answer_passed : answer_number s m t id a n ≡ 0 → AnswerPassed s m t id.0 a n
      answer_passed e =
          let x = tx_of s id.0 in
          let cs = check9 s reading id.0 a n ∷ check15 s id.0 ∷ [] in
          let p = range_passed cs e in
          let r = p.0 in
          let q = (passed cs [] refl p.2).0 in
          record {
            read = record { runs = r; range = p.1; free = q.0 };
            reads =
                omega (arith, few_reads x (rule_at s t r.fits (slot_of s id.0) r.listed), eqb-false x.extras.reads.count 16 q.1.0);
          }

      pub write_passed : write_number s m t id a n ≡ 0 → WritePassed s m t id.0 a n
      write_passed e =
          let x = tx_of s id.0 in
          let cs = check16 a n ∷ check9 s writing id.0 a n ∷ check10 s id.0 ∷ check13 (room_used s t) n ∷ [] in
          let p = range_passed cs e in
          let r = p.0 in
          let q = (passed cs [] refl p.2).0 in
          let few : x.undo.ranges.count < 16 = omega (arith, counted x.undo.ranges r.undo, eqb-false x.undo.ranges.count 16 q.1.1.0) in
          record {
            runs = r;
            range = p.1;
            free = q.1.0;
            undo = few;
            redo = omega (arith, few, same_count x.undo.ranges x.redo.ranges r.same);
            room = ltb-false _ _ q.1.1.1.0;
          }

    pub settle_passed : settle_number s m t id ≡ 0 → SettlePassed s t id.0
    settle_passed e =
        let x = unrefused s (length m) t (settle_checks s id.0) e in
        let p = (passed (settle_checks s id.0) [] refl x.own).0 in
        let l = listed_by_6 s id.0 p.0 in
        let one = eqb (tx_of s id.0).status 1 in
        let late = ltb s.ondisk.0 (tx_of s id.0).csn.0 in
        record {
          fits = x.fits;
          few = image_count (image_of s) x.fits.image;
          listed = l.0;
          named = l.1;
          status =
              same_or_other (tx_of s id.0).status 2 (λ q. q)
              (λ q. absurd (eqb-false _ _ (or_left one late p.1.0) (status_at s t x.fits (slot_of s id.0) l.0 q)));
          stored = ltb-false _ _ (or_right one late p.1.0);
        }
