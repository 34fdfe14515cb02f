-- Laws of the image rules: what each test of the code decides, and what an image that keeps them has.
use Prim.Native.Nat.{ℕ, zero, suc, ◌+◌, ◌-◌, ◌≤◌, ◌<◌}
use native.Mathlib.Omega.{arith}
use mathlib.Core.Bool.{Bool, true, false, ◌&&◌, not}
use mathlib.Core.List.{List}
use mathlib.Core.Path.{◌≡◌, refl, sym, ap, ◌∙◌, subst}
use lib.ListN.{length}
use lib.Dec.{eqb, leb}
use borrow.Author.Tests.{leb-true, eqb-true, eqb-false, not-true}
use Rattle.recovery.specs.Lists.{any}
use Rattle.recovery.proofs.Lists.{none_any}
use Rattle.redolog.proofs.Basics.{and_left, and_right}
use Rattle.transaction.specs.declared.Tx.{Tx}
use Rattle.transaction.specs.Lists.{up_from, every}
use Rattle.transaction.specs.View.{Outline, ranges_of}
use Rattle.transaction.specs.Rules.{head_ok, records_ok, outline_ok, alike}
use Rattle.transaction.proofs.Lists.{length_up, all_at, up_turn, every_at}
use Rattle.transaction.proofs.Heads.{Ruled, head_rules}
use Rattle.image.specs.declared.Image.{Image}
use Rattle.image.specs.Slots.{slot_at, outline_at, outlined}
use Rattle.image.specs.Rules.{alike_to, distinct, outlines_ok, image_ok, keeps_rules}

-- ---- a turn of the loop over pairs

module _ (o : ℕ → Outline) (n i : ℕ) (h : i < n) where
  turn : distinct (up_from o (n - i) i) ≡ not (any (alike_to (o i)) (up_from o (n - (i + 1)) (i + 1))) && distinct (up_from o (n - (i + 1)) (i + 1))
  turn = ap distinct (up_turn o n i h)

  pub apart_hit : any (alike_to (o i)) (up_from o (n - (i + 1)) (i + 1)) ≡ true → distinct (up_from o (n - i) i) ≡ false
  apart_hit e = turn ∙ rw e

  pub apart_miss : any (alike_to (o i)) (up_from o (n - (i + 1)) (i + 1)) ≡ false
      → distinct (up_from o (n - i) i) ≡ distinct (up_from o (n - (i + 1)) (i + 1))
  apart_miss e = turn ∙ rw e

-- of the transactions in slots
module _ (txs : List Tx) (n i : ℕ) (h : i < n) where
  pub distinct_hit : any (alike (slot_at txs i).id.0 (slot_at txs i).csn.0) (up_from (outline_at txs) (n - (i + 1)) (i + 1)) ≡ true
      → distinct (up_from (outline_at txs) (n - i) i) ≡ false
  distinct_hit = apart_hit (outline_at txs) n i h

  pub distinct_miss : any (alike (slot_at txs i).id.0 (slot_at txs i).csn.0) (up_from (outline_at txs) (n - (i + 1)) (i + 1)) ≡ false
      → distinct (up_from (outline_at txs) (n - i) i) ≡ distinct (up_from (outline_at txs) (n - (i + 1)) (i + 1))
  distinct_miss = apart_miss (outline_at txs) n i h

-- ---- what the rules give

module _ (logend ondisk assigned last : ℕ) (ts : List Outline) (e : image_ok logend ondisk assigned last ts ≡ true) where
  front : leb logend 16384 && leb ondisk assigned && leb (length ts) 8 ≡ true
  front = and_left (leb logend 16384 && leb ondisk assigned && leb (length ts) 8) (outlines_ok last assigned ts) e

  counters : leb logend 16384 && leb ondisk assigned ≡ true
  counters = and_left (leb logend 16384 && leb ondisk assigned) (leb (length ts) 8) front

  pub rules_low : logend ≤ 16384
  rules_low = leb-true logend 16384 (and_left (leb logend 16384) (leb ondisk assigned) counters)

  pub rules_ordered : ondisk ≤ assigned
  rules_ordered = leb-true ondisk assigned (and_right (leb logend 16384) (leb ondisk assigned) counters)

  pub rules_length : length ts ≤ 8
  rules_length = leb-true (length ts) 8 (and_right (leb logend 16384 && leb ondisk assigned) (leb (length ts) 8) front)

  all : outlines_ok last assigned ts ≡ true
  all = and_right (leb logend 16384 && leb ondisk assigned && leb (length ts) 8) (outlines_ok last assigned ts) e

  pub rules_each : every (outline_ok last assigned) ts ≡ true
  rules_each = and_left (every (outline_ok last assigned) ts) (distinct ts) all

  pub rules_apart : distinct ts ≡ true
  rules_apart = and_right (every (outline_ok last assigned) ts) (distinct ts) all

module _ (i : Image) (e : keeps_rules i ≡ true) where
  pub image_logend : i.logend ≤ 16384
  image_logend = rules_low i.logend i.ondisk.0 i.assigned.0 i.lastid.0 (outlined i.txs i.count) e

  pub image_ordered : i.ondisk.0 ≤ i.assigned.0
  image_ordered = rules_ordered i.logend i.ondisk.0 i.assigned.0 i.lastid.0 (outlined i.txs i.count) e

  pub image_count : i.count ≤ 8
  image_count =
      let h = rules_length i.logend i.ondisk.0 i.assigned.0 i.lastid.0 (outlined i.txs i.count) e in
      omega (arith, h, length_up (outline_at i.txs) i.count 0)

  pub image_distinct_lem : distinct (outlined i.txs i.count) ≡ true
  image_distinct_lem = rules_apart i.logend i.ondisk.0 i.assigned.0 i.lastid.0 (outlined i.txs i.count) e

  -- each transaction, in its slot
  module _ (j : ℕ) (h : j < i.count) where
    pub outline_at_lem : outline_ok i.lastid.0 i.assigned.0 (outline_at i.txs j) ≡ true
    outline_at_lem =
        every_at (outline_at i.txs) (outline_ok i.lastid.0 i.assigned.0) i.count 0
        (rules_each i.logend i.ondisk.0 i.assigned.0 i.lastid.0 (outlined i.txs i.count) e) j (omega arith) (omega arith)

    pub head_at : head_ok i.lastid.0 i.assigned.0 (slot_at i.txs j).id.0 (slot_at i.txs j).status (slot_at i.txs j).csn.0 ≡ true
    head_at = and_left _ (records_ok (ranges_of (slot_at i.txs j).undo.ranges)) outline_at_lem

    pub undo_at_lem : records_ok (ranges_of (slot_at i.txs j).undo.ranges) ≡ true
    undo_at_lem =
        let t = slot_at i.txs j in
        and_right (head_ok i.lastid.0 i.assigned.0 t.id.0 t.status t.csn.0) (records_ok (ranges_of t.undo.ranges)) outline_at_lem

    pub ruled_at : Ruled i.lastid.0 i.assigned.0 (slot_at i.txs j).id.0 (slot_at i.txs j).status (slot_at i.txs j).csn.0
    ruled_at = head_rules _ _ _ _ _ head_at

-- of two places, what the first is compared with
pub distinct_at : (o : ℕ → Outline) (k i : ℕ) → distinct (up_from o k i) ≡ true → (x y : ℕ) → i ≤ x → x < y → y < i + k → alike_to (o x) (o y) ≡ false
distinct_at o zero i e x y a b c = absurd (omega arith)
distinct_at o (suc k) i e x y a b c =
    go (eqb x i) refl (λ h. distinct_at o k (suc i) (and_right (not (any (alike_to (o i)) later)) (distinct later) e) x y h b (omega arith))
  where
    later : List Outline
    later = up_from o k (suc i)

    go : (t : Bool) → eqb x i ≡ t → (suc i ≤ x → alike_to (o x) (o y) ≡ false) → alike_to (o x) (o y) ≡ false
    go true q f =
        let none = none_any (alike_to (o i)) later (not-true _ (and_left (not (any (alike_to (o i)) later)) (distinct later) e)) in
        subst (λ (n : ℕ). alike_to (o n) (o y) ≡ false) (sym (eqb-true x i q)) (all_at o k (suc i) none y (omega (arith, eqb-true x i q)) (omega arith))
    go false q f = let d = eqb-false x i q in f (omega (arith, d))
