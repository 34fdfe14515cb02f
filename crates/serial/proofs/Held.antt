-- A byte that a running transaction has read or written stays so until its end, and no other transaction's write that is accepted has it.
use Prim.Native.Nat.{ℕ, ◌+◌, ◌-◌, ◌≤◌, ◌<◌}
use native.Mathlib.Decide.{dec_lt}
use native.Mathlib.Omega.{arith}
use mathlib.Core.Bool.{Bool, true, false, ◌||◌}
use mathlib.Core.List.{List, ◌++◌, map}
use mathlib.Core.Path.{◌≡◌, refl, sym, ap, ap₂, ◌∙◌, subst}
use lib.ListN.{length}
use lib.Dec.{leb, ltb}
use borrow.Author.Tests.{leb-true, ltb-true}
use Rattle.recovery.specs.Lists.{any}
use Rattle.recovery.proofs.Bool.{opposed}
use Rattle.recovery.proofs.Lists.{none_any}
use Rattle.redolog.proofs.Basics.{and_left, and_right}
use Rattle.redolog.specs.declared.TxId.{TxId}
use Rattle.transaction.specs.declared.Tx.{Tx}
use Rattle.transaction.specs.declared.Extras.{Extras}
use Rattle.transaction.specs.View.{Range, range, ranges_of, range_of, reads_of, written_by, used_by}
use Rattle.transaction.specs.Rules.{meets, writing, held_against, has_byte}
use Rattle.transaction.specs.Steps.{written, with_read, savepointed, return_writes, gone_back}
use Rattle.transaction.proofs.Lists.{all_at, any_weaker}
use Rattle.transaction.proofs.Pushed.{ranges_pushed}
use Rattle.transaction.proofs.Held.{or_any, held_other, byte_meets}
use Rattle.transaction.proofs.StateRule.{written_undo}
use Rattle.transaction.proofs.Returning.{Writable, all_same, all_undo}
use Rattle.store.specs.declared.State.{State}
use Rattle.store.specs.State.{tx_at, txs_of}
use Rattle.store.proofs.Positions.{Changed, Dropped}
use Rattle.store.proofs.Stepping.{SizedTx, same_or_other}

-- the byte a lies in a range that the running transaction of this id has read or written
pub record HeldBy (s : State) (id a : ℕ) : Type 0 where
  pub slot : ℕ
  pub listed : slot < s.count
  pub named : (tx_at s slot).id.0 ≡ id
  pub running : (tx_at s slot).status ≡ 1
  pub used : any (has_byte a) (used_by (tx_at s slot)) ≡ true

-- ---- lists of ranges

or_cases : (a b : Bool) (P : Type 0) → (a || b) ≡ true → (a ≡ true → P) → (b ≡ true → P) → P
or_cases true b P e l r = l refl
or_cases false b P e l r = r e

module _ (p : Range → Bool) where
  any_front : (xs ys : List Range) → any p xs ≡ true → any p (xs ++ ys) ≡ true
  any_front xs ys e = or_any p xs ys ∙ rw e

  any_back : (xs ys : List Range) → any p ys ≡ true → any p (xs ++ ys) ≡ true
  any_back xs ys e = or_any p xs ys ∙ go (any p xs)
    where
      go : (b : Bool) → (b || any p ys) ≡ true
      go true = refl
      go false = e

  -- one range more among those written, or among those read
  any_written : (ws rs xs : List Range) → any p (ws ++ rs) ≡ true → any p ((ws ++ xs) ++ rs) ≡ true
  any_written ws rs xs e =
      or_cases (any p ws) (any p rs) _ (sym (or_any p ws rs) ∙ e) (λ h. any_front (ws ++ xs) rs (any_front ws xs h)) (λ h. any_back (ws ++ xs) rs h)

  any_read : (ws rs xs : List Range) → any p (ws ++ rs) ≡ true → any p (ws ++ (rs ++ xs)) ≡ true
  any_read ws rs xs e =
      or_cases (any p ws) (any p rs) _ (sym (or_any p ws rs) ∙ e) (λ h. any_front ws (rs ++ xs) h) (λ h. any_back ws (rs ++ xs) (any_front rs xs h))

-- ---- one transaction

-- what it has of a byte it has after a call as well
pub record Keeps (t u : Tx) : Type 0 where
  pub named : u.id.0 ≡ t.id.0
  pub status : u.status ≡ t.status
  pub used : (a : ℕ) → any (has_byte a) (used_by t) ≡ true → any (has_byte a) (used_by u) ≡ true

module _ (t : Tx) (z : SizedTx t) where
  pub written_keeps : (a : ℕ) (old new : List ℕ) → t.undo.ranges.count < 16 → t.redo.ranges.count < 16 → length old ≡ length new
      → Keeps t (written t a old new)
  unfolding written
  written_keeps a old new cu cr l = record {
    named = refl;
    status = refl;
    used = λ b e.
        subst (λ (ws : List Range). any (has_byte b) (ws ++ reads_of t) ≡ true) (sym (written_undo t a old new z.undos z.redos cu cr l))
        (any_written (has_byte b) (written_by t) (reads_of t) _ e);
  }

  pub read_keeps : (a n : ℕ) → t.extras.reads.count < 16 → Keeps t (with_read t a n)
  unfolding with_read
  read_keeps a n few = record {
    named = refl;
    status = refl;
    used = λ b e.
        subst (λ (rs : List Range). any (has_byte b) (written_by t ++ rs) ≡ true) (sym (ranges_pushed t.extras.reads a n z.reads few))
        (any_read (has_byte b) (written_by t) (reads_of t) _ e);
  }

pub savepoint_keeps : (t : Tx) (name : ℕ) → Keeps t (savepointed t name)
unfolding savepointed
savepoint_keeps t name = record { named = refl; status = refl; used = λ b e. e }

-- a return adds the ranges of its writes
pub back_keeps : (t : Tx) (m : List ℕ) (name : ℕ) → Writable t m (return_writes t name) → Keeps t (gone_back t m name)
unfolding gone_back
back_keeps t m name w =
    let ws = return_writes t name in
    let same = all_same t m ws in
    record {
      named = ap (λ (i : TxId). i.0) same.0;
      status = same.1;
      used = λ b e.
          ap₂ (λ (qs : List Range) (x : Extras). any (has_byte b) (qs ++ ranges_of x.reads)) (all_undo t m ws w) same.3
          ∙ any_written (has_byte b) (written_by t) (reads_of t) (map range_of ws) e;
    }

-- ---- slots

module _ (s r : State) (id a : ℕ) where
  moved : (i j : ℕ) → i < r.count → tx_at r i ≡ tx_at s j → (h : HeldBy s id a) → h.slot ≡ j → HeldBy r id a
  moved i j l e h q =
      let same : tx_at r i ≡ tx_at s h.slot = e ∙ ap (tx_at s) (sym q) in
      record {
        slot = i;
        listed = l;
        named = ap (λ (x : Tx). x.id.0) same ∙ h.named;
        running = ap (λ (x : Tx). x.status) same ∙ h.running;
        used = ap (λ (x : Tx). any (has_byte a) (used_by x)) same ∙ h.used;
      }

  -- one slot is another transaction's now, and the others stay
  pub held_elsewhere : (j : ℕ) (u : Tx) → Changed (tx_at s) (tx_at r) j u → s.count ≤ r.count → (h : HeldBy s id a) → (h.slot ≡ j → ⊥) → HeldBy r id a
  held_elsewhere j u c few h n = moved h.slot h.slot (omega (arith, h.listed)) (c.other h.slot n) h refl

  -- one slot has gained a range
  pub held_changed : (j : ℕ) (u : Tx) → Changed (tx_at s) (tx_at r) j u → s.count ≤ r.count → Keeps (tx_at s j) u → HeldBy s id a → HeldBy r id a
  held_changed j u c few k h =
      same_or_other h.slot j
      (λ q.
      record {
        slot = j;
        listed = omega (arith, h.listed, q);
        named = ap (λ (x : Tx). x.id.0) c.here ∙ k.named ∙ ap (λ (i : ℕ). (tx_at s i).id.0) (sym q) ∙ h.named;
        running = ap (λ (x : Tx). x.status) c.here ∙ k.status ∙ ap (λ (i : ℕ). (tx_at s i).status) (sym q) ∙ h.running;
        used = ap (λ (x : Tx). any (has_byte a) (used_by x)) c.here
            ∙ k.used a (ap (λ (i : ℕ). any (has_byte a) (used_by (tx_at s i))) (sym q) ∙ h.used);
      })
      (λ n. held_elsewhere j u c few h n)

  -- another slot is taken out
  pub held_dropped : (j : ℕ) → Dropped (tx_at s) (tx_at r) j s.count → r.count ≡ s.count - 1 → j < s.count
      → (h : HeldBy s id a) → (h.slot ≡ j → ⊥) → HeldBy r id a
  held_dropped j d count l h n =
      elim (dec_lt h.slot j) [
        | yes p ↦ moved h.slot h.slot (omega (arith, h.listed, count)) (d.before h.slot p) h refl
        | no p ↦
            moved (h.slot - 1) (h.slot - 1 + 1) (omega (arith, h.listed, count, p, n))
            (d.after (h.slot - 1) (omega (arith, p, n)) (omega (arith, h.listed, p, n))) h (omega (arith, p, n))
      ]

-- ---- number 9

hits : (a n b : ℕ) → a ≤ b → b < a + n → (r : Range) → meets a n r ≡ false → has_byte b r ≡ false
hits a n b low high (range c m) e = go (has_byte b (range c m)) refl
  where
    go : (x : Bool) → has_byte b (range c m) ≡ x → has_byte b (range c m) ≡ false
    go true h =
        let from : c ≤ b = leb-true c b (and_left (leb c b) (ltb b (c + m)) h) in
        let to : b < c + m = ltb-true b (c + m) (and_right (leb c b) (ltb b (c + m)) h) in
        absurd (opposed (byte_meets a n c m (record { byte = b; here = (low, high); there = (from, to) })) e)
    go false h = h

-- a write that number 9 lets pass has no byte that another transaction has read or written
pub unheld_byte : (s : State) (id i a n b : ℕ) → any (held_against writing id a n) (txs_of s) ≡ false → (i ≡ id → ⊥) → a ≤ b → b < a + n → HeldBy s i b → ⊥
unheld_byte s id i a n b free other low high h =
    let t = tx_at s h.slot in
    let one : held_against writing id a n t ≡ false =
    all_at (tx_at s) {p = λ x. held_against writing id a n x ≡ false} s.count 0 (none_any (held_against writing id a n) (txs_of s) free) h.slot (omega arith)
    (omega (arith, h.listed)) in
    let none : any (meets a n) (used_by t) ≡ false = sym (held_other t a n writing id (λ e. other (sym h.named ∙ sym e)) h.running) ∙ one in
    opposed h.used (any_weaker (has_byte b) (meets a n) (used_by t) (hits a n b low high) none)
