-- The steps slot by slot, and the lengths of the arrays, which every value of the code has, after each step.
use Prim.Native.Nat.{ℕ, ◌+◌, ◌-◌, ◌≤◌, ◌<◌}
use native.Mathlib.Decide.{dec_lt}
use native.Mathlib.Omega.{arith}
use mathlib.Core.Bool.{Bool, true, false}
use mathlib.Core.List.{List, ◌∷◌, ◌++◌}
use mathlib.Core.Path.{◌≡◌, refl, sym, ap, ◌∙◌, subst}
use lib.ListN.{length, get_or, take, drop, set, length-set, length-append, length-drop, get_or-append}
use lib.Seq.{length-take-le, get_or-take, get_or-drop, get_or-append-add, get_or-set_same, get_or-set_other}
use lib.Dec.{eqb}
use borrow.Author.Tests.{eqb-true, eqb-false}
use Rattle.transaction.specs.declared.Tx.{Tx}
use Rattle.transaction.specs.Flat.{empty_tx, no_tx}
use Rattle.transaction.specs.Steps.{fresh_tx, written, with_read, savepointed, return_writes, gone_back, precommitted}
use Rattle.transaction.proofs.Pushed.{Sized, SizedRanges, empty_sized, push_sized, none_sized, range_sized}
use Rattle.transaction.specs.declared.Extras.{Extras}
use Rattle.transaction.proofs.SavepointLaws.{SizedSavepoints, unset_sized, name_sized}
use Rattle.transaction.proofs.Returning.{Writable, all_same, all_sized}
use Rattle.store.specs.declared.State.{State}
use Rattle.store.specs.State.{tx_at}
use Rattle.store.specs.Steps.{begun_state, written_state, read_state, savepoint_state, went_back_state, precommitted_state, without, dropped_state}
use Rattle.store.proofs.Positions.{Changed, Dropped}

pub record SizedTx (t : Tx) : Type 0 where
  pub undos : Sized t.undo
  pub redos : Sized t.redo
  pub reads : SizedRanges t.extras.reads
  pub savepoints : SizedSavepoints t.extras.savepoints

pub record SizedState (s : State) : Type 0 where
  pub slots : length s.txs ≡ 8
  pub each : (i : ℕ) → i < s.count → SizedTx (tx_at s i)

-- a place is j or another one
pub same_or_other : {P : Type 0} (x j : ℕ) → (x ≡ j → P) → ((x ≡ j → ⊥) → P) → P
same_or_other {P} x j here other = go (eqb x j) refl
  where
    go : (b : Bool) → eqb x j ≡ b → P
    go true e = here (eqb-true x j e)
    go false e = other (eqb-false x j e)

-- ---- one slot set

module _ (s r : State) (j : ℕ) (u : Tx) (e : r.txs ≡ set s.txs j u) (h : j < length s.txs) where
  pub set_slot : Changed (tx_at s) (tx_at r) j u
  set_slot =
      record {
        here = ap (λ (ts : List Tx). get_or ts j no_tx) e ∙ get_or-set_same s.txs j u no_tx h;
        other = λ x n. ap (λ (ts : List Tx). get_or ts x no_tx) e ∙ get_or-set_other s.txs j x u no_tx n;
      }

  pub set_sized : SizedState s → SizedTx u → ((i : ℕ) → i < r.count → (i ≡ j → ⊥) → i < s.count) → SizedState r
  set_sized z y c =
      record {
        slots = ap length e ∙ length-set s.txs j u ∙ z.slots;
        each = λ i l.
            same_or_other i j (λ q. subst SizedTx (sym (ap (tx_at r) q ∙ set_slot.here)) y)
            (λ q. subst SizedTx (sym (set_slot.other i q)) (z.each i (c i l q)));
      }

module _ (s : State) (z : SizedState s) where
  pub begun_slot : s.count < 8 → Changed (tx_at s) (tx_at (begun_state s)) s.count (fresh_tx (record { 0 = s.lastid.0 + 1 }))
  unfolding begun_state
  begun_slot h = set_slot s (begun_state s) s.count (fresh_tx (record { 0 = s.lastid.0 + 1 })) refl (omega (arith, z.slots))

  pub begun_sized : s.count < 8 → SizedState (begun_state s)
  unfolding begun_state fresh_tx
  begun_sized h =
      set_sized s (begun_state s) s.count (fresh_tx (record { 0 = s.lastid.0 + 1 })) refl (omega (arith, z.slots)) z
      (record { undos = empty_sized; redos = empty_sized; reads = none_sized; savepoints = unset_sized }) (λ i l n. omega (arith, l, n))

  module _ (j : ℕ) (h : j < s.count) (few : s.count ≤ 8) where
    pub written_slot : (m : List ℕ) (a : ℕ) (bs : List ℕ)
        → Changed (tx_at s) (tx_at (written_state s j m a bs)) j (written (tx_at s j) a (take (length bs) (drop a m)) bs)
    unfolding written_state
    written_slot m a bs = set_slot s (written_state s j m a bs) j (written (tx_at s j) a (take (length bs) (drop a m)) bs) refl (omega (arith, z.slots))

    pub written_sized : (m : List ℕ) (a : ℕ) (bs : List ℕ) → SizedState (written_state s j m a bs)
    unfolding written_state written
    written_sized m a bs =
        let t = tx_at s j in
        set_sized s (written_state s j m a bs) j (written t a (take (length bs) (drop a m)) bs) refl (omega (arith, z.slots)) z
        (record {
          undos = push_sized t.undo a (take (length bs) (drop a m)) (z.each j h).undos;
          redos = push_sized t.redo a bs
              (z.each j h).redos;
          reads = (z.each j h).reads;
          savepoints = (z.each j h).savepoints;
        }) (λ i l n. l)

    pub read_slot : (a n : ℕ) → Changed (tx_at s) (tx_at (read_state s j a n)) j (with_read (tx_at s j) a n)
    unfolding read_state
    read_slot a n = set_slot s (read_state s j a n) j (with_read (tx_at s j) a n) refl (omega (arith, z.slots))

    pub read_sized : (a n : ℕ) → SizedState (read_state s j a n)
    unfolding read_state with_read
    read_sized a n =
        let y = z.each j h in
        set_sized s (read_state s j a n) j (with_read (tx_at s j) a n) refl (omega (arith, z.slots)) z
        (record { undos = y.undos; redos = y.redos; reads = range_sized (tx_at s j).extras.reads a n y.reads; savepoints = y.savepoints }) (λ i l k. l)

    pub savepoint_slot : (name : ℕ) → Changed (tx_at s) (tx_at (savepoint_state s j name)) j (savepointed (tx_at s j) name)
    unfolding savepoint_state
    savepoint_slot name = set_slot s (savepoint_state s j name) j (savepointed (tx_at s j) name) refl (omega (arith, z.slots))

    pub savepoint_sized : (name : ℕ) → SizedState (savepoint_state s j name)
    unfolding savepoint_state savepointed
    savepoint_sized name =
        let y = z.each j h in
        let t = tx_at s j in
        set_sized s (savepoint_state s j name) j (savepointed t name) refl (omega (arith, z.slots)) z
        (record {
          undos = y.undos;
          redos = y.redos;
          reads = y.reads;
          savepoints = name_sized t.extras.savepoints name t.undo.ranges.count y.savepoints;
        }) (λ i l k. l)

    pub back_slot : (m : List ℕ) (name : ℕ) → Changed (tx_at s) (tx_at (went_back_state s j m name)) j (gone_back (tx_at s j) m name)
    unfolding went_back_state
    back_slot m name = set_slot s (went_back_state s j m name) j (gone_back (tx_at s j) m name) refl (omega (arith, z.slots))

    pub back_sized : (m : List ℕ) (name : ℕ) → Writable (tx_at s j) m (return_writes (tx_at s j) name) → SizedState (went_back_state s j m name)
    unfolding went_back_state gone_back
    back_sized m name w =
        let y = z.each j h in
        let t = tx_at s j in
        let ws = return_writes t name in
        let all = all_sized t m ws w in
        let x = sym (all_same t m ws).3 in
        set_sized s (went_back_state s j m name) j (gone_back t m name) refl (omega (arith, z.slots)) z
        (record {
          undos = all.0;
          redos = all.1;
          reads = subst (λ (e : Extras). SizedRanges e.reads) x y.reads;
          savepoints = subst (λ (e : Extras). SizedSavepoints e.savepoints) x y.savepoints;
        }) (λ i l k. l)

    pub precommitted_slot : Changed (tx_at s) (tx_at (precommitted_state s j)) j (precommitted (tx_at s j) (record { 0 = s.assigned.0 + 1 }))
    unfolding precommitted_state
    precommitted_slot = set_slot s (precommitted_state s j) j (precommitted (tx_at s j) (record { 0 = s.assigned.0 + 1 })) refl (omega (arith, z.slots))

    pub precommitted_sized : SizedState (precommitted_state s j)
    unfolding precommitted_state precommitted
    precommitted_sized =
        set_sized s (precommitted_state s j) j (precommitted (tx_at s j) (record { 0 = s.assigned.0 + 1 })) refl (omega (arith, z.slots)) z
        (record { undos = (z.each j h).undos; redos = empty_sized; reads = none_sized; savepoints = unset_sized }) (λ i l n. l)

-- ---- one slot taken out

module _ (ts : List Tx) (j n : ℕ) (h : j < n) (l : n ≤ length ts) where
  abbrev later : List Tx
  later = take (n - 1 - j) (drop (j + 1) ts)

  front : length (take j ts) ≡ j
  front = length-take-le j ts (omega arith)

  later_length : length later ≡ n - 1 - j
  later_length = length-take-le (n - 1 - j) (drop (j + 1) ts) (rw length-drop (omega arith))

  pub taken_out : Dropped (λ i. get_or ts i no_tx) (λ i. get_or (without ts j n) i no_tx) j n
  unfolding without
  taken_out =
      record {
        before = λ x b. get_or-append (take j ts) (later ++ (empty_tx ∷ drop n ts)) no_tx x (omega (arith, front)) ∙ get_or-take j ts x no_tx b;
        after = λ x a b.
            let e : x ≡ length (take j ts) + (x - j) = omega (arith, front) in
            let y : x - j < length later = omega (arith, later_length) in
            let d : j + 1 + (x - j) ≡ x + 1 = omega arith in
            ap (λ (i : ℕ). get_or (take j ts ++ (later ++ (empty_tx ∷ drop n ts))) i no_tx) e
            ∙ get_or-append-add (take j ts) (later ++ (empty_tx ∷ drop n ts)) (x - j) no_tx
            ∙ get_or-append later (empty_tx ∷ drop n ts) no_tx (x - j) y
            ∙ get_or-take (n - 1 - j) (drop (j + 1) ts) (x - j) no_tx (omega (arith, later_length))
            ∙ get_or-drop (j + 1) ts (x - j) no_tx
            ∙ ap (λ (i : ℕ). get_or ts i no_tx) d;
      }

  pub without_length : length (without ts j n) ≡ length ts
  unfolding without
  without_length =
      length-append (take j ts) (later ++ (empty_tx ∷ drop n ts))
      ∙ (let e = length-append later (empty_tx ∷ drop n ts) in let d = length-drop n ts in omega (arith, front, later_length, e, d))

module _ (s : State) (z : SizedState s) (j : ℕ) (h : j < s.count) (few : s.count ≤ 8) where
  pub dropped_slot : Dropped (tx_at s) (tx_at (dropped_state s j)) j s.count
  unfolding dropped_state
  dropped_slot = taken_out s.txs j s.count h (omega (arith, z.slots))

  pub dropped_sized : SizedState (dropped_state s j)
  unfolding dropped_state
  dropped_sized =
      record {
        slots = without_length s.txs j s.count h (omega (arith, z.slots)) ∙ z.slots;
        each = λ i l.
            elim (dec_lt i j) [
              | yes p ↦ subst SizedTx (sym (dropped_slot.before i p)) (z.each i (omega (arith, l)))
              | no q ↦ subst SizedTx (sym (dropped_slot.after i (omega (arith, q)) (omega (arith, l, h)))) (z.each (i + 1) (omega (arith, l, h)))
            ];
      }
