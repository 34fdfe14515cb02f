-- A hold that was taken can be read: after read's sister is done, read hands back the whole part. A host's read rests on it (`lup_read`).
use Prim.Native.Nat.{ℕ, zero, suc, ◌<◌}
use mathlib.Core.Bool.{Bool, true, false, cond, not, or-true}
use mathlib.Core.List.{List, [], ◌∷◌, ◌++◌, append_assoc}
use mathlib.Core.Path.{◌≡◌, refl, sym, ap, ap₂, ◌∙◌}
use lib.ListN.{length, take, drop}
use lib.Dec.{eqb}
use borrow.Author.Tests.{eq-eqb}
use Rattle.recovery.specs.Lists.{any}
use Rattle.redolog.specs.declared.TxId.{TxId}
use Rattle.transaction.specs.declared.Tx.{Tx}
use Rattle.transaction.specs.Lists.{up_from}
use Rattle.transaction.specs.View.{Range, range, reads_of, written_by, used_by}
use Rattle.transaction.specs.Rules.{reading, held_against, has_byte, covered}
use Rattle.transaction.specs.Steps.{with_read}
use Rattle.transaction.proofs.Lists.{any_same}
use Rattle.transaction.proofs.Held.{or_any}
use Rattle.transaction.proofs.Cover.{in_byte}
use Rattle.transaction.proofs.Pushed.{SizedRanges, ranges_pushed}
use Rattle.store.specs.declared.State.{State}
use Rattle.store.specs.State.{tx_at, txs_of, has_id, slot_in, slot_of}
use Rattle.store.specs.Numbers.{tx_of, check15, read_checks, answer_checks}
use Rattle.store.specs.Answer.{Told}
use Rattle.store.specs.Steps.{read_state}
use Rattle.store.specs.Calls.{answer_number, read_number, read_answer_of, read_of}
use Rattle.store.specs.Rules.{unfit}
use Rattle.store.proofs.Checks.{passed}
use Rattle.store.proofs.Admitting.{unrefused}
use Rattle.store.proofs.Passing.{AnswerPassed, answer_passed}
use Rattle.store.proofs.Positions.{Changed, every_intro}
use Rattle.store.proofs.Stepping.{SizedState, same_or_other, read_slot}
use Rattle.store.proofs.Keeping.{answer_keeps}
use Rattle.store.proofs.Calling.{answer_done, read_done}

-- ---- one transaction

-- read looks at id, status and what was written, which the hold leaves
module _ (t : Tx) (a n : ℕ) where
  same_id : (id : ℕ) → has_id id (with_read t a n) ≡ has_id id t
  unfolding with_read
  same_id id = refl

  same_status : (with_read t a n).status ≡ t.status
  unfolding with_read
  same_status = refl

  same_held : (id b k : ℕ) → held_against reading id b k (with_read t a n) ≡ held_against reading id b k t
  unfolding with_read held_against
  same_held id b k = refl

  used_more : SizedRanges t.extras.reads → t.extras.reads.count < 16 → used_by (with_read t a n) ≡ used_by t ++ (range a n ∷ [])
  unfolding with_read
  used_more z c =
      ap (λ (rs : List Range). written_by t ++ rs) (ranges_pushed t.extras.reads a n z c) ∙ sym (append_assoc (written_by t) (reads_of t) (range a n ∷ []))

-- what was pushed covers itself
covers_last : (rs : List Range) (a n : ℕ) → covered (rs ++ (range a n ∷ [])) a n ≡ true
covers_last rs a n =
    every_intro (λ b. any (has_byte b) (rs ++ (range a n ∷ []))) (λ b. b) n a
    (λ b l h. or_any (has_byte b) rs (range a n ∷ []) ∙ rw (in_byte b a n l h, or-true))

slot_alike : (id : ℕ) (f g : ℕ → Tx) → ((x : ℕ) → has_id id (f x) ≡ has_id id (g x)) → (k i : ℕ) → slot_in id i (up_from f k i) ≡ slot_in id i (up_from g k i)
slot_alike id f g h zero i = refl
slot_alike id f g h (suc k) i = ap₂ (λ (b : Bool) (r : ℕ). cond b i r) (h i) (slot_alike id f g h k (suc i))

-- ---- the state

module _ (s : State) (m t : List ℕ) (z : SizedState s) (id : TxId) (a n : ℕ) (e : answer_number s m t id a n ≡ 0) where
  abbrev j : ℕ
  j = slot_of s id.0

  abbrev u : State
  u = read_state s j a n

  here : AnswerPassed s m t id.0 a n
  here = answer_passed s m t id a n e

  changed : Changed (tx_at s) (tx_at u) j (with_read (tx_at s j) a n)
  changed = read_slot s z j here.read.runs.listed here.read.runs.few a n

  count : u.count ≡ s.count
  unfolding read_state
  count = refl

  -- what the hold leaves is the same in every slot
  each : {A : Type 0} (f : Tx → A) → f (with_read (tx_at s j) a n) ≡ f (tx_at s j) → (i : ℕ) → f (tx_at u i) ≡ f (tx_at s i)
  each f same i =
      same_or_other i j (λ q. ap (λ (k : ℕ). f (tx_at u k)) q ∙ ap f changed.here ∙ same ∙ ap (λ (k : ℕ). f (tx_at s k)) (sym q)) (λ q. ap f (changed.other i q))

  anywhere : (p : Tx → Bool) → p (with_read (tx_at s j) a n) ≡ p (tx_at s j) → any p (txs_of u) ≡ any p (txs_of s)
  anywhere p same =
      ap (λ (k : ℕ). any p (up_from (tx_at u) k 0)) count ∙ any_same p p (tx_at u) (tx_at s) s.count 0 (λ i l h. each p same i)

  slot : slot_of u id.0 ≡ j
  slot =
      ap (λ (k : ℕ). slot_in id.0 0 (up_from (tx_at u) k 0)) count
      ∙ slot_alike id.0 (tx_at u) (tx_at s) (each (has_id id.0) (same_id (tx_at s j) a n id.0)) s.count 0

  tx : tx_of u id.0 ≡ with_read (tx_at s j) a n
  tx = ap (tx_at u) slot ∙ changed.here

  fits : unfit u t ≡ false
  fits = ap (λ (o : Told). unfit o.state t) (sym (answer_done s m t id a n e)) ∙ (answer_keeps s m t z id a n e).fits

  -- no number refuses read
  number : read_number u m t id a n ≡ 0
  number =
      let x = unrefused s (length m) t (answer_checks s id.0 a n) e in
      let q = (passed (read_checks s id.0 a n) (check15 s id.0 ∷ []) refl x.own).0 in
      let listed : not (any (has_id id.0) (txs_of u)) ≡ false = ap not (anywhere (has_id id.0) (same_id (tx_at s j) a n id.0)) ∙ q.0 in
      let runs : eqb (tx_of u id.0).status 2 ≡ false = ap (λ (y : Tx). eqb y.status 2) tx ∙ ap (λ (k : ℕ). eqb k 2) (same_status (tx_at s j) a n) ∙ q.1.0 in
      let free : any (held_against reading id.0 a n) (txs_of u) ≡ false =
      anywhere (held_against reading id.0 a n) (same_held (tx_at s j) a n id.0 a n) ∙ q.1.1.1.0 in
      rw (eq-eqb (length m) 4096 x.memory, eq-eqb (length t) 16384 x.tail, fits, listed, runs, q.1.1.0, free)

  cover : covered (used_by (tx_of u id.0)) a n ≡ true
  cover =
      let y = (z.each j here.read.runs.listed).reads in
      ap (λ (x : Tx). covered (used_by x) a n) tx
      ∙ ap (λ (rs : List Range). covered rs a n) (used_more (tx_at s j) a n y here.reads)
      ∙ covers_last (used_by (tx_at s j)) a n

  pub hold_reads : read_of (read_answer_of s m t id a n).state m t id a n ≡ take n (drop a m)
  hold_reads = ap (λ (o : Told). read_of o.state m t id a n) (answer_done s m t id a n e) ∙ read_done u m t id a n number cover
