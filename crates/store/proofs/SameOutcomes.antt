-- Each call in memory answers states that show the same alike, refusals too, and leaves the same in memory and tail.
use Prim.Native.Nat.{ℕ, ◌+◌, ◌≤◌, ◌<◌}
use mathlib.Core.Bool.{Bool, true, false, cond}
use mathlib.Core.List.{List, []}
use mathlib.Core.Path.{◌≡◌, refl, sym, ap, ap₂, ◌∙◌, subst}
use lib.ListN.{length, take, drop}
use lib.Seq.{sets}
use lib.Dec.{eqb}
use borrow.Author.Tests.{eqb-true}
use Rattle.recovery.specs.Group.{Write, Group, committed, aborted}
use Rattle.recovery.specs.Replay.{redo_all, undo_all, lay_bytes}
use Rattle.redolog.specs.declared.TxId.{TxId}
use Rattle.redolog.specs.Group.{encode_group}
use Rattle.transaction.specs.View.{Range, used_by}
use Rattle.transaction.specs.Rules.{covered}
use Rattle.transaction.specs.Steps.{return_writes}
use Rattle.transaction.proofs.SavepointLaws.{place_fits}
use Rattle.transaction.proofs.Returning.{Writable}
use Rattle.store.specs.declared.State.{State}
use Rattle.store.specs.State.{tx_at, slot_of}
use Rattle.store.specs.Numbers.{tx_of}
use Rattle.store.specs.Answer.{done, Told, tells}
use Rattle.store.specs.Rules.{tail_length}
use Rattle.store.specs.Steps.{begun_state, written_state, read_state, savepoint_state, went_back_state, precommitted_state, dropped_state}
use Rattle.store.specs.Calls.{Outcome, decided, refusing, begin_number, begin_of, write_number, write_of, read_number, read_of}
use Rattle.store.specs.Calls.{savepoint_number, savepoint_of, go_back_number, go_back_of}
use Rattle.store.specs.Calls.{answer_number, read_answer_of, appended, precommit_number, precommit_of, abort_number, abort_of, settle_number, settle_of}
use Rattle.store.specs.Same.{SameTx, ShowsSame, SameTold, SameOutcome}
use Rattle.store.proofs.Passing.{begin_passed, write_passed, read_passed, answer_passed, savepoint_passed, go_back_passed, precommit_passed, abort_passed, settle_passed}
use Rattle.store.proofs.Views.{commit_of, writable}
use Rattle.store.proofs.Stepping.{SizedState}
use Rattle.store.proofs.Sameness.{shown_tx, shown, used_same, slots}
use Rattle.store.proofs.SameNumbers.{begin_alike, write_alike, read_alike, answer_alike, savepoint_alike, go_back_alike, precommit_alike, abort_alike, settle_alike}
use Rattle.store.proofs.SameSteps.{begin_shows, write_shows, read_shows, returns_same, savepoint_shows, back_shows, precommit_shows, drop_shows}

-- ---- from the number to the outcome

named : (s r : State) → ShowsSame s r → (id : ℕ) → slot_of s id < s.count → SameTx (tx_of s id) (tx_of r id)
named s r h id l = subst (λ (k : ℕ). SameTx (tx_at s (slot_of s id)) (tx_at r k)) (slots s r (shown s r h) id) (h.listed (slot_of s id) l)

-- calls of the same number end alike if they do so once done, and refused by any number
pub decided_same : {A : Type 0} (R : A → A → Type 0) (x y : A) (f g : ℕ → A) (n k : ℕ) → n ≡ k → (n ≡ 0 → R x y) → ((i : ℕ) → R (f i) (g i))
    → R (decided n x (f n)) (decided k y (g k))
decided_same R x y f g n k e whenDone whenRefused = subst (λ (i : ℕ). R (decided n x (f n)) (decided i y (g i))) e (go (eqb n 0) refl)
  where
    go : (b : Bool) → eqb n 0 ≡ b → R (cond b x (f n)) (cond b y (g n))
    go true q = whenDone (eqb-true n 0 q)
    go false q = whenRefused n

-- done, with no store
done_same : {v w : ℕ} {x y : State} → v ≡ w → ShowsSame x y → SameTold (tells done v 0 x) (tells done w 0 y)
done_same e h = record { says = refl; value = e; stores = refl; state = h }

-- refused, with the buffers as they were
abbrev kept : List ℕ → List ℕ → State → ℕ → Outcome
kept m t s n = record { result = refusing n s; memory = m; tail = t }

module _ (s r : State) (h : ShowsSame s r) where
  pub refusing_same : (n : ℕ) → SameTold (refusing n s) (refusing n r)
  refusing_same n = record { says = refl; value = refl; stores = refl; state = h }

  told_same : {x y : Told} (n k : ℕ) → n ≡ k → (n ≡ 0 → SameTold x y) → SameTold (decided n x (refusing n s)) (decided k y (refusing k r))
  told_same {x} {y} n k e d = decided_same SameTold x y (λ i. refusing i s) (λ i. refusing i r) n k e d refusing_same

  outcome_same : (m t : List ℕ) {x y : Outcome} (n k : ℕ) → n ≡ k → (n ≡ 0 → SameOutcome x y)
      → SameOutcome (decided n x (kept m t s n)) (decided k y (kept m t r k))
  outcome_same m t {x} {y} n k e d =
      decided_same SameOutcome x y (kept m t s) (kept m t r) n k e d (λ i. record { result = refusing_same i; memory = refl; tail = refl })

  appended_same : (t : List ℕ) (x y : Group) → x ≡ y → appended s t x ≡ appended r t y
  appended_same t x y e = ap₂ (λ (n : ℕ) (g : Group). sets t (tail_length n t) (encode_group g)) h.ondisk e

  -- ---- read

  module _ (m t : List ℕ) (id : TxId) (a n : ℕ) where
    -- done, both are covered or neither
    cover_same : read_number s m t id a n ≡ 0 → covered (used_by (tx_of s id.0)) a n ≡ covered (used_by (tx_of r id.0)) a n
    cover_same e =
        let l = (read_passed s m t id a n e).runs.listed in
        ap (λ (rs : List Range). covered rs a n) (used_same (tx_of s id.0) (tx_of r id.0) (shown_tx (tx_of s id.0) (tx_of r id.0) (named s r h id.0 l)))

    pub read_part_same : read_of s m t id a n ≡ read_of r m t id a n
    unfolding read_of
    read_part_same =
        decided_same (λ (x y : List ℕ). x ≡ y) _ _ (λ i. []) (λ i. []) (read_number s m t id a n) (read_number r m t id a n)
        (read_alike s r (shown s r h) (length m) t id.0 a n) (λ e. ap (λ (b : Bool). cond b (take n (drop a m)) []) (cover_same e)) (λ i. refl)

  module _ (z : SizedState s) (y : SizedState r) (m t : List ℕ) where
    -- ---- begin

    begun : begin_number s m t ≡ 0 → ShowsSame (begun_state s) (begun_state r)
    begun e = begin_shows s r h z y (begin_passed s m t e).free

    pub begin_same : SameTold (begin_of s m t) (begin_of r m t)
    unfolding begin_of
    begin_same =
        told_same (begin_number s m t) (begin_number r m t) (begin_alike s r (shown s r h) (length m) t)
        (λ e. done_same (ap (λ (n : ℕ). n + 1) h.lastid) (begun e))

    module _ (id : TxId) where
      abbrev j : ℕ
      j = slot_of s id.0

      abbrev k : ℕ
      k = slot_of r id.0

      at_slot : (x : State) (f : ℕ → State) → ShowsSame x (f j) → ShowsSame x (f k)
      at_slot x f = subst (λ (i : ℕ). ShowsSame x (f i)) (slots s r (shown s r h) id.0)

      dropped : j < s.count → s.count ≤ 8 → ShowsSame (dropped_state s j) (dropped_state r k)
      dropped l few = at_slot (dropped_state s j) (dropped_state r) (drop_shows s r h z y j l few)

      -- ---- write

      module _ (a : ℕ) (bs : List ℕ) where
        wrote : write_number s m t id a (length bs) ≡ 0 → ShowsSame (written_state s j m a bs) (written_state r k m a bs)
        wrote e =
            let p = write_passed s m t id a (length bs) e in
            let u = p.runs in
            at_slot (written_state s j m a bs) (λ i. written_state r i m a bs)
            (write_shows s r h z y j u.listed u.few (record { few = p.undo; ok = u.undo }) (record { few = p.redo; ok = u.redo }) m a bs
            p.range.short)

        pub write_same : SameOutcome (write_of s m t id a bs) (write_of r m t id a bs)
        unfolding write_of
        write_same =
            outcome_same m t (write_number s m t id a (length bs)) (write_number r m t id a (length bs)) (write_alike s r (shown s r h) (length m) t id.0 a (length bs))
            (λ e. record { result = done_same refl (wrote e); memory = refl; tail = refl })

      -- ---- read's sister

      module _ (a n : ℕ) where
        held : answer_number s m t id a n ≡ 0 → ShowsSame (read_state s j a n) (read_state r k a n)
        held e =
            let p = answer_passed s m t id a n e in
            let u = p.read.runs in
            at_slot (read_state s j a n) (λ i. read_state r i a n) (read_shows s r h z y j u.listed u.few p.reads a n)

        pub read_answer_same : SameTold (read_answer_of s m t id a n) (read_answer_of r m t id a n)
        unfolding read_answer_of
        read_answer_same =
            told_same (answer_number s m t id a n) (answer_number r m t id a n) (answer_alike s r (shown s r h) (length m) t id.0 a n)
            (λ e. done_same refl (held e))

      -- ---- savepoints

      module _ (name : ℕ) where
        set : savepoint_number s m t id name ≡ 0 → ShowsSame (savepoint_state s j name) (savepoint_state r k name)
        set e =
            let p = savepoint_passed s m t id name e in
            let u = p.runs in
            let x = tx_of s id.0 in
            at_slot (savepoint_state s j name) (λ i. savepoint_state r i name)
            (savepoint_shows s r h z y j u.listed u.few name (place_fits x.extras.savepoints x.undo.ranges.count name p.saved p.given))

        pub savepoint_same : SameTold (savepoint_of s m t id name) (savepoint_of r m t id name)
        unfolding savepoint_of
        savepoint_same =
            told_same (savepoint_number s m t id name) (savepoint_number r m t id name) (savepoint_alike s r (shown s r h) (length m) t id.0 name)
            (λ e. done_same refl (set e))

        alike : go_back_number s m t id name ≡ go_back_number r m t id name
        alike = go_back_alike s r (shown s r h) (length m) t id.0 name

        went : go_back_number s m t id name ≡ 0 → ShowsSame (went_back_state s j m name) (went_back_state r k m name)
        went e =
            let u = (go_back_passed s m t id name e).runs in
            let same = slots s r (shown s r h) id.0 in
            at_slot (went_back_state s j m name) (λ i. went_back_state r i m name)
            (back_shows s r h z y j u.listed u.few m name (writable s m t z id name (go_back_passed s m t id name e))
            (subst (λ (i : ℕ). Writable (tx_at r i) m (return_writes (tx_at r i) name)) (sym same)
            (writable r m t y id name (go_back_passed r m t id name (sym alike ∙ e)))))

        pub go_back_same : SameOutcome (go_back_of s m t id name) (go_back_of r m t id name)
        unfolding go_back_of
        go_back_same =
            outcome_same m t (go_back_number s m t id name) (go_back_number r m t id name) alike
            (λ e.
            let u = (go_back_passed s m t id name e).runs in
            record {
              result = done_same refl (went e);
              memory =
                  ap (λ (ws : List Write). redo_all lay_bytes ws m)
                  (returns_same (tx_of s id.0) (tx_of r id.0) (named s r h id.0 u.listed) name);
              tail = refl;
            })

      -- ---- precommit

      precommitted : precommit_number s m t id ≡ 0 → ShowsSame (precommitted_state s j) (precommitted_state r k)
      precommitted e =
          let u = (precommit_passed s m t id e).runs in
          at_slot (precommitted_state s j) (precommitted_state r) (precommit_shows s r h z y j u.listed u.few)

      commit_same : precommit_number s m t id ≡ 0 → commit_of s id.0 ≡ commit_of r id.0
      commit_same e =
          let u = (precommit_passed s m t id e).runs in
          ap₂ (λ (n : ℕ) (ws : List Write). committed id.0 (n + 1) ws) h.assigned ((named s r h id.0 u.listed).redo u.status).writes

      pub precommit_same : SameOutcome (precommit_of s m t id) (precommit_of r m t id)
      unfolding precommit_of
      precommit_same =
          outcome_same m t (precommit_number s m t id) (precommit_number r m t id) (precommit_alike s r (shown s r h) (length m) t id.0)
          (λ e.
          record {
            result = done_same (ap (λ (n : ℕ). n + 1) h.assigned) (precommitted e);
            memory = refl;
            tail = appended_same t (commit_of s id.0) (commit_of r id.0) (commit_same e);
          })

      -- ---- abort

      pub abort_same : SameOutcome (abort_of s m t id) (abort_of r m t id)
      unfolding abort_of
      abort_same =
          outcome_same m t (abort_number s m t id) (abort_number r m t id) (abort_alike s r (shown s r h) (length m) t id.0)
          (λ e.
          let u = abort_passed s m t id e in
          record {
            result = done_same refl (dropped u.listed u.few);
            memory = ap (λ (ws : List Write). undo_all lay_bytes ws m) (named s r h id.0 u.listed).undo.writes;
            tail = appended_same t (aborted id.0) (aborted id.0) refl;
          })

      -- ---- settle

      settled : settle_number s m t id ≡ 0 → ShowsSame (dropped_state s j) (dropped_state r k)
      settled e =
          let p = settle_passed s m t id e in
          dropped p.listed p.few

      pub settle_same : SameTold (settle_of s m t id) (settle_of r m t id)
      unfolding settle_of
      settle_same =
          told_same (settle_number s m t id) (settle_number r m t id) (settle_alike s r (shown s r h) (length m) t id.0) (λ e. done_same refl (settled e))
