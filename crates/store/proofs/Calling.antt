-- The cases of the calls' outcomes, by the number and by what the code has decided on the way.
use Prim.Native.Nat.{ℕ, ◌+◌}
use mathlib.Core.Bool.{true, false}
use mathlib.Core.List.{List, []}
use mathlib.Core.Path.{◌≡◌, ap, ◌∙◌}
use lib.ListN.{length, take, drop}
use lib.Seq.{sets}
use borrow.Author.Tests.{ne_eqb}
use Rattle.recovery.specs.Group.{committed, aborted}
use Rattle.recovery.specs.Replay.{redo_all, undo_all, lay_bytes}
use Rattle.redolog.specs.declared.TxId.{TxId}
use Rattle.transaction.specs.View.{used_by, writes_of}
use Rattle.transaction.specs.Rules.{covered}
use Rattle.transaction.specs.Steps.{return_writes}
use Rattle.store.specs.declared.State.{State}
use Rattle.store.specs.State.{slot_of}
use Rattle.store.specs.Answer.{done, tells}
use Rattle.store.specs.Rules.{tail_length, room_used}
use Rattle.store.specs.Numbers.{Check, number_by, tx_of}
use Rattle.store.specs.Admission.{Choice, Admission, admission, choice}
use Rattle.store.specs.Steps.{begun_state, written_state, read_state, savepoint_state, went_back_state, precommitted_state, dropped_state}
use Rattle.store.specs.Calls.{refusing, begin_number, begin_of, write_number, write_of, read_number, read_of, answer_number, read_answer_of, appended, precommit_number}
use Rattle.store.specs.Calls.{savepoint_number, savepoint_of, go_back_number, go_back_of, precommit_of, abort_number, abort_of, settle_number, settle_of}
use Rattle.store.proofs.Admitting.{admitted, number_after_lem}
use Rattle.store.proofs.Choosing.{after_none, choice_own, choice_chosen}

-- ---- outcomes, by the number

module _ (s : State) (m t : List ℕ) where
  pub begin_refused : (n : ℕ) → begin_number s m t ≡ n → (n ≡ 0 → ⊥) → begin_of s m t ≡ refusing n s
  unfolding begin_of
  begin_refused n e h = rw (e, ne_eqb n 0 h)

  pub begin_done : begin_number s m t ≡ 0 → begin_of s m t ≡ tells done (s.lastid.0 + 1) 0 (begun_state s)
  unfolding begin_of
  begin_done e = rw e

  module _ (id : TxId) where
    pub write_refused : (a : ℕ) (bs : List ℕ) (n : ℕ) → write_number s m t id a (length bs) ≡ n → (n ≡ 0 → ⊥)
        → write_of s m t id a bs ≡ record { result = refusing n s; memory = m; tail = t }
    unfolding write_of
    write_refused a bs n e h = rw (e, ne_eqb n 0 h)

    pub write_done : (a : ℕ) (bs : List ℕ) → write_number s m t id a (length bs) ≡ 0
        → write_of s m t id a bs ≡ record { result = tells done 0 0 (written_state s (slot_of s id.0) m a bs); memory = sets m a bs; tail = t }
    unfolding write_of
    write_done a bs e = rw e

    pub read_refused : (a k n : ℕ) → read_number s m t id a k ≡ n → (n ≡ 0 → ⊥) → read_of s m t id a k ≡ []
    unfolding read_of
    read_refused a k n e h = rw (e, ne_eqb n 0 h)

    pub read_done : (a k : ℕ) → read_number s m t id a k ≡ 0 → covered (used_by (tx_of s id.0)) a k ≡ true → read_of s m t id a k ≡ take k (drop a m)
    unfolding read_of
    read_done a k e h = rw (e, h)

    pub read_uncovered : (a k : ℕ) → read_number s m t id a k ≡ 0 → covered (used_by (tx_of s id.0)) a k ≡ false → read_of s m t id a k ≡ []
    unfolding read_of
    read_uncovered a k e h = rw (e, h)

    pub answer_refused : (a k n : ℕ) → answer_number s m t id a k ≡ n → (n ≡ 0 → ⊥) → read_answer_of s m t id a k ≡ refusing n s
    unfolding read_answer_of
    answer_refused a k n e h = rw (e, ne_eqb n 0 h)

    pub answer_done : (a k : ℕ) → answer_number s m t id a k ≡ 0 → read_answer_of s m t id a k ≡ tells done 0 0 (read_state s (slot_of s id.0) a k)
    unfolding read_answer_of
    answer_done a k e = rw e

    pub savepoint_refused : (name n : ℕ) → savepoint_number s m t id name ≡ n → (n ≡ 0 → ⊥) → savepoint_of s m t id name ≡ refusing n s
    unfolding savepoint_of
    savepoint_refused name n e h = rw (e, ne_eqb n 0 h)

    pub savepoint_done : (name : ℕ) → savepoint_number s m t id name ≡ 0 → savepoint_of s m t id name ≡ tells done 0 0 (savepoint_state s (slot_of s id.0) name)
    unfolding savepoint_of
    savepoint_done name e = rw e

    pub go_back_refused : (name n : ℕ) → go_back_number s m t id name ≡ n → (n ≡ 0 → ⊥)
        → go_back_of s m t id name ≡ record { result = refusing n s; memory = m; tail = t }
    unfolding go_back_of
    go_back_refused name n e h = rw (e, ne_eqb n 0 h)

    pub go_back_done : (name : ℕ) → go_back_number s m t id name ≡ 0
        → go_back_of s m t id name
        ≡ record {
          result = tells done 0 0 (went_back_state s (slot_of s id.0) m name);
          memory = redo_all lay_bytes (return_writes (tx_of s id.0) name) m;
          tail = t;
        }
    unfolding go_back_of
    go_back_done name e = rw e

    pub precommit_refused : (n : ℕ) → precommit_number s m t id ≡ n → (n ≡ 0 → ⊥)
        → precommit_of s m t id ≡ record { result = refusing n s; memory = m; tail = t }
    unfolding precommit_of
    precommit_refused n e h = rw (e, ne_eqb n 0 h)

    pub precommit_done : precommit_number s m t id ≡ 0
        → precommit_of s m t id
        ≡ record {
          result = tells done (s.assigned.0 + 1) 0 (precommitted_state s (slot_of s id.0));
          memory = m;
          tail = appended s t (committed id.0 (s.assigned.0 + 1) (writes_of (tx_of s id.0).redo));
        }
    unfolding precommit_of
    precommit_done e = rw e

    pub abort_refused : (n : ℕ) → abort_number s m t id ≡ n → (n ≡ 0 → ⊥) → abort_of s m t id ≡ record { result = refusing n s; memory = m; tail = t }
    unfolding abort_of
    abort_refused n e h = rw (e, ne_eqb n 0 h)

    pub abort_done : abort_number s m t id ≡ 0
        → abort_of s m t id
        ≡ record {
          result = tells done 0 0 (dropped_state s (slot_of s id.0));
          memory = undo_all lay_bytes (writes_of (tx_of s id.0).undo) m;
          tail = appended s t (aborted id.0);
        }
    unfolding abort_of
    abort_done e = rw e

    pub settle_refused : (n : ℕ) → settle_number s m t id ≡ n → (n ≡ 0 → ⊥) → settle_of s m t id ≡ refusing n s
    unfolding settle_of
    settle_refused n e h = rw (e, ne_eqb n 0 h)

    pub settle_done : settle_number s m t id ≡ 0 → settle_of s m t id ≡ tells done 0 0 (dropped_state s (slot_of s id.0))
    unfolding settle_of
    settle_done e = rw e

-- ---- a call by its admission x and the choice r

-- the number is the call's own; its checks may look at the room used
pub chosen_number : (s : State) (lent : ℕ) (t : List ℕ) (id : ℕ) (x : Admission) (r : Choice) (cs : ℕ → List Check) → x ≡ admission s lent t
    → r ≡ choice s x id (cs x.room) → number_by s lent t (cs (room_used s t)) ≡ r.number
chosen_number s lent t id x r cs e f = number_after_lem s lent t x e cs ∙ choice_own s x id r (cs x.room) f

-- what is handed on to the step: the transaction's slot, and where the tail's groups end
pub record Placed (s : State) (t : List ℕ) (id : ℕ) (r : Choice) : Type 0 where
  pub slot : r.slot ≡ slot_of s id
  pub end : r.end ≡ tail_length s.ondisk.0 t

pub placed : (s : State) (lent : ℕ) (t : List ℕ) (id : ℕ) (x : Admission) (r : Choice) (cs : List Check) → x ≡ admission s lent t
    → r ≡ choice s x id cs → r.number ≡ 0 → Placed s t id r
placed s lent t id x r cs e f h =
    let c = choice_chosen s x id r cs f h in
    let n = after_none x cs (choice_own s x id r cs f ∙ h) in
    record { slot = ap (λ (y : Choice). y.slot) c; end = ap (λ (y : Choice). y.end) c ∙ (admitted s lent t x e n.0).end }
