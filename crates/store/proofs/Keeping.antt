-- Accepted calls keep number 2: a state that passes it with its tail passes it after every call that is not refused.
use Prim.Native.Nat.{ℕ}
use mathlib.Core.Bool.{false}
use mathlib.Core.List.{List}
use mathlib.Core.Path.{◌≡◌, sym, subst}
use lib.ListN.{length}
use Rattle.recovery.specs.Group.{aborted}
use Rattle.redolog.specs.declared.TxId.{TxId}
use Rattle.store.specs.declared.State.{State}
use Rattle.store.specs.State.{slot_of}
use Rattle.store.specs.Rules.{unfit}
use Rattle.store.specs.Answer.{Told}
use Rattle.store.specs.Calls.{Outcome, appended, begin_number, begin_of, write_number, write_of, answer_number, read_answer_of, precommit_number, precommit_of}
use Rattle.store.specs.Calls.{savepoint_number, savepoint_of, go_back_number, go_back_of}
use Rattle.store.specs.Calls.{abort_number, abort_of, settle_number, settle_of}
use Rattle.store.proofs.Fits.{unfit_no}
use Rattle.store.proofs.Passing.{begin_passed, write_passed, answer_passed, savepoint_passed, go_back_passed, precommit_passed, abort_passed, settle_passed}
use Rattle.store.proofs.Calling.{begin_done, write_done, answer_done, savepoint_done, go_back_done, precommit_done, abort_done, settle_done}
use Rattle.store.proofs.Views.{commit_of, writable}
use Rattle.store.proofs.Stepping.{SizedState, begun_sized, written_sized, read_sized, savepoint_sized, back_sized, precommitted_sized, dropped_sized}
use Rattle.store.specs.Steps.{begun_state, written_state, read_state, savepoint_state, went_back_state, precommitted_state, dropped_state}
use Rattle.store.proofs.BegunFits.{begun_fits}
use Rattle.store.proofs.WrittenFits.{written_fits}
use Rattle.store.proofs.EditedFits.{read_fits, savepoint_fits, back_fits}
use Rattle.store.proofs.PrecommittedFits.{precommitted_fits}
use Rattle.store.proofs.DroppedFits.{settled_fits, aborted_fits}

pub record Kept (s : State) (t : List ℕ) : Type 0 where
  pub fits : unfit s t ≡ false
  pub sizes : SizedState s

module _ (s : State) (m t : List ℕ) (z : SizedState s) where
  pub begin_keeps : begin_number s m t ≡ 0 → Kept (begin_of s m t).state t
  begin_keeps e =
      let p = begin_passed s m t e in
      subst (λ (o : Told). Kept o.state t) (sym (begin_done s m t e))
      (record { fits = unfit_no (begun_state s) t (begun_fits s t z p.fits p.free p.room); sizes = begun_sized s z p.free })

  module _ (id : TxId) where
    abbrev at : ℕ
    at = slot_of s id.0

    pub write_keeps : (a : ℕ) (bs : List ℕ) → write_number s m t id a (length bs) ≡ 0 → Kept (write_of s m t id a bs).result.state (write_of s m t id a bs).tail
    write_keeps a bs e =
        let p = write_passed s m t id a (length bs) e in
        subst (λ (o : Outcome). Kept o.result.state o.tail) (sym (write_done s m t id a bs e))
        (record {
          fits = unfit_no (written_state s at m a bs) t (written_fits s m t id.0 a bs z p);
          sizes = written_sized s z at p.runs.listed p.runs.few m a bs;
        })

    pub answer_keeps : (a n : ℕ) → answer_number s m t id a n ≡ 0 → Kept (read_answer_of s m t id a n).state t
    answer_keeps a n e =
        let p = answer_passed s m t id a n e in
        let r = p.read.runs in
        subst (λ (o : Told). Kept o.state t) (sym (answer_done s m t id a n e))
        (record { fits = unfit_no (read_state s at a n) t (read_fits s m t id.0 a n z p); sizes = read_sized s z at r.listed r.few a n })

    pub savepoint_keeps : (name : ℕ) → savepoint_number s m t id name ≡ 0 → Kept (savepoint_of s m t id name).state t
    savepoint_keeps name e =
        let p = savepoint_passed s m t id name e in
        let r = p.runs in
        subst (λ (o : Told). Kept o.state t) (sym (savepoint_done s m t id name e))
        (record {
          fits = unfit_no (savepoint_state s at name) t (savepoint_fits s m t id.0 name z p);
          sizes = savepoint_sized s z at r.listed r.few name;
        })

    pub go_back_keeps : (name : ℕ) → go_back_number s m t id name ≡ 0 → Kept (go_back_of s m t id name).result.state (go_back_of s m t id name).tail
    go_back_keeps name e =
        let p = go_back_passed s m t id name e in
        let r = p.runs in
        let w = writable s m t z id name p in
        subst (λ (o : Outcome). Kept o.result.state o.tail) (sym (go_back_done s m t id name e))
        (record {
          fits = unfit_no (went_back_state s at m name) t (back_fits s m t id.0 name z p w);
          sizes = back_sized s z at r.listed r.few m name w;
        })

    pub precommit_keeps : precommit_number s m t id ≡ 0 → Kept (precommit_of s m t id).result.state (precommit_of s m t id).tail
    precommit_keeps e =
        let p = (precommit_passed s m t id e).runs in
        subst (λ (o : Outcome). Kept o.result.state o.tail) (sym (precommit_done s m t id e))
        (record {
          fits = unfit_no (precommitted_state s at) (appended s t (commit_of s id.0)) (precommitted_fits s m t id.0 z p);
          sizes = precommitted_sized s z at p.listed p.few;
        })

    pub abort_keeps : abort_number s m t id ≡ 0 → Kept (abort_of s m t id).result.state (abort_of s m t id).tail
    abort_keeps e =
        let p = abort_passed s m t id e in
        subst (λ (o : Outcome). Kept o.result.state o.tail) (sym (abort_done s m t id e))
        (record {
          fits = unfit_no (dropped_state s at) (appended s t (aborted id.0)) (aborted_fits s m t id.0 z p);
          sizes = dropped_sized s z at p.listed p.few;
        })

    pub settle_keeps : settle_number s m t id ≡ 0 → Kept (settle_of s m t id).state t
    settle_keeps e =
        let p = settle_passed s m t id e in
        subst (λ (o : Told). Kept o.state t) (sym (settle_done s m t id e))
        (record { fits = unfit_no (dropped_state s at) t (settled_fits s t at z p.fits p.listed); sizes = dropped_sized s z at p.listed p.few })
