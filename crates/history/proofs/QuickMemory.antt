-- The calls in memory, the quick way, are right.
use Prim.Native.Nat.{ℕ, ◌+◌, ◌≤◌}
use native.Mathlib.Omega.{arith}
use mathlib.Core.Bool.{true, cond}
use mathlib.Core.List.{List, [], ◌++◌}
use mathlib.Core.Path.{◌≡◌, refl, ap, ◌∙◌}
use lib.ListN.{length, take, drop, length-append}
use lib.Seq.{sets, length-sets}
use lib.Dec.{eqb, leb}
use borrow.Author.Tests.{eqb-true, leb-true}
use Rattle.recovery.specs.Group.{Group, committed, aborted, groups_size}
use Rattle.recovery.specs.Replay.{redo_all, undo_all, lay_bytes}
use Rattle.recovery.proofs.Byte.{redo_length, undo_length}
use Rattle.redolog.specs.Group.{encode_group}
use Rattle.redolog.proofs.Basics.{and_left, and_right}
use Rattle.transaction.specs.Lists.{sum_of}
use Rattle.transaction.specs.View.{used_by, writes_of}
use Rattle.transaction.specs.Rules.{covered, room_of}
use Rattle.transaction.specs.Steps.{return_writes}
use Rattle.store.specs.declared.State.{State}
use Rattle.store.specs.State.{txs_of}
use Rattle.store.specs.Rules.{tail_length, room_used}
use Rattle.store.specs.Numbers.{tx_of, begin_checks, write_checks, read_checks, answer_checks, savepoint_checks, go_back_checks, precommit_checks, abort_checks, settle_checks}
use Rattle.store.specs.Calls.{read_of, precommit_of, abort_of, begin_number, write_number, read_number, go_back_number, appended}
use Rattle.store.proofs.Calling.{begin_done, begin_refused, write_done, write_refused, read_refused, answer_done, answer_refused}
use Rattle.store.proofs.Calling.{savepoint_done, savepoint_refused, go_back_done, go_back_refused, precommit_done, precommit_refused, abort_done, abort_refused, settle_done, settle_refused}
use Rattle.history.specs.Calls.{begin, write, read, read_answer, savepoint, go_back, precommit, abort, settle, part, World, Stepped}
use Rattle.history.specs.Calls.{returned, changed, step_of}
use Rattle.history.proofs.Padded.{padded, padded_log, number_of, shared_number, padded_append}
use Rattle.history.proofs.Quick.{widened, Lengths, follows, here, begin_quick, write_quick, read_quick, answer_quick}
use Rattle.history.proofs.Quick.{savepoint_quick, go_back_quick, precommit_quick, abort_quick, settle_quick}
use Rattle.history.proofs.QuickRight.{Right, decide, tested, done_right}

module _ (d m bs : List ℕ) (s : State) (l : Lengths d m bs) where
  abbrev w : World
  w = widened (here d m bs s)

  abbrev t : List ℕ
  t = padded bs

  room : room_used s t ≡ room_used s bs
  room = ap (λ (gs : List Group). s.logend + groups_size gs + sum_of room_of (txs_of s)) (padded_log s.ondisk.0 bs)

  pub begin_right : Right (step_of begin w) (begin_quick d m bs s)
  unfolding step_of
  begin_right =
      let cs = begin_checks s.count s.lastid.0 (room_used s bs) in
      let n = number_of s bs cs in
      let e : begin_number s m t ≡ n = rw room (shared_number s m bs cs l.memory l.tail) in
      decide (returned w _) n _ _ (λ z. (ap (returned w) (begin_done s m t (e ∙ z)), l)) (λ h. (ap (returned w) (begin_refused s m t n e h), l))

  pub write_right : (id a : ℕ) (new : List ℕ) → Right (step_of (write id a new) w) (write_quick d m bs s id a new)
  unfolding step_of
  write_right id a new =
      let cs = write_checks s (room_used s bs) id a (length new) in
      let n = number_of s bs cs in
      let e : write_number s m t (record { 0 = id }) a (length new) ≡ n = rw room (shared_number s m bs cs l.memory l.tail) in
      let l' : Lengths d (sets m a new) bs = record { disk = l.disk; memory = length-sets m a new ∙ l.memory; tail = l.tail } in
      decide (changed w _) n _ _
      (λ z. (ap (changed w) (write_done s m t (record { 0 = id }) a new (e ∙ z)), l'))
      (λ h. (ap (changed w) (write_refused s m t (record { 0 = id }) a new n e h), l))

  read_found_lem : (id a k : ℕ) → read_number s m t (record { 0 = id }) a k ≡ 0
      → read_of s m t (record { 0 = id }) a k ≡ cond (covered (used_by (tx_of s id)) a k) (take k (drop a m)) []
  unfolding read_of
  read_found_lem id a k e = rw e

  pub read_right : (id a k : ℕ) → Right (step_of (read id a k) w) (read_quick d m bs s id a k)
  unfolding step_of
  read_right id a k =
      let n = number_of s bs (read_checks s id a k) in
      let e = shared_number s m bs (read_checks s id a k) l.memory l.tail in
      let hand : List ℕ → Stepped = λ bytes. record { reply = part bytes; world = w } in
      decide (hand _) n _ _
      (λ z. (ap hand (read_found_lem id a k (e ∙ z)), l))
      (λ h. (ap hand (read_refused s m t (record { 0 = id }) a k n e h), l))

  pub answer_right : (id a k : ℕ) → Right (step_of (read_answer id a k) w) (answer_quick d m bs s id a k)
  unfolding step_of
  answer_right id a k =
      let n = number_of s bs (answer_checks s id a k) in
      let e = shared_number s m bs (answer_checks s id a k) l.memory l.tail in
      decide (returned w _) n _ _
      (λ z. (ap (returned w) (answer_done s m t (record { 0 = id }) a k (e ∙ z)), l))
      (λ h. (ap (returned w) (answer_refused s m t (record { 0 = id }) a k n e h), l))

  pub savepoint_right : (id name : ℕ) → Right (step_of (savepoint id name) w) (savepoint_quick d m bs s id name)
  unfolding step_of
  savepoint_right id name =
      let n = number_of s bs (savepoint_checks s id name) in
      let e = shared_number s m bs (savepoint_checks s id name) l.memory l.tail in
      decide (returned w _) n _ _
      (λ z. (ap (returned w) (savepoint_done s m t (record { 0 = id }) name (e ∙ z)), l))
      (λ h. (ap (returned w) (savepoint_refused s m t (record { 0 = id }) name n e h), l))

  pub go_back_right : (id name : ℕ) → Right (step_of (go_back id name) w) (go_back_quick d m bs s id name)
  unfolding step_of
  go_back_right id name =
      let cs = go_back_checks s (room_used s bs) id name in
      let n = number_of s bs cs in
      let e : go_back_number s m t (record { 0 = id }) name ≡ n = rw room (shared_number s m bs cs l.memory l.tail) in
      let ws = return_writes (tx_of s id) name in
      let l' : Lengths d (redo_all lay_bytes ws m) bs = record { disk = l.disk; memory = redo_length 4096 m l.memory ws; tail = l.tail } in
      decide (changed w _) n _ _
      (λ z. (ap (changed w) (go_back_done s m t (record { 0 = id }) name (e ∙ z)), l'))
      (λ h. (ap (changed w) (go_back_refused s m t (record { 0 = id }) name n e h), l))

  pub settle_right : (id : ℕ) → Right (step_of (settle id) w) (settle_quick d m bs s id)
  unfolding step_of
  settle_right id =
      let n = number_of s bs (settle_checks s id) in
      let e = shared_number s m bs (settle_checks s id) l.memory l.tail in
      decide (returned w _) n _ _
      (λ z. (ap (returned w) (settle_done s m t (record { 0 = id }) (e ∙ z)), l))
      (λ h. (ap (returned w) (settle_refused s m t (record { 0 = id }) n e h), l))

  -- ---- a group more

  module _ (g : Group) (f : follows s bs (encode_group g) ≡ true) where
    abbrev size : ℕ
    size = length bs + length (encode_group g)

    size_fits : size ≤ 16384
    size_fits = leb-true size 16384 (and_right (eqb (tail_length s.ondisk.0 bs) (length bs)) (leb size 16384) f)

    tail_whole : tail_length s.ondisk.0 bs ≡ length bs
    tail_whole = eqb-true _ _ (and_left (eqb (tail_length s.ondisk.0 bs) (length bs)) (leb size 16384) f)

    tail_appended : appended s t g ≡ padded (bs ++ encode_group g)
    tail_appended =
        let n : tail_length s.ondisk.0 t ≡ length bs = ap groups_size (padded_log s.ondisk.0 bs) ∙ tail_whole in
        ap (λ (k : ℕ). sets t k (encode_group g)) n ∙ padded_append bs (encode_group g) size_fits

    grown : (m' : List ℕ) → length m' ≡ 4096 → Lengths d m' (bs ++ encode_group g)
    grown m' k = record { disk = l.disk; memory = k; tail = omega (arith, length-append bs (encode_group g), size_fits) }

  pub precommit_right : (id : ℕ) → Right (step_of (precommit id) w) (precommit_quick d m bs s id)
  unfolding step_of
  precommit_right id =
      let n = number_of s bs (precommit_checks s id) in
      let e = shared_number s m bs (precommit_checks s id) l.memory l.tail in
      let g = committed id (s.assigned.0 + 1) (writes_of (tx_of s id).redo) in
      let x = changed w (precommit_of s m t (record { 0 = id })) in
      decide x n _ _
      (λ z. tested x (follows s bs (encode_group g)) _ (λ f.
      done_right x (ap (changed w) (precommit_done s m t (record { 0 = id }) (e ∙ z))) refl refl (tail_appended g f) (grown g f m l.memory)))
      (λ h. (ap (changed w) (precommit_refused s m t (record { 0 = id }) n e h), l))

  pub abort_right : (id : ℕ) → Right (step_of (abort id) w) (abort_quick d m bs s id)
  unfolding step_of
  abort_right id =
      let n = number_of s bs (abort_checks s id) in
      let e = shared_number s m bs (abort_checks s id) l.memory l.tail in
      let g = aborted id in
      let us = writes_of (tx_of s id).undo in
      let long = undo_length 4096 m l.memory us in
      let x = changed w (abort_of s m t (record { 0 = id })) in
      decide x n _ _
      (λ z. tested x (follows s bs (encode_group g)) _ (λ f.
      done_right x (ap (changed w) (abort_done s m t (record { 0 = id }) (e ∙ z))) refl refl (tail_appended g f) (grown g f (undo_all lay_bytes us m) long)))
      (λ h. (ap (changed w) (abort_refused s m t (record { 0 = id }) n e h), l))
