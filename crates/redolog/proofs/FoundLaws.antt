-- Laws of `found_number` and `read_found`: a record at a time; where a commit stands in a log under some number that number is found, and a log behind
-- which no group of any number stands is the same as found.
use Prim.Native.Nat.{ℕ, ◌+◌, ◌-◌, ◌≤◌}
use native.Mathlib.Omega.{arith}
use mathlib.Core.List.{List, [], ◌∷◌}
use mathlib.Core.Option.{Option, none, some}
use mathlib.Core.Path.{◌≡◌, refl, sym, ap, ◌∙◌}
use lib.ListN.{length, drop, length-drop}
use lib.Seq.{drop-drop}
use Rattle.recovery.specs.Group.{Write, Group, committed, aborted, groups_size}
use Rattle.recovery.specs.Claim.{commits}
use Rattle.redolog.specs.Record.{Record, redo, commit, abort, size, read_record}
use Rattle.redolog.specs.Group.{read_body, group_with}
use Rattle.redolog.specs.Log.{read_log_with, read_log}
use Rattle.redolog.specs.Found.{on_record, found_step, found_number, or_one, read_found}
use Rattle.redolog.proofs.Basics.{Turned}
use Rattle.redolog.proofs.Reader.{Shrinks, step}
use Rattle.redolog.proofs.RecordLaws.{record_within}
use Rattle.redolog.proofs.GroupLaws.{GroupAt, body_inv, group_with_inv, group_with_intro}
use Rattle.redolog.proofs.LogLaws.{log_with_none, log_with_more, log_with_inv, log_next}

found_shrinks : Shrinks found_step
found_shrinks k l x s h = go (read_record s) refl
  where
    go : (y : Option Record) → read_record s ≡ y → on_record (k x) s y ≡ on_record (l x) s y
    go none e = refl
    go (some (redo id w)) e = let n = record_within s _ e in h x (drop (size (redo id w)) s) (simp length-drop (omega arith))
    go (some (commit id n)) e = refl
    go (some (abort id)) e = let n = record_within s _ e in h x (drop (size (abort id)) s) (simp length-drop (omega arith))

found_step_lem : (s : List ℕ) → found_number s ≡ on_record found_number s (read_record s)
unfolding found_number
found_step_lem s = step found_step none found_shrinks 0 s

module _ (s : List ℕ) where
  pub found_none : read_record s ≡ none → found_number s ≡ none
  found_none e = found_step_lem s ∙ ap (on_record found_number s) e

  pub found_commit : (id n : ℕ) → read_record s ≡ some (commit id n) → found_number s ≡ some n
  found_commit id n e = found_step_lem s ∙ ap (on_record found_number s) e

  found_redo : (id : ℕ) (w : Write) → read_record s ≡ some (redo id w) → found_number s ≡ found_number (drop (7 + length w.bytes) s)
  found_redo id w e = found_step_lem s ∙ ap (on_record found_number s) e

  found_abort : (id : ℕ) → read_record s ≡ some (abort id) → found_number s ≡ found_number (drop 4 s)
  found_abort id e = found_step_lem s ∙ ap (on_record found_number s) e

-- ---- over a redo record, over an abort record, at a place of a list

-- over the record r, behind which the same is found
found_turn : (at : ℕ) (r : Record) (s : List ℕ) (to : ℕ) → 1 ≤ size r → at ≤ length s → read_record (drop at s) ≡ some r → to ≡ at + size r
    → found_number (drop at s) ≡ found_number (drop (size r) (drop at s)) → Turned s at to (or_one (found_number (drop at s))) (or_one (found_number (drop to s)))
found_turn at r s to p l e h f =
    let n : size r ≤ length s - at = rw length-drop at (record_within (drop at s) r e) in
    record {
      within = omega arith;
      less = omega arith;
      same = ap or_one (f ∙ ap found_number (drop-drop (size r) at s ∙ ap (λ (j : ℕ). drop j s) (sym h)));
    }

pub redo_turn : (at id : ℕ) (w : Write) (s : List ℕ) (to : ℕ) → at ≤ length s → read_record (drop at s) ≡ some (redo id w)
    → to ≡ at + (7 + length w.bytes) → Turned s at to (or_one (found_number (drop at s))) (or_one (found_number (drop to s)))
redo_turn at id w s to l e h = found_turn at (redo id w) s to (omega arith) l e h (found_redo (drop at s) id w e)

pub abort_turn : (at id : ℕ) (s : List ℕ) (to : ℕ) → at ≤ length s → read_record (drop at s) ≡ some (abort id) → to ≡ at + 4
    → Turned s at to (or_one (found_number (drop at s))) (or_one (found_number (drop to s)))
abort_turn at id s to l e h = found_turn at (abort id) s to (omega arith) l e h (found_abort (drop at s) id e)

-- ---- a log that is read as found

found_body : (next id : ℕ) (ws : List Write) (s : List ℕ) → read_body next id s ≡ some ws → found_number s ≡ some next
found_body next id [] s e = found_commit s id next (body_inv next id s [] e)
found_body next id (w ∷ ws) s e =
    let i = body_inv next id s (w ∷ ws) e in
    found_redo s id w i.0 ∙ found_body next id ws (drop (7 + length w.bytes) s) i.1

found_aborted : (s : List ℕ) (id : ℕ) → read_record s ≡ some (abort id) → read_found s ≡ aborted id ∷ read_found (drop 4 s)
unfolding read_found
found_aborted s id e =
    let n = or_one (found_number s) in
    log_with_more n s (aborted id) (group_with_intro n s (aborted id) e)
    ∙ ap (λ (x : Option ℕ). aborted id ∷ read_log_with (or_one x) (drop 4 s)) (found_abort s id e)

found_committed : (next : ℕ) (s : List ℕ) (id n : ℕ) (ws : List Write) → GroupAt next s (committed id n ws) → read_found s ≡ read_log_with next s
unfolding read_found
found_committed next s id n ws e = ap (λ (x : Option ℕ). read_log_with (or_one x) s) (found_body next id ws s e.1)

-- where a commit stands in the log under some number, that number is found
pub found_any : (next : ℕ) (gs : List Group) (s : List ℕ) → read_log_with next s ≡ gs → (commits gs ≡ [] → ⊥) → read_found s ≡ gs
found_any next [] s e h = absurd (h refl)
found_any next (aborted id ∷ gs) s e h =
    let i = log_with_inv next s (aborted id) gs e in
    found_aborted s id (group_with_inv next s (aborted id) i.0) ∙ ap (λ (hs : List Group). aborted id ∷ hs) (found_any next gs (drop 4 s) i.1 h)
found_any next (committed id n ws ∷ gs) s e h =
    let i = log_with_inv next s (committed id n ws) gs e in
    found_committed next s id n ws (group_with_inv next s (committed id n ws) i.0) ∙ e

-- where no group of any number stands behind its groups, a log is the same as found
pub found_with_same : (next : ℕ) (gs : List Group) (s : List ℕ) → read_log_with next s ≡ gs
    → ((n : ℕ) → group_with n (drop (groups_size gs) s) ≡ none) → read_found s ≡ gs
unfolding read_found
found_with_same next [] s e h = log_with_none _ s (h (or_one (found_number s)))
found_with_same next (aborted id ∷ gs) s e h =
    let i = log_with_inv next s (aborted id) gs e in
    found_aborted s id (group_with_inv next s (aborted id) i.0)
    ∙ ap (λ (hs : List Group). aborted id ∷ hs)
    (found_with_same next gs (drop 4 s) i.1 (λ k. ap (group_with k) (drop-drop (groups_size gs) 4 s) ∙ h k))
found_with_same next (committed id n ws ∷ gs) s e h =
    let i = log_with_inv next s (committed id n ws) gs e in
    found_committed next s id n ws (group_with_inv next s (committed id n ws) i.0) ∙ e

pub found_same : (prev : ℕ) (gs : List Group) (s : List ℕ) → read_log prev s ≡ gs → ((n : ℕ) → group_with n (drop (groups_size gs) s) ≡ none)
    → read_found s ≡ gs
found_same prev gs s e h = found_with_same (prev + 1) gs s (sym (log_next prev s) ∙ e) h
