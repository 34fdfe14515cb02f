-- M1, cut and done, M3, returns to savepoints (document 02, A.7), and a checkpoint in form two (A.9) as lists of calls: the steps can be taken, and the
-- theorem says what one more restart leaves.
use mathlib.Core.Path.{◌≡◌, refl, sym, ap, ◌∙◌, subst}
use mathlib.Core.List.{List, [], ◌∷◌}
use Prim.Native.Nat.{ℕ}
use lib.Dec.{lit≤}
use lib.ListN.{get_or, replicate, set}
use Rattle.layout.specs.declared.Form.{Form}
use Rattle.layout.specs.declared.Form.TheVariants.{One, Two}
use Rattle.recovery.specs.Group.{Write, committed}
use Rattle.recovery.specs.Lists.{nil}
use Rattle.recovery.specs.Transaction.{Tx}
use Rattle.recovery.specs.Restart.{undo_order}
use Rattle.recovery.specs.Ledger.{Commit, Ledger, open_writes, lay_commits}
use Rattle.recovery.specs.Machine.{Opening, fresh_opening, standing_before, standing_in, number_before, System, disk_of, recovered, new_tx, with_write, with_savepoint, in_commit, begins}
use Rattle.recovery.specs.Machine.{writes, sets_savepoint, goes_back, precommits, rolls_back, flushes, flush_is_cut, settles, checkpoints, restarts, Run, opened, next}
use Rattle.recovery.proofs.Cases.{byte10, byte11}
use Rattle.recovery.proofs.Theorem.{theorem}

-- a fresh disk of a form
abbrev store_of : Form → Opening
store_of form = fresh_opening form 4096 16384

abbrev store : Opening
store = store_of One

-- a list of calls, where it leads, and what it leaves durable
pub record HistoryOf (form : Form) : Type 0 where
  pub system : System
  pub ledger : Ledger
  pub run : Run (store_of form) system ledger

abbrev pub History : Type 0
History = HistoryOf One

-- restart; id 1 writes 41 42 (hexadecimal) at 10, precommit
abbrev m1_write : Write
m1_write = record { addr = 10; bytes = 0x41 ∷ 0x42 ∷ [] }

abbrev m1_old : Write
m1_old = record { addr = 10; bytes = 0 ∷ 0 ∷ [] }

unfoldable m1 : History
unfolding undo_order standing_before
m1 =
    let r0 = next opened (restarts _ 0 (lit≤ tt) nil nil) in
    let r1 = next r0 (begins _ _ (lit≤ tt)) in
    let r2 = next r1 (writes _ _ (new_tx 1) m1_write refl refl (lit≤ tt) refl (lit≤ tt)) in
    let r3 = next r2 (precommits _ _ (with_write m1_old m1_write (new_tx 1)) refl refl) in
    record { system = _; ledger = _; run = r3 }

-- flush 1 with 17 stores is done, with 16 it is cut
m1_done : History
unfolding m1 undo_order
m1_done = record { system = _; ledger = _; run = next m1.run (flushes _ _ 1 17 (lit≤ tt)) }

m1_cut : History
unfolding m1 undo_order
m1_cut = record { system = _; ledger = _; run = next m1.run (flush_is_cut _ _ 1 16 (lit≤ tt)) }

m1_done_durable : m1_done.ledger.durable ≡ record { id = 1; csn = 1; writes = m1_write ∷ [] } ∷ []
unfolding m1_done m1 undo_order
m1_done_durable = refl

m1_cut_recovers : recovered (disk_of m1_cut.system) ≡ replicate 4096 0
unfolding m1_cut m1 undo_order
m1_cut_recovers = (theorem store m1_cut.run).restores

-- restart; id 1 writes 5 at 10, checkpoint, abort; id 2 writes 7 there, precommit, flush 2, settle
unfoldable pub m3 : History
unfolding undo_order standing_before
m3 =
    let r0 = next opened (restarts _ 0 (lit≤ tt) nil nil) in
    let r1 = next r0 (begins _ _ (lit≤ tt)) in
    let r2 = next r1 (writes _ _ (new_tx 1) (byte10 5) refl refl (lit≤ tt) refl (lit≤ tt)) in
    let r3 = next r2 (checkpoints _ _) in
    let r4 = next r3 (rolls_back _ _ (with_write (byte10 0) (byte10 5) (new_tx 1)) refl refl) in
    let r5 = next r4 (begins _ _ (lit≤ tt)) in
    let r6 = next r5 (writes _ _ (new_tx 2) (byte10 7) refl refl (lit≤ tt) refl (lit≤ tt)) in
    let r7 = next r6 (precommits _ _ (with_write (byte10 0) (byte10 7) (new_tx 2)) refl refl) in
    let r8 = next r7 (flushes _ _ 2 1000 (lit≤ tt)) in
    let r9 = next r8 (settles _ _ (in_commit 1 (with_write (byte10 0) (byte10 7) (new_tx 2))) refl refl (lit≤ tt)) in
    record { system = _; ledger = _; run = r9 }

-- id 2 is durable and settled
m3_durable : m3.ledger.durable ≡ record { id = 2; csn = 1; writes = byte10 7 ∷ [] } ∷ []
unfolding m3 undo_order
m3_durable = refl

m3_settled : m3.ledger.settled ≡ m3.ledger.durable
unfolding m3 undo_order
m3_settled = refl

-- so one more restart leaves 7
pub m3_recovers : recovered (disk_of m3.system) ≡ set (replicate 4096 0) 10 7
m3_recovers = (theorem store m3.run).restores ∙ ap (λ (cs : List Commit). lay_commits cs (replicate 4096 0)) m3_durable

-- ---- savepoints

-- id 1 wrote 5 at 10, set savepoint 7, and wrote 6 at 11; then it went back
abbrev set7 : Tx
set7 = with_savepoint 7 (with_write (byte10 0) (byte10 5) (new_tx 1))

abbrev tried : Tx
tried = with_write (byte11 0) (byte11 6) set7

abbrev back : Tx
back = with_write (byte11 6) (byte11 0) tried

-- up to the tried write
unfoldable before : History
unfolding undo_order standing_before
before =
    let r0 = next opened (restarts _ 0 (lit≤ tt) nil nil) in
    let r1 = next r0 (begins _ _ (lit≤ tt)) in
    let r2 = next r1 (writes _ _ (new_tx 1) (byte10 5) refl refl (lit≤ tt) refl (lit≤ tt)) in
    let r3 = next r2 (sets_savepoint _ _ (with_write (byte10 0) (byte10 5) (new_tx 1)) 7 refl refl) in
    let r4 = next r3 (writes _ _ set7 (byte11 6) refl refl (lit≤ tt) refl (lit≤ tt)) in
    record { system = _; ledger = _; run = r4 }

-- the checkpoint stands between savepoint and return; precommit
unfoldable return : History
unfolding before undo_order standing_before
return =
    let r5 = next before.run (checkpoints _ _) in
    let r6 = next r5 (goes_back _ _ tried 7 1 refl refl refl (lit≤ tt)) in
    let r7 = next r6 (precommits _ _ back refl refl) in
    record { system = _; ledger = _; run = r7 }

-- the current fails before the flush; flush 1 with 31 stores is cut, with 32 it is done
return_cut : History
unfolding return before undo_order
return_cut = record { system = _; ledger = _; run = next return.run (flush_is_cut _ _ 1 31 (lit≤ tt)) }

return_done : History
unfolding return before undo_order
return_done = record { system = _; ledger = _; run = next return.run (flushes _ _ 1 32 (lit≤ tt)) }

tried_lost : recovered (disk_of return.system) ≡ replicate 4096 0
unfolding return before undo_order
tried_lost = (theorem store return.run).restores

return_cut_lost : recovered (disk_of return_cut.system) ≡ replicate 4096 0
unfolding return_cut return before undo_order
return_cut_lost = (theorem store return_cut.run).restores

-- 5 at 10, and the tried write does not survive
abbrev Bytes : List ℕ → Type 0
Bytes m = (get_or m 10 0 ≡ 5) × (get_or m 11 0 ≡ 0)

return_kept : Bytes (recovered (disk_of return_done.system))
unfolding return_done return before undo_order
return_kept = subst Bytes (sym (theorem store return_done.run).restores) (refl, refl)

-- returns in a row take back 1 write, then 2, then 4
abbrev back_twice : Tx
back_twice = with_write (byte11 6) (byte11 0) (with_write (byte11 0) (byte11 6) back)

returns : History
unfolding before undo_order standing_before
returns =
    let r5 = next before.run (goes_back _ _ tried 7 1 refl refl refl (lit≤ tt)) in
    let r6 = next r5 (goes_back _ _ back 7 1 refl refl refl (lit≤ tt)) in
    let r7 = next r6 (goes_back _ _ back_twice 7 1 refl refl refl (lit≤ tt)) in
    record { system = _; ledger = _; run = r7 }

returns_written : open_writes 1 returns.ledger.active
    ≡ byte10 5 ∷ byte11 6 ∷ byte11 0 ∷ byte11 6 ∷ byte11 0 ∷ byte11 6 ∷ byte11 0 ∷ byte11 6 ∷ byte11 0 ∷ []
unfolding returns before undo_order
returns_written = refl

-- the name moved behind the tried write: going back leaves it
moved : History
unfolding before undo_order standing_before
moved =
    let r5 = next before.run (sets_savepoint _ _ tried 7 refl refl) in
    let r6 = next r5 (writes _ _ (with_savepoint 7 tried) (byte11 8) refl refl (lit≤ tt) refl (lit≤ tt)) in
    let r7 = next r6 (goes_back _ _ (with_write (byte11 6) (byte11 8) (with_savepoint 7 tried)) 7 2 refl refl refl (lit≤ tt)) in
    record { system = _; ledger = _; run = r7 }

moved_written : open_writes 1 moved.ledger.active ≡ byte10 5 ∷ byte11 6 ∷ byte11 8 ∷ byte11 6 ∷ []
unfolding moved before undo_order
moved_written = refl

-- ---- form two

-- id 1 writes 5 at 10, precommit, flush 1, settle, checkpoint; id 2 writes 7 there, precommit, flush 1
unfoldable wiped : HistoryOf Two
unfolding undo_order standing_before
wiped =
    let r0 = next opened (restarts _ 0 (lit≤ tt) nil nil) in
    let r1 = next r0 (begins _ _ (lit≤ tt)) in
    let r2 = next r1 (writes _ _ (new_tx 1) (byte10 5) refl refl (lit≤ tt) refl (lit≤ tt)) in
    let r3 = next r2 (precommits _ _ (with_write (byte10 0) (byte10 5) (new_tx 1)) refl refl) in
    let r4 = next r3 (flushes _ _ 1 1000 (lit≤ tt)) in
    let r5 = next r4 (settles _ _ (in_commit 1 (with_write (byte10 0) (byte10 5) (new_tx 1))) refl refl (lit≤ tt)) in
    let r6 = next r5 (checkpoints _ _) in
    let r7 = next r6 (begins _ _ (lit≤ tt)) in
    let r8 = next r7 (writes _ _ (new_tx 2) (byte10 7) refl refl (lit≤ tt) refl (lit≤ tt)) in
    let r9 = next r8 (precommits _ _ (with_write (byte10 5) (byte10 7) (new_tx 2)) refl refl) in
    let r10 = next r9 (flushes _ _ 1 1000 (lit≤ tt)) in
    record { system = _; ledger = _; run = r10 }

-- both are durable; the second's group stands alone in the log, and goes on from the image's number
wiped_durable : wiped.ledger.durable ≡ record { id = 1; csn = 1; writes = byte10 5 ∷ [] } ∷ record { id = 2; csn = 2; writes = byte10 7 ∷ [] } ∷ []
unfolding wiped undo_order
wiped_durable = refl

wiped_stands : standing_in (disk_of wiped.system) ≡ committed 2 2 (byte10 7 ∷ []) ∷ []
unfolding wiped undo_order standing_before
wiped_stands = refl

wiped_number : number_before (store_of Two) (disk_of wiped.system) ≡ 1
unfolding wiped undo_order number_before
wiped_number = refl

-- and one more restart leaves 7
wiped_recovers : recovered (disk_of wiped.system) ≡ set (replicate 4096 0) 10 7
wiped_recovers = (theorem (store_of Two) wiped.run).restores ∙ ap (λ (cs : List Commit). lay_commits cs (replicate 4096 0)) wiped_durable
