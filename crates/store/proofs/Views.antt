-- What each call that is not refused does to the view, in the words of `recovery`'s abstract store.
use Prim.Native.Nat.{ℕ, zero, suc, ◌+◌, ◌-◌, ◌≤◌, ◌<◌}
use native.Mathlib.Nat.{zero-add}
use native.Mathlib.Numerals.{add-one}
use native.Mathlib.Omega.{arith}
use mathlib.Core.Bool.{true, false}
use mathlib.Core.List.{List, [], ◌∷◌, ◌++◌}
use mathlib.Core.Option.{some}
use mathlib.Core.Path.{◌≡◌, refl, sym, ap, ap₂, ◌∙◌}
use lib.ListN.{length, take, drop, length-take}
use lib.Seq.{sets}
use lib.Dec.{eqb}
use borrow.Author.Tests.{eqb-true, eq-eqb, ne_eqb, le-leb}
use Rattle.recovery.specs.Group.{Group, committed, aborted, redo_size, group_size, last_csn}
use Rattle.recovery.specs.Transaction.{Tx as Transaction, lookup, edit, remove}
use Rattle.recovery.specs.Machine.{Live, new_tx, with_write, with_savepoint, in_commit, after_begin, after_write, after_savepoint, after_go_back, after_precommit, after_abort, after_settle}
use Rattle.recovery.specs.Replay.{redo_all, undo_all, lay_bytes, olds_of}
use Rattle.recovery.specs.Savepoint.{count_at}
use Rattle.recovery.proofs.Returns.{with_records, writes_live}
use Rattle.redolog.specs.declared.TxId.{TxId}
use Rattle.redolog.specs.Flat.{writes_from}
use Rattle.redolog.specs.Group.{well_formed_body, well_formed_group}
use Rattle.redolog.specs.Log.{read_log}
use Rattle.redolog.proofs.Basics.{and_left, and_right}
use Rattle.transaction.specs.declared.records.Records.{Records}
use Rattle.transaction.specs.declared.Tx.{Tx}
use Rattle.transaction.specs.Lists.{up_from}
use Rattle.transaction.specs.Flat.{empty_records}
use Rattle.transaction.specs.View.{ranges_of, savepoints_of, writes_of, view_of}
use Rattle.transaction.specs.Rules.{records_ok, ranges_size, stood_at, later_ranges}
use Rattle.transaction.specs.Steps.{fresh_tx, with_read, return_writes, gone_back, precommitted}
use Rattle.transaction.proofs.Lists.{up_snoc, up_same}
use Rattle.transaction.proofs.RangeLaws.{counted, ranged}
use Rattle.transaction.proofs.Writes.{bytes_length, sized}
use Rattle.transaction.proofs.Pushed.{Sized}
use Rattle.transaction.proofs.SavepointLaws.{place_fits, set_count}
use Rattle.transaction.proofs.Returning.{Writable, written_view, savepoint_view, all_view, return_writable, later_size}
use Rattle.image.proofs.Rules.{ruled_at}
use Rattle.store.specs.declared.State.{State}
use Rattle.store.specs.Answer.{Told}
use Rattle.store.specs.State.{tx_at, slot_of, image_of}
use Rattle.store.specs.Rules.{tail_length, all_zero}
use Rattle.store.specs.Numbers.{tx_of}
use Rattle.store.specs.Steps.{begun_state, written_state, read_state, savepoint_state, went_back_state, precommitted_state, dropped_state}
use Rattle.store.specs.Calls.{Outcome, begin_number, begin_of, write_number, write_of, answer_number, read_answer_of, savepoint_number, savepoint_of, go_back_number, go_back_of}
use Rattle.store.specs.Calls.{appended, precommit_number, precommit_of, abort_number, abort_of, settle_number, settle_of}
use Rattle.store.specs.View.{view_at, live}
use Rattle.store.proofs.Slots.{slot}
use Rattle.store.proofs.Fits.{Fit}
use Rattle.store.proofs.Passing.{RunningPassed, GoBackPassed, same_count, begin_passed, write_passed, answer_passed, savepoint_passed, go_back_passed, precommit_passed, abort_passed, settle_passed}
use Rattle.store.proofs.Calling.{begin_done, write_done, answer_done, savepoint_done, go_back_done, precommit_done, abort_done, settle_done}
use Rattle.store.proofs.Positions.{Changed, Dropped, First, found, edited, removed}
use Rattle.store.proofs.Appending.{appended_log}
use Rattle.store.proofs.Stepping.{SizedState, same_or_other, begun_slot, written_slot, read_slot, savepoint_slot, back_slot, precommitted_slot, dropped_slot}

-- ---- one transaction

fresh_view : (id : TxId) → view_of (fresh_tx id) ≡ new_tx id.0
unfolding fresh_tx empty_records
fresh_view id = refl

read_view : (t : Tx) (a n : ℕ) → view_of (with_read t a n) ≡ view_of t
unfolding with_read
read_view t a n = refl

precommitted_view : (t : Tx) (n : ℕ) → view_of (precommitted t (record { 0 = n })) ≡ in_commit n (view_of t)
unfolding precommitted empty_records
precommitted_view t n = refl

view_changed : (s r : State) (j : ℕ) (u : Tx) → Changed (tx_at s) (tx_at r) j u → Changed (view_at s) (view_at r) j (view_of u)
view_changed s r j u c = record { here = ap view_of c.here; other = λ x n. ap view_of (c.other x n) }

view_dropped : (s r : State) (j n : ℕ) → Dropped (tx_at s) (tx_at r) j n → Dropped (view_at s) (view_at r) j n
view_dropped s r j n d = record { before = λ x a. ap view_of (d.before x a); after = λ x a b. ap view_of (d.after x a b) }

first : (s : State) (id : ℕ) → slot_of s id < s.count → First (view_at s) id 0 (slot_of s id)
first s id h = let x = slot s id in record { low = x.low; there = x.there (omega arith); before = x.before }

-- a listed transaction is what the view has under its id
pub listed_view : (s : State) (m t : List ℕ) (id : ℕ) → slot_of s id < s.count → lookup id (live s m t).txs ≡ some (view_of (tx_of s id))
listed_view s m t id h = found (view_at s) id (slot_of s id) s.count 0 (first s id h) (omega arith)

-- ---- the group that precommit appends may stand in a log

body_right : (r : Records) (id csn : ℕ) → Sized r → records_ok (ranges_of r.ranges) ≡ true → eqb id 0 ≡ false → (k i : ℕ) → i + k ≤ r.ranges.count
    → well_formed_body id csn (writes_from r.ranges.addr r.ranges.len r.bytes k i) ≡ true
body_right r id csn z e n zero i h = rw n
body_right r id csn z e n (suc k) i h =
    let g = ranged r.ranges e i (omega arith) in
    let c = counted r.ranges e in
    let l = bytes_length r i z.space (omega arith) g.1 in
    rw (n, l, le-leb _ _ g.0, le-leb _ _ g.1, le-leb _ _ g.2) (body_right r id csn z e n k (suc i) (omega arith))

id_nonzero : (s : State) (m t : List ℕ) (id : ℕ) → RunningPassed s m t id → eqb id 0 ≡ false
id_nonzero s m t id p = ne_eqb id 0 (λ z. omega (arith, z, p.named, (ruled_at (image_of s) p.fits.image (slot_of s id) p.listed).named))

pub tail_csn : (s : State) (t : List ℕ) → Fit s t → last_csn s.ondisk.0 (read_log s.ondisk.0 t) ≡ s.assigned.0
tail_csn s t f = eqb-true _ _ (and_left _ (all_zero (drop (tail_length s.ondisk.0 t) t)) f.tail)

pub tail_zeros : (s : State) (t : List ℕ) → Fit s t → all_zero (drop (tail_length s.ondisk.0 t) t) ≡ true
tail_zeros s t f = and_right (eqb (last_csn s.ondisk.0 (read_log s.ondisk.0 t)) s.assigned.0) _ f.tail

-- all that appending a group asks
pub record Appends (s : State) (t : List ℕ) (g : Group) : Type 0 where
  pub room : tail_length s.ondisk.0 t + group_size g ≤ length t
  pub right : well_formed_group (last_csn s.ondisk.0 (read_log s.ondisk.0 t)) g ≡ true

abbrev pub commit_of : State → ℕ → Group
commit_of s id = committed id (s.assigned.0 + 1) (writes_of (tx_of s id).redo)

module _ (s : State) (m t : List ℕ) (id : ℕ) (p : RunningPassed s m t id) where
  -- the group's size, by the ranges of the redo records
  pub commit_size : SizedState s → group_size (commit_of s id) ≡ ranges_size (ranges_of (tx_of s id).redo.ranges) + 8
  commit_size z =
      let x = (tx_of s id).redo in
      ap (λ (n : ℕ). n + 8) (sized x (z.each (slot_of s id) p.listed).redos.space (counted x.ranges p.redo) (λ j b. (ranged x.ranges p.redo j b).1))

  pub commit_appends : SizedState s → Appends s t (commit_of s id)
  commit_appends z =
      let x = (tx_of s id).redo in
      let y = (z.each (slot_of s id) p.listed).redos in
      record {
        room = omega (arith, commit_size z, p.tail, p.room);
        right =
            rw (tail_csn s t p.fits, eq-eqb (s.assigned.0 + 1) (s.assigned.0 + 1) refl)
            (body_right x id (s.assigned.0 + 1) y p.redo (id_nonzero s m t id p) x.ranges.count 0 (omega arith));
      }

  pub abort_appends : Appends s t (aborted id)
  abort_appends = record { room = omega (arith, p.tail, p.room); right = rw (id_nonzero s m t id p) }

-- ---- the calls

abbrev with_txs_lem : State → List ℕ → List ℕ → List Transaction → Live
with_txs_lem s m t ts = record { txs = ts; memory = m; tail = read_log s.ondisk.0 t; csn = s.ondisk.0; last_id = s.lastid.0 }

written_numbers : (s : State) (m t : List ℕ) (j a : ℕ) (bs : List ℕ)
    → live (written_state s j m a bs) (sets m a bs) t ≡ with_txs_lem s (sets m a bs) t (up_from (view_at (written_state s j m a bs)) s.count 0)
unfolding written_state
written_numbers s m t j a bs = refl

read_numbers : (s : State) (m t : List ℕ) (j a n : ℕ) → live (read_state s j a n) m t ≡ with_txs_lem s m t (up_from (view_at (read_state s j a n)) s.count 0)
unfolding read_state
read_numbers s m t j a n = refl

savepoint_numbers : (s : State) (m t : List ℕ) (j name : ℕ) → live (savepoint_state s j name) m t ≡ with_txs_lem s m t (up_from (view_at (savepoint_state s j name)) s.count 0)
unfolding savepoint_state
savepoint_numbers s m t j name = refl

back_numbers : (s : State) (m m' t : List ℕ) (j name : ℕ)
    → live (went_back_state s j m name) m' t ≡ with_txs_lem s m' t (up_from (view_at (went_back_state s j m name)) s.count 0)
unfolding went_back_state
back_numbers s m m' t j name = refl

back_view : (t : Tx) (m : List ℕ) (name : ℕ) → Writable t m (return_writes t name)
    → view_of (gone_back t m name) ≡ with_records (olds_of m (return_writes t name)) (return_writes t name) (view_of t)
unfolding gone_back
back_view t m name w = all_view t m (return_writes t name) w

-- what the writes of a return ask
pub writable : (s : State) (m t : List ℕ) → SizedState s → (id : TxId) (name : ℕ) → GoBackPassed s m t id.0 name
    → Writable (tx_of s id.0) m (return_writes (tx_of s id.0) name)
writable s m t z id name p =
    let r = p.runs in
    let y = z.each (slot_of s id.0) r.listed in
    return_writable (tx_of s id.0) name y.undos r.undo y.redos r.same p.records m r.memory

precommitted_numbers : (s : State) (m t : List ℕ) (j : ℕ)
    → live (precommitted_state s j) m t ≡ with_txs_lem s m t (up_from (view_at (precommitted_state s j)) s.count 0)
unfolding precommitted_state
precommitted_numbers s m t j = refl

dropped_numbers : (s : State) (m t : List ℕ) (j : ℕ) → live (dropped_state s j) m t ≡ with_txs_lem s m t (up_from (view_at (dropped_state s j)) (s.count - 1) 0)
unfolding dropped_state
dropped_numbers s m t j = refl

dropped_txs : (s : State) (id : ℕ) → SizedState s → s.count ≤ 8 → slot_of s id < s.count
    → up_from (view_at (dropped_state s (slot_of s id))) (s.count - 1) 0 ≡ remove id (up_from (view_at s) s.count 0)
dropped_txs s id z few l =
    let j = slot_of s id in
    let n : suc (s.count - 1) ≡ s.count = omega arith in
    removed (view_at s) (view_at (dropped_state s j)) id j s.count (s.count - 1) 0 (first s id l)
    (view_dropped s (dropped_state s j) j s.count (dropped_slot s z j l few)) (omega arith) (omega arith)
    ∙ ap (λ (k : ℕ). remove id (up_from (view_at s) k 0)) n

module _ (s : State) (m t : List ℕ) (z : SizedState s) where
  begun_live : s.count < 8 → live (begun_state s) m t ≡ after_begin (live s m t)
  unfolding begun_state
  begun_live h =
      let c = view_changed s (begun_state s) s.count (fresh_tx (record { 0 = s.lastid.0 + 1 })) (begun_slot s z h) in
      let n : view_at (begun_state s) (0 + s.count) ≡ new_tx (suc s.lastid.0) =
      ap (view_at (begun_state s)) (zero-add s.count) ∙ c.here ∙ fresh_view (record { 0 = s.lastid.0 + 1 }) ∙ ap new_tx (add-one s.lastid.0) in
      ap₂ (λ (ts : List Transaction) (i : ℕ). record { txs = ts; memory = m; tail = read_log s.ondisk.0 t; csn = s.ondisk.0; last_id = i })
      (ap (λ (k : ℕ). up_from (view_at (begun_state s)) k 0) (add-one s.count)
      ∙ up_snoc (view_at (begun_state s)) s.count 0
      ∙ ap₂ (λ (ts : List Transaction) (r : Transaction). ts ++ (r ∷ []))
      (up_same (view_at (begun_state s)) (view_at s) s.count 0 (λ x p q. c.other x (λ e. omega (arith, q, e)))) n)
      (add-one s.lastid.0)

  -- Begin adds a running transaction without records, of the next id.
  pub begin_live : begin_number s m t ≡ 0 → live (begin_of s m t).state m t ≡ after_begin (live s m t)
  begin_live e =
      ap (λ (r : State). live r m t) (ap (λ (b : Told). b.state) (begin_done s m t e)) ∙ begun_live (begin_passed s m t e).free

  module _ (id : TxId) where
    abbrev j : ℕ
    j = slot_of s id.0

    abbrev tx : Transaction
    tx = view_of (tx_of s id.0)

    -- Write adds an undo record with the old bytes and a redo record, and lays the new bytes.
    pub write_live : (a : ℕ) (bs : List ℕ) → write_number s m t id a (length bs) ≡ 0
        → live (write_of s m t id a bs).result.state (write_of s m t id a bs).memory (write_of s m t id a bs).tail
        ≡ after_write tx (record { addr = a; bytes = bs }) (live s m t)
    write_live a bs e =
        let p = write_passed s m t id a (length bs) e in
        let r = p.runs in
        let old = take (length bs) (drop a m) in
        let l : length old ≤ 32 = rw length-take (omega (arith, p.range.short)) in
        let y = z.each j r.listed in
        let v = written_view (tx_at s j) a old bs y.undos y.redos r.undo r.redo p.undo p.redo l p.range.short in
        let c = view_changed s (written_state s j m a bs) j _ (written_slot s z j r.listed r.few m a bs) in
        let g = with_write (record { addr = a; bytes = old }) (record { addr = a; bytes = bs }) in
        let d : Changed (view_at s) (view_at (written_state s j m a bs)) j (g (view_at s j)) = record { here = c.here ∙ v; other = c.other } in
        ap (λ (o : Outcome). live o.result.state o.memory o.tail) (write_done s m t id a bs e)
        ∙ written_numbers s m t j a bs
        ∙ ap (with_txs_lem s (sets m a bs) t)
        (edited (view_at s) (view_at (written_state s j m a bs)) id.0 j g s.count 0 (first s id.0 r.listed) d (omega (arith, r.listed))
        ∙ ap (λ (i : ℕ). edit i g (up_from (view_at s) s.count 0)) (sym r.named))

    -- Read's sister changes nothing that the view has: it knows no holds of reads.
    pub answer_live : (a n : ℕ) → answer_number s m t id a n ≡ 0 → live (read_answer_of s m t id a n).state m t ≡ live s m t
    answer_live a n e =
        let r = (answer_passed s m t id a n e).read.runs in
        let u = read_state s j a n in
        let c = view_changed s u j _ (read_slot s z j r.listed r.few a n) in
        ap (λ (o : Told). live o.state m t) (answer_done s m t id a n e)
        ∙ read_numbers s m t j a n
        ∙ ap (with_txs_lem s m t)
        (up_same (view_at u) (view_at s) s.count 0
        (λ i p q. same_or_other i j (λ x. ap (view_at u) x ∙ c.here ∙ read_view (tx_at s j) a n ∙ ap (view_at s) (sym x)) (c.other i)))

    -- A savepoint set: the name, with how many writes stand.
    pub savepoint_live : (name : ℕ) → savepoint_number s m t id name ≡ 0 → live (savepoint_of s m t id name).state m t ≡ after_savepoint tx name (live s m t)
    savepoint_live name e =
        let p = savepoint_passed s m t id name e in
        let r = p.runs in
        let x = tx_at s j in
        let v =
        savepoint_view x name (z.each j r.listed).savepoints (place_fits x.extras.savepoints x.undo.ranges.count name p.saved p.given)
        (same_count x.undo.ranges x.redo.ranges r.same) in
        let c = view_changed s (savepoint_state s j name) j _ (savepoint_slot s z j r.listed r.few name) in
        let d : Changed (view_at s) (view_at (savepoint_state s j name)) j (with_savepoint name (view_at s j)) = record { here = c.here ∙ v; other = c.other } in
        ap (λ (o : Told). live o.state m t) (savepoint_done s m t id name e)
        ∙ savepoint_numbers s m t j name
        ∙ ap (with_txs_lem s m t)
        (edited (view_at s) (view_at (savepoint_state s j name)) id.0 j (with_savepoint name) s.count 0 (first s id.0 r.listed) d (omega (arith, r.listed))
        ∙ ap (λ (i : ℕ). edit i (with_savepoint name) (up_from (view_at s) s.count 0)) (sym r.named))

    -- Gone back: the old bytes of every later write, newest first, as writes.
    pub go_back_live : (name : ℕ) → go_back_number s m t id name ≡ 0
        → live (go_back_of s m t id name).result.state (go_back_of s m t id name).memory (go_back_of s m t id name).tail
        ≡ after_go_back tx (stood_at name (tx_of s id.0)) (live s m t)
    go_back_live name e =
        let p = go_back_passed s m t id name e in
        let r = p.runs in
        let x = tx_at s j in
        let ws = return_writes x name in
        let g = with_records (olds_of m ws) ws in
        let m' = redo_all lay_bytes ws m in
        let v = back_view x m name (writable s m t z id name p) in
        let c = view_changed s (went_back_state s j m name) j _ (back_slot s z j r.listed r.few m name) in
        let d : Changed (view_at s) (view_at (went_back_state s j m name)) j (g (view_at s j)) = record { here = c.here ∙ v; other = c.other } in
        ap (λ (o : Outcome). live o.result.state o.memory o.tail) (go_back_done s m t id name e)
        ∙ back_numbers s m m' t j name
        ∙ ap (with_txs_lem s m' t)
        (edited (view_at s) (view_at (went_back_state s j m name)) id.0 j g s.count 0 (first s id.0 r.listed) d (omega (arith, r.listed))
        ∙ ap (λ (i : ℕ). edit i g (up_from (view_at s) s.count 0)) (sym r.named))
        ∙ sym (writes_live ws tx (live s m t))

    -- numbers 18 and 13 of going back, in recovery's words
    pub set_view : (name : ℕ) → go_back_number s m t id name ≡ 0 → count_at name tx.savepoints ≡ some (stood_at name (tx_of s id.0))
    set_view name e = set_count name (savepoints_of (tx_of s id.0)) (go_back_passed s m t id name e).set

    pub later_view : (name : ℕ) → go_back_number s m t id name ≡ 0
        → redo_size (drop (stood_at name (tx_of s id.0)) tx.undo) ≡ ranges_size (later_ranges name (tx_of s id.0))
    later_view name e =
        let r = (go_back_passed s m t id name e).runs in
        later_size (tx_of s id.0) name (z.each j r.listed).undos r.undo

    -- Precommit turns the redo list into the group at the tail's end, and marks the transaction committing.
    pub precommit_live : precommit_number s m t id ≡ 0
        → live (precommit_of s m t id).result.state (precommit_of s m t id).memory (precommit_of s m t id).tail ≡ after_precommit tx (live s m t)
    precommit_live e =
        let r = (precommit_passed s m t id e).runs in
        let y = commit_appends s m t id.0 r z in
        let n : s.assigned.0 + 1 ≡ suc (last_csn s.ondisk.0 (read_log s.ondisk.0 t)) = add-one s.assigned.0
        ∙ ap suc (sym (tail_csn s t r.fits)) in
        let c = view_changed s (precommitted_state s j) j _ (precommitted_slot s z j r.listed r.few) in
        let d : Changed (view_at s) (view_at (precommitted_state s j)) j (in_commit (s.assigned.0 + 1) (view_at s j)) =
        record { here = c.here ∙ precommitted_view (tx_at s j) (s.assigned.0 + 1); other = c.other } in
        ap (λ (o : Outcome). live o.result.state o.memory o.tail) (precommit_done s m t id e)
        ∙ precommitted_numbers s m (appended s t (commit_of s id.0)) j
        ∙ ap₂ (λ (ts : List Transaction) (gs : List Group). record { txs = ts; memory = m; tail = gs; csn = s.ondisk.0; last_id = s.lastid.0 })
        (edited (view_at s) (view_at (precommitted_state s j)) id.0 j (in_commit (s.assigned.0 + 1)) s.count 0 (first s id.0 r.listed) d
        (omega (arith, r.listed))
        ∙ ap₂ (λ (i k : ℕ). edit i (in_commit k) (up_from (view_at s) s.count 0)) (sym r.named) n)
        (appended_log s.ondisk.0 t (commit_of s id.0) (tail_zeros s t r.fits) y.room y.right
        ∙ ap₂ (λ (i k : ℕ). read_log s.ondisk.0 t ++ (committed i k (writes_of (tx_of s id.0).redo) ∷ [])) (sym r.named) n)

    -- Abort undoes newest first, appends the abort record and drops the transaction.
    pub abort_live : abort_number s m t id ≡ 0
        → live (abort_of s m t id).result.state (abort_of s m t id).memory (abort_of s m t id).tail ≡ after_abort tx (live s m t)
    abort_live e =
        let r = abort_passed s m t id e in
        let y = abort_appends s m t id.0 r in
        let m' = undo_all lay_bytes (writes_of (tx_of s id.0).undo) m in
        ap (λ (o : Outcome). live o.result.state o.memory o.tail) (abort_done s m t id e)
        ∙ dropped_numbers s m' (appended s t (aborted id.0)) j
        ∙ ap₂ (λ (ts : List Transaction) (gs : List Group). record { txs = ts; memory = m'; tail = gs; csn = s.ondisk.0; last_id = s.lastid.0 })
        (dropped_txs s id.0 z r.few r.listed ∙ ap (λ (i : ℕ). remove i (up_from (view_at s) s.count 0)) (sym r.named))
        (appended_log s.ondisk.0 t (aborted id.0) (tail_zeros s t r.fits) y.room y.right
        ∙ ap (λ (i : ℕ). read_log s.ondisk.0 t ++ (aborted i ∷ [])) (sym r.named))

    -- Settle drops the transaction.
    pub settle_live : settle_number s m t id ≡ 0 → live (settle_of s m t id).state m t ≡ after_settle tx (live s m t)
    settle_live e =
        let p = settle_passed s m t id e in
        ap (λ (o : Told). live o.state m t) (settle_done s m t id e)
        ∙ dropped_numbers s m t j
        ∙ ap (with_txs_lem s m t)
        (dropped_txs s id.0 z p.few p.listed ∙ ap (λ (i : ℕ). remove i (up_from (view_at s) s.count 0)) (sym p.named))
