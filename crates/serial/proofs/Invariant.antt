-- The invariant of the ledger with reads, and the steps that keep it by the ledger's own rules: all but a read.
use Prim.Native.Nat.{ℕ}
use mathlib.Core.Path.{◌≡◌, refl, sym, ap, ◌∙◌, subst}
use mathlib.Core.Logic.{◌≢◌}
use mathlib.Core.Bool.{Bool, true, false, not, cond}
use mathlib.Core.List.{List, [], ◌∷◌, ◌++◌, map, append-nil}
use lib.Dec.{eqb}
use borrow.Author.Tests.{eqb-true, eq-eqb}
use Rattle.recovery.specs.Group.{Write}
use Rattle.recovery.specs.Lists.{All, nil, cons}
use Rattle.recovery.specs.Savepoint.{count_at}
use Rattle.recovery.specs.Ledger.{OpenTx, committed_memory, of_id, add_writes, note_savepoint, taken_back, add_return}
use Rattle.recovery.proofs.Bool.{opposed}
use Rattle.recovery.proofs.Lists.{all_map, all_zip, all_append, all_mapped, all_filter, all_passing}
use Rattle.recovery.proofs.Byte.{newest_append}
use Rattle.recovery.proofs.Returns.{taken_leaves}
use Rattle.serial.specs.Ledger.{Read, OpenWithReads, CommitWithReads, LedgerWithReads, committed_of, open_tx_of, others_of, entry_for}
use Rattle.serial.specs.Ledger.{without_reads, lifted, with_active, note_begun, note_wrote, note_savepoint_set, note_went_back, note_precommitted, note_rolled_back, note_flushed, note_settled, note_restarted, note_cut}
use Rattle.serial.proofs.Ordered.{Leaves, Sees, sees_writes, sees_commit, InOrder, order_left, order_more}
use Rattle.serial.proofs.Run.{Misses}
use Rattle.serial.proofs.Assigned.{assigned_in, assigned_precommitted, assigned_rolled_back, assigned_flushed, assigned_restarted}

-- the open transaction's reads, against those assigned
abbrev pub OpenSees : List ℕ → List CommitWithReads → OpenWithReads → Type 0
OpenSees m before s = All (Sees m before s.tx.writes) s.reads

-- no other has written what one has read
abbrev pub ReadsLeft : OpenWithReads → OpenWithReads → Type 0
ReadsLeft s t = t.tx.id ≢ s.tx.id → All (Leaves t.tx.writes) s.reads

-- while the store is up
pub record Reading (m : List ℕ) (k : LedgerWithReads) : Type 0 where
  pub order : InOrder m [] (assigned_in k)
  pub assigned : k.assigned ≡ assigned_in k
  pub active : All (OpenSees m (assigned_in k)) k.active
  pub apart : All (λ s. All (ReadsLeft s) k.active) k.active

-- while it is down
pub record AtRest (m : List ℕ) (k : LedgerWithReads) : Type 0 where
  pub order : InOrder m [] k.durable
  pub none_open : k.active ≡ []
  pub none_queued : k.queue ≡ []

-- ---- open transactions by id

abbrev is_other : ℕ → OpenWithReads → Bool
is_other i s = not (eqb i s.tx.id)

-- what holds of each open one, and of one without writes and reads, holds of the one found
all_open : {p : OpenWithReads → Type 0} (i : ℕ) {ss : List OpenWithReads} → p (record { tx = record { id = i; writes = []; savepoints = [] }; reads = [] })
    → All p ss → p (open_tx_of i ss)
all_open i h nil = h
all_open {p} i h (cons {x = s} {xs = ss} q qs) = go (eqb i s.tx.id) (all_open i h qs)
  where
    go : (b : Bool) → p (open_tx_of i ss) → p (cond b s (open_tx_of i ss))
    go true k = q
    go false k = k

open_id : (i : ℕ) (ss : List OpenWithReads) → (open_tx_of i ss).tx.id ≡ i
open_id i [] = refl
open_id i (s ∷ ss) = go (eqb i s.tx.id) refl (open_id i ss)
  where
    go : (b : Bool) → eqb i s.tx.id ≡ b → (open_tx_of i ss).tx.id ≡ i → (cond b s (open_tx_of i ss)).tx.id ≡ i
    go true e h = sym (eqb-true i s.tx.id e)
    go false e h = h

-- the others have other ids
pub all_others : {p : OpenWithReads → Type 0} (i : ℕ) {ss : List OpenWithReads} → All (λ s. i ≢ s.tx.id → p s) ss → All p (others_of i ss)
all_others i h = all_passing (is_other i) (all_map (λ s f e. f (λ q. opposed e (ap not (eq-eqb i s.tx.id q)))) h)

-- one without writes leaves every read
leave_none : (rs : List Read) → All (Leaves []) rs
leave_none [] = nil
leave_none (r ∷ rs) = cons (λ a h. refl) (leave_none rs)

-- ---- a change of one open transaction that adds writes

all_given : {p : OpenWithReads → Type 0} (ss : List OpenWithReads) → ((s : OpenWithReads) → p s) → All p ss
all_given [] f = nil
all_given (s ∷ ss) f = cons (f s) (all_given ss f)

pub edited_id : (i : ℕ) (g : OpenTx → OpenTx) → ((t : OpenTx) → (g t).id ≡ t.id) → (t : OpenTx) → (of_id i g t).id ≡ t.id
edited_id i g same t = go (eqb i t.id)
  where
    go : (b : Bool) → (cond b (g t) t).id ≡ t.id
    go true = same t
    go false = refl

-- g adds these writes to the open transaction of the id
module _ (i : ℕ) (g : OpenTx → OpenTx) (adds : OpenTx → List Write) (same : (t : OpenTx) → (g t).id ≡ t.id)
    (more : (t : OpenTx) → (g t).writes ≡ t.writes ++ adds t) where
  edited_sees : (m : List ℕ) (before : List CommitWithReads) (s : OpenWithReads) → OpenSees m before s → OpenSees m before (lifted (of_id i g) s)
  edited_sees m before s h = go (eqb i s.tx.id)
    where
      go : (b : Bool) → All (Sees m before (cond b (g s.tx) s.tx).writes) s.reads
      go true = rw (more s.tx) (all_map (λ r x. sees_writes (adds s.tx) x) h)
      go false = h

  edited_apart : (s t : OpenWithReads) → (t.tx.id ≢ s.tx.id → i ≡ t.tx.id → All (Leaves (adds t.tx)) s.reads) → ReadsLeft s t
      → ReadsLeft (lifted (of_id i g) s) (lifted (of_id i g) t)
  edited_apart s t new old n = go (eqb i t.tx.id) refl (λ e. n (edited_id i g same t.tx ∙ e ∙ sym (edited_id i g same s.tx)))
    where
      go : (b : Bool) → eqb i t.tx.id ≡ b → t.tx.id ≢ s.tx.id → All (Leaves (cond b (g t.tx) t.tx).writes) s.reads
      go true e d =
          rw (more t.tx)
          (all_map (λ r p a c. newest_append a t.tx.writes (adds t.tx) ∙ rw (p.1 a c) (p.0 a c)) (all_zip (old d) (new d (eqb-true i t.tx.id e))))
      go false e d = old d

-- ---- the rules

module _ (m : List ℕ) (k : LedgerWithReads) (v : Reading m k) where
  abbrev all : List CommitWithReads
  all = assigned_in k

  -- the same of a ledger that assigns the same, with the same open transactions
  same_reading : (k' : LedgerWithReads) → assigned_in k' ≡ assigned_in k → k'.assigned ≡ k.assigned → k'.active ≡ k.active → Reading m k'
  same_reading k' e f g = record {
    order = subst (InOrder m []) (sym e) v.order;
    assigned = f ∙ v.assigned ∙ sym e;
    active = rw (e, g) v.active;
    apart = rw g v.apart;
  }

  pub begun_reading : (i : ℕ) → Reading m (note_begun i k)
  begun_reading i = record {
    order = v.order;
    assigned = v.assigned;
    active = all_append v.active (cons {x = fresh} nil nil);
    apart = all_append (all_map (λ s h. all_append h (cons {x = fresh} (λ n. leave_none s.reads) nil)) v.apart)
        (cons {x = fresh} (nothing (k.active ++ (fresh ∷ []))) nil);
  }
    where
      fresh : OpenWithReads
      fresh = record { tx = record { id = i; writes = []; savepoints = [] }; reads = [] }

      nothing : (ts : List OpenWithReads) → All (ReadsLeft (record { tx = record { id = i; writes = []; savepoints = [] }; reads = [] })) ts
      nothing [] = nil
      nothing (t ∷ ts) = cons (λ n. nil) (nothing ts)

  edited_reading : (i : ℕ) (g : OpenTx → OpenTx) (adds : OpenTx → List Write) → ((t : OpenTx) → (g t).id ≡ t.id)
      → ((t : OpenTx) → (g t).writes ≡ t.writes ++ adds t)
      → All (λ s. All (λ t. t.tx.id ≢ s.tx.id → i ≡ t.tx.id → All (Leaves (adds t.tx)) s.reads) k.active) k.active
      → Reading m (with_active (map (lifted (of_id i g)) k.active) k)
  edited_reading i g adds same more leaves = record {
    order = v.order;
    assigned = v.assigned;
    active = all_mapped (lifted (of_id i g)) (all_map (λ s h. edited_sees i g adds same more m all s h) v.active);
    apart = all_mapped (lifted (of_id i g))
        (all_map (λ s p. all_mapped (lifted (of_id i g)) (all_map (λ t q. edited_apart i g adds same more s t q.0 q.1) (all_zip p.0 p.1)))
        (all_zip leaves v.apart));
  }

  pub wrote_reading : (i : ℕ) (w : Write) → All (λ s. s.tx.id ≢ i → All (Misses w) s.reads) k.active → Reading m (note_wrote i w k)
  wrote_reading i w unread =
      edited_reading i (add_writes (w ∷ [])) (λ t. w ∷ []) (λ t. refl) (λ t. refl)
      (all_map (λ s h. all_given k.active (λ t n e. all_map (λ r x. x) (h (λ q. n (sym e ∙ sym q))))) unread)

  pub savepoint_set_reading : (i name : ℕ) → Reading m (note_savepoint_set i name k)
  savepoint_set_reading i name =
      edited_reading i (note_savepoint name) (λ t. []) (λ t. refl) (λ t. sym (append-nil t.writes))
      (all_given k.active (λ s. all_given k.active (λ t n e. leave_none s.reads)))

  -- a return writes where its transaction has written
  pub went_back_reading : (i name : ℕ) → Reading m (note_went_back i name k)
  went_back_reading i name =
      let c : List ℕ = committed_memory (without_reads k) in
      edited_reading i (add_return c name) (λ t. taken_back c (count_at name t.savepoints) t.writes) (λ t. refl) (λ t. refl)
      (all_map (λ s h. all_map
      (λ t apart n e. all_map (λ r leaves a x. taken_leaves a c (count_at name t.tx.savepoints) t.tx.writes (leaves a x)) (apart n)) h) v.apart)

  pub precommitted_reading : (i n : ℕ) → Reading m (note_precommitted i n k)
  precommitted_reading i n = record {
    order = subst (InOrder m []) (sym (assigned_precommitted i n k)) (order_more m [] all c v.order (all_open {p = OpenSees m all} i nil v.active));
    assigned = ap (λ (l : List CommitWithReads). l ++ (c ∷ [])) v.assigned ∙ sym (assigned_precommitted i n k);
    active = subst (λ (l : List CommitWithReads). All (OpenSees m l) (others_of i k.active)) (sym (assigned_precommitted i n k))
        (all_others i (all_map (λ s p d. commit_one s p.0 p.1 d) (all_zip v.active v.apart)));
    apart = all_filter (is_other i) (all_map (λ s h. all_filter (is_other i) h) v.apart);
  }
    where
      c : CommitWithReads
      c = entry_for i n k

      commit_one : (s : OpenWithReads) → OpenSees m all s → All (ReadsLeft s) k.active → i ≢ s.tx.id → OpenSees m (all ++ (c ∷ [])) s
      commit_one s sees aparts d =
          let leaves : All (Leaves c.commit.writes) s.reads =
          all_open {p = ReadsLeft s} i (λ _. leave_none s.reads) aparts (λ e. d (sym (open_id i k.active) ∙ e)) in
          all_map (λ r p. sees_commit c p.1 p.0) (all_zip sees leaves)

  pub rolled_back_reading : (i : ℕ) → Reading m (note_rolled_back i k)
  rolled_back_reading i = record {
    order = subst (InOrder m []) (sym (assigned_rolled_back i k)) v.order;
    assigned = v.assigned ∙ sym (assigned_rolled_back i k);
    active = subst (λ (l : List CommitWithReads). All (OpenSees m l) (others_of i k.active)) (sym (assigned_rolled_back i k)) (all_filter (is_other i) v.active);
    apart = all_filter (is_other i) (all_map (λ s h. all_filter (is_other i) h) v.apart);
  }

  pub flushed_reading : (q allowed : ℕ) → Reading m (note_flushed q allowed k)
  flushed_reading q allowed = same_reading (note_flushed q allowed k) (assigned_flushed q allowed k) refl refl

  pub settled_reading : (i : ℕ) → Reading m (note_settled i k)
  settled_reading i = same_reading (note_settled i k) refl refl refl

  -- what is durable is in order
  pub durable_order : InOrder m [] k.durable
  durable_order = order_left m [] k.durable (committed_of k.queue) v.order

  pub cut_resting : AtRest m (note_cut k)
  cut_resting = record { order = durable_order; none_open = refl; none_queued = refl }

pub restarted_reading : (m : List ℕ) (k : LedgerWithReads) (undone : ℕ) → InOrder m [] k.durable → Reading m (note_restarted undone k)
restarted_reading m k undone h =
    let same = assigned_restarted undone k in
    record { order = subst (InOrder m []) (sym same) h; assigned = sym same; active = nil; apart = nil }
