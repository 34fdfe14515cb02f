-- Stamps tell transactions apart, whatever the ledger with reads is fed: no two of the durable and queued have the same, and that of a lost one never comes
-- back. So a reader of a transaction that was assigned and then lost is never durable.
use Prim.Native.Nat.{ℕ, suc, ◌≤◌, ◌<◌}
use native.Mathlib.Omega.{arith}
use mathlib.Core.Path.{◌≡◌, refl, sym, ap, ◌∙◌, subst}
use mathlib.Core.Logic.{◌≢◌}
use mathlib.Core.List.{List, [], ◌∷◌, ◌++◌, append-nil}
use Rattle.recovery.specs.Lists.{All, nil, cons}
use Rattle.recovery.specs.Ledger.{Event, unchanged, begun, wrote, savepoint_set, went_back, precommitted, rolled_back, flushed, settled, restarted, cut}
use Rattle.recovery.proofs.Lists.{all_map, all_append, all_left, all_mapped}
use Rattle.recovery.proofs.Distinct.{Distinct, empty, distinct_left, distinct_more}
use Rattle.serial.specs.Ledger.{CommitWithReads, LedgerWithReads, no_reads, stamps_of, committed_of, entry_for, note_flushed, note, Fed, event, saw, feed}
use Rattle.serial.specs.Claim.{Serial}
use Rattle.serial.proofs.Assigned.{assigned_in, assigned_precommitted, assigned_rolled_back, assigned_flushed, assigned_restarted}

-- ---- what one feeding does to the durable and queued

-- what is durable then was durable or queued before, as a leading run
durable_leads : (e : Event) (k : LedgerWithReads) → (rest : List CommitWithReads) × (assigned_in k ≡ (note e k).durable ++ rest)
durable_leads unchanged k = (committed_of k.queue, refl)
durable_leads (begun i) k = (committed_of k.queue, refl)
durable_leads (wrote i w) k = (committed_of k.queue, refl)
durable_leads (savepoint_set i name) k = (committed_of k.queue, refl)
durable_leads (went_back i name) k = (committed_of k.queue, refl)
durable_leads (precommitted i n) k = (committed_of k.queue, refl)
durable_leads (rolled_back i) k = (committed_of k.queue, refl)
durable_leads (flushed q allowed) k = (committed_of (note_flushed q allowed k).queue, sym (assigned_flushed q allowed k))
durable_leads (settled i) k = (committed_of k.queue, refl)
durable_leads (restarted undone) k = (committed_of k.queue, refl)
durable_leads (cut e) k = durable_leads e k

stamps_grow : (e : Event) (k : LedgerWithReads) → k.stamps ≤ (note e k).stamps
stamps_grow unchanged k = omega arith
stamps_grow (begun i) k = omega arith
stamps_grow (wrote i w) k = omega arith
stamps_grow (savepoint_set i name) k = omega arith
stamps_grow (went_back i name) k = omega arith
stamps_grow (precommitted i n) k = omega arith
stamps_grow (rolled_back i) k = omega arith
stamps_grow (flushed q allowed) k = omega arith
stamps_grow (settled i) k = omega arith
stamps_grow (restarted undone) k = omega arith
stamps_grow (cut e) k = stamps_grow e k

-- a leading run of them is left, or one more comes last, under the next stamp
data Turns (k k' : LedgerWithReads) : Type 0 where
  left : (rest : List CommitWithReads) → assigned_in k ≡ assigned_in k' ++ rest → k.stamps ≤ k'.stamps → Turns k k'
  one : (c : CommitWithReads) → assigned_in k' ≡ assigned_in k ++ (c ∷ []) → c.stamp ≡ k.stamps → k'.stamps ≡ suc k.stamps → Turns k k'

same : (k k' : LedgerWithReads) → assigned_in k ≡ assigned_in k' → k.stamps ≡ k'.stamps → Turns k k'
same k k' e f = left [] (e ∙ sym (append-nil (assigned_in k'))) (omega arith)

note_turns : (e : Event) (k : LedgerWithReads) → Turns k (note e k)
note_turns unchanged k = same k k refl refl
note_turns (begun i) k = same k (note (begun i) k) refl refl
note_turns (wrote i w) k = same k (note (wrote i w) k) refl refl
note_turns (savepoint_set i name) k = same k (note (savepoint_set i name) k) refl refl
note_turns (went_back i name) k = same k (note (went_back i name) k) refl refl
note_turns (precommitted i n) k = one (entry_for i n k) (assigned_precommitted i n k) refl refl
note_turns (rolled_back i) k = same k (note (rolled_back i) k) (sym (assigned_rolled_back i k)) refl
note_turns (flushed q allowed) k = same k (note (flushed q allowed) k) (sym (assigned_flushed q allowed k)) refl
note_turns (settled i) k = same k (note (settled i) k) refl refl
note_turns (restarted undone) k =
    left (committed_of k.queue) (ap (λ (l : List CommitWithReads). l ++ committed_of k.queue) (sym (assigned_restarted undone k))) (omega arith)
note_turns (cut e) k =
    let d = durable_leads e k in
    left d.0 (d.1 ∙ ap (λ (l : List CommitWithReads). l ++ d.0) (sym (append-nil (note e k).durable))) (stamps_grow e k)

turns : (f : Fed) (k : LedgerWithReads) → Turns k (feed f k)
turns (event e) k = note_turns e k
turns (saw i addr bytes) k = same k (feed (saw i addr bytes) k) refl refl

-- ---- no stamp is given twice

pub record Stamped (k : LedgerWithReads) : Type 0 where
  pub once : Distinct (λ c. c.stamp) (assigned_in k)
  pub given : All (λ c. c.stamp < k.stamps) (assigned_in k)

pub stamped_none : (m : List ℕ) → Stamped (no_reads m)
stamped_none m = record { once = empty; given = nil }

pub stamped_feed : (f : Fed) (k : LedgerWithReads) → Stamped k → Stamped (feed f k)
stamped_feed f k v = go (turns f k)
  where
    go : Turns k (feed f k) → Stamped (feed f k)
    go (left rest e h) = record {
      once = distinct_left (assigned_in (feed f k)) rest (subst (Distinct (λ c. c.stamp)) e v.once);
      given = all_map (λ c b. omega arith) (all_left (assigned_in (feed f k)) rest (subst (All (λ c. c.stamp < k.stamps)) e v.given));
    }
    go (one c e s n) = record {
      once = subst (Distinct (λ x. x.stamp)) (sym e)
          (distinct_more (assigned_in k) c [] (rw append-nil (all_map (λ x b q. omega arith) v.given)) (rw append-nil v.once));
      given = subst (All (λ x. x.stamp < (feed f k).stamps)) (sym e) (all_append (all_map (λ x b. omega arith) v.given) (cons {x = c} (omega arith) nil));
    }

-- ---- a lost one stays lost

-- the stamp was given, and neither a durable nor a queued one has it
pub record Lost (n : ℕ) (k : LedgerWithReads) : Type 0 where
  pub given : n < k.stamps
  pub gone : All (λ c. c.stamp ≢ n) (assigned_in k)

pub lost_stays : (n : ℕ) (f : Fed) (k : LedgerWithReads) → Lost n k → Lost n (feed f k)
lost_stays n f k v = go (turns f k)
  where
    go : Turns k (feed f k) → Lost n (feed f k)
    go (left rest e h) = record {
      given = omega (arith, v.given);
      gone = all_left (assigned_in (feed f k)) rest (subst (All (λ c. c.stamp ≢ n)) e v.gone);
    }
    go (one c e s h) = record {
      given = omega (arith, v.given);
      gone = subst (All (λ x. x.stamp ≢ n)) (sym e) (all_append v.gone (cons {x = c} (λ q. omega (arith, v.given)) nil));
    }

-- no durable transaction has read while it was assigned
pub lost_unread : (m : List ℕ) (n : ℕ) (k : LedgerWithReads) → Serial m k.durable → Lost n k
    → (before : List CommitWithReads) (c : CommitWithReads) (after : List CommitWithReads) → k.durable ≡ before ++ (c ∷ after)
    → All (λ r. All (λ s. s ≢ n) r.assigned) c.reads
lost_unread m n k serial lost before c after e =
    all_map (λ r h. all_left r.assigned h.assigned.0 (subst (All (λ s. s ≢ n)) h.assigned.1 stamps)) (serial before c after e)
  where
    durables : All (λ x. x.stamp ≢ n) (before ++ (c ∷ after))
    durables = subst (All (λ x. x.stamp ≢ n)) e (all_left k.durable (committed_of k.queue) lost.gone)

    stamps : All (λ s. s ≢ n) (stamps_of before)
    stamps = all_mapped (λ x. x.stamp) (all_left before (c ∷ after) durables)
