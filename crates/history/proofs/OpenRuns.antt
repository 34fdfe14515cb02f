-- On any run of the machine the ledger's open transactions are the running ones; and what a return that is told to the ledger is in the machine.
use Prim.Native.Nat.{ℕ}
use mathlib.Core.Bool.{Bool, true, false}
use mathlib.Core.Logic.{◌≢◌}
use mathlib.Core.List.{List, [], ◌∷◌, ◌++◌}
use mathlib.Core.Option.{Option, none, some}
use mathlib.Core.Path.{◌≡◌, refl, sym, ap, ◌∙◌, subst}
use borrow.Author.Tests.{ne_eqb}
use Rattle.recovery.specs.Lists.{All, nil, cons}
use Rattle.recovery.specs.Savepoint.{count_at}
use Rattle.recovery.specs.Transaction.{Tx, running, lookup}
use Rattle.recovery.specs.Replay.{olds_of}
use Rattle.recovery.specs.Ledger.{Event, went_back, OpenTx, Ledger, committed_memory, enter}
use Rattle.recovery.specs.Machine.{Opening, Disk, Live, System, down, up, Listed, after_go_back, Step, stays, begins, writes, sets_savepoint, goes_back}
use Rattle.recovery.specs.Machine.{precommits, rolls_back, flushes, flush_is_cut, settles, checkpoints, checkpoint_is_cut, restarts, restart_is_cut, Run, opened, next}
use Rattle.recovery.proofs.Bool.{some_none, eqb_same}
use Rattle.recovery.proofs.Lists.{all_here, all_filter}
use Rattle.recovery.proofs.Distinct.{distinct_others}
use Rattle.recovery.proofs.Transactions.{DistinctIds, is_running, Found, find, lookup_misses, running_out, running_append, found_running, found_apart}
use Rattle.recovery.proofs.Ledger.{open_of, opens}
use Rattle.recovery.proofs.Records.{Within}
use Rattle.recovery.proofs.Invariant.{recorded}
use Rattle.recovery.proofs.Lasting.{txs_of}
use Rattle.recovery.proofs.Theorem.{holds, undo_recorded}
use Rattle.redolog.proofs.Basics.{clash}
use Rattle.history.specs.Savepoints.{open_at}

-- ---- by id

open_none : {i : ℕ} {rs : List Tx} → All (λ t. t.id ≢ i) rs → open_at i (opens rs) ≡ none
open_none nil = refl
open_none {i} (cons {x} n ns) = rw (ne_eqb i x.id (λ e. n (sym e))) (open_none ns)

open_one : (r : Tx) (xs ys : List Tx) → All (λ t. t.id ≢ r.id) (xs ++ ys) → open_at r.id (opens (xs ++ r ∷ ys)) ≡ some (open_of r)
open_one r [] ys h = rw (eqb_same r.id)
open_one r (x ∷ xs) ys (cons n ns) = rw (ne_eqb r.id x.id (λ e. n (sym e))) (open_one r xs ys ns)

-- a running transaction that the ledger has as x
pub record Runs (i : ℕ) (x : OpenTx) (s : System) : Type 0 where
  pub tx : Tx
  pub found : lookup i (txs_of s) ≡ some tx
  pub named : tx.id ≡ i
  pub running : tx.committing ≡ false
  pub noted : open_of tx ≡ x

module _ (txs : List Tx) (d : DistinctIds txs) (i : ℕ) (x : OpenTx) (e : open_at i (opens (running txs)) ≡ some x) where
  -- what is listed under the id is running
  found_open : (r : Tx) → lookup i txs ≡ some r → (r.committing ≡ false) × (open_of r ≡ x)
  found_open r l = go r.committing refl
    where
      f : Found i r txs
      f = find i r txs l

      others : All (λ t. t.id ≢ r.id) (f.before ++ f.after)
      others = distinct_others f.before r f.after (rw f.whole at d)

      go : (b : Bool) → r.committing ≡ b → (r.committing ≡ false) × (open_of r ≡ x)
      go true c =
          let none_runs : running txs ≡ running (f.before ++ f.after) =
          ap running f.whole ∙ running_out f.before r f.after c ∙ sym (running_append f.before f.after) in
          let gone : open_at r.id (opens (running txs)) ≡ none =
          ap (λ (ts : List Tx). open_at r.id (opens ts)) none_runs ∙ open_none (all_filter is_running others) in
          absurd (some_none e (subst (λ (j : ℕ). open_at j (opens (running txs)) ≡ none) f.named gone))
      go false c =
          let g : Found r.id r txs = subst (λ (j : ℕ). Found j r txs) (sym f.named) f in
          let own : open_at r.id (opens (running txs)) ≡ some (open_of r) =
          ap (λ (ts : List Tx). open_at r.id (opens ts)) (found_running r c g) ∙ open_one r (running g.before) (running g.after) (found_apart r c g d) in
          let here : open_at i (opens (running txs)) ≡ some (open_of r) = subst (λ (j : ℕ). open_at j (opens (running txs)) ≡ some (open_of r)) f.named own in
          (c, cc)

  listed_open : (o : Option Tx) → lookup i txs ≡ o → (r : Tx) × (lookup i txs ≡ some r)
  listed_open none l = absurd (some_none e (open_none (all_filter is_running (lookup_misses i txs l))))
  listed_open (some r) l = (r, l)

  open_runs : (r : Tx) × (lookup i txs ≡ some r) × (r.id ≡ i) × (r.committing ≡ false) × (open_of r ≡ x)
  open_runs =
      let l = listed_open (lookup i txs) refl in
      let f = found_open l.0 l.1 in
      (l.0, l.1, (find i l.0 txs l.1).named, f.0, f.1)

-- ---- on any run

abbrev is_down : System → Bool
is_down (down d) = true
is_down (up d l) = false

module _ (o : Opening) where
  -- while the store is down the ledger has none open
  step_closes : (s t : System) (e : Event) (k : Ledger) → Step o s e t → (is_down s ≡ true → k.active ≡ []) → is_down t ≡ true → (enter e k).active ≡ []
  step_closes s t e k (stays s') f q = f q
  step_closes s t e k (begins d l room) f q = clash (cc)
  step_closes s t e k (writes d l x w listed run within free room) f q = clash (cc)
  step_closes s t e k (sets_savepoint d l x name listed run) f q = clash (cc)
  step_closes s t e k (goes_back d l x name n listed run set room) f q = clash (cc)
  step_closes s t e k (precommits d l x listed run) f q = clash (cc)
  step_closes s t e k (rolls_back d l x listed run) f q = clash (cc)
  step_closes s t e k (flushes d l n allowed enough) f q = clash (cc)
  step_closes s t e k (flush_is_cut d l n allowed few) f q = refl
  step_closes s t e k (settles d l x listed committing on_disk_lem) f q = clash (cc)
  step_closes s t e k (checkpoints d l) f q = clash (cc)
  step_closes s t e k (checkpoint_is_cut d l) f q = refl
  step_closes s t e k (restarts s' last_id image_last image-ids group-ids) f q = clash (cc)
  step_closes s t e k (restart_is_cut s') f q = refl

  closes : (s : System) (k : Ledger) → Run o s k → is_down s ≡ true → k.active ≡ []
  closes s k opened q = refl
  closes s k (next {s = s'} {t} {k = k'} {e} r p) q = step_closes s' t e k' p (λ z. closes s' k' r z) q

  -- what the ledger has open runs
  pub runs : (s : System) (k : Ledger) → Run o s k → (i : ℕ) (x : OpenTx) → open_at i k.active ≡ some x → Runs i x s
  runs (down d) k r i x e = absurd (some_none e (ap (open_at i) (closes (down d) k r refl)))
  runs (up d l) k r i x e =
      let v = holds o r in
      let f = open_runs l.txs v.standing.live_distinct i x (sym (ap (open_at i) v.ledger.active) ∙ e) in
      record { tx = f.0; found = f.1; named = f.2; running = f.3; noted = f.4 }

  -- its writes lie in memory
  pub runs_within : (s : System) (k : Ledger) → Run o s k → (i : ℕ) (x : OpenTx) → Runs i x s → All (Within o.size) x.writes
  runs_within (down d) k r i x q = absurd (some_none q.found refl)
  runs_within (up d l) k r i x q =
      let listed : Listed q.tx l.txs = ap (λ (j : ℕ). lookup j l.txs) q.named ∙ q.found in
      subst (λ (t : OpenTx). All (Within o.size) t.writes) q.noted (recorded o d l k (holds o r) q.tx listed q.running).within

  -- and what runs is open, with undo records as the ledger says
  module _ (d : Disk) (l : Live) (k : Ledger) (run : Run o (up d l) k) (r : Tx) (listed : Listed r l.txs) (runs : r.committing ≡ false) where
    f : Found r.id r l.txs
    f = find r.id r l.txs listed

    pub runs_open : open_at r.id k.active ≡ some (open_of r)
    runs_open =
        ap (open_at r.id) ((holds o run).ledger.active ∙ ap opens (found_running r runs f))
        ∙ open_one r (running f.before) (running f.after) (found_apart r runs f (holds o run).standing.live_distinct)

    pub runs_recorded : r.undo ≡ olds_of (committed_memory k) r.redo
    runs_recorded = all_here (running f.before) r (running f.after) (rw (found_running r runs f) at (undo_recorded o d l k run))

  -- ---- a return, by what the ledger is told

  -- a return of the transaction i to a name, set when n writes stood
  pub record WentBack (i name : ℕ) (s t : System) : Type 0 where
    pub disk : Disk
    pub live : Live
    pub tx : Tx
    pub count : ℕ
    pub before : s ≡ up disk live
    pub after : t ≡ up disk (after_go_back tx count live)
    pub named : tx.id ≡ i
    pub listed : Listed tx live.txs
    pub running : tx.committing ≡ false
    pub set : count_at name tx.savepoints ≡ some count

  pub step_back : (s t : System) (e : Event) (i name : ℕ) → Step o s e t → e ≡ went_back i name → WentBack i name s t
  step_back s t e i name (goes_back d l x name' n listed run set room) q =
      let named : x.id ≡ i = cc in
      let same : name' ≡ name = cc in
      record {
        disk = d;
        live = l;
        tx = x;
        count = n;
        before = refl;
        after = refl;
        named = named;
        listed = listed;
        running = run;
        set = ap (λ (j : ℕ). count_at j x.savepoints) (sym same) ∙ set;
      }
  step_back s t e i name (stays s') q = clash (cc)
  step_back s t e i name (begins d l room) q = clash (cc)
  step_back s t e i name (writes d l x w listed run within free room) q = clash (cc)
  step_back s t e i name (sets_savepoint d l x name' listed run) q = clash (cc)
  step_back s t e i name (precommits d l x listed run) q = clash (cc)
  step_back s t e i name (rolls_back d l x listed run) q = clash (cc)
  step_back s t e i name (flushes d l n allowed enough) q = clash (cc)
  step_back s t e i name (flush_is_cut d l n allowed few) q = clash (cc)
  step_back s t e i name (settles d l x listed committing on_disk_lem) q = clash (cc)
  step_back s t e i name (checkpoints d l) q = clash (cc)
  step_back s t e i name (checkpoint_is_cut d l) q = clash (cc)
  step_back s t e i name (restarts s' last_id image_last image-ids group-ids) q = clash (cc)
  step_back s t e i name (restart_is_cut s') q = clash (cc)
