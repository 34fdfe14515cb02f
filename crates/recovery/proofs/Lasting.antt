-- A transaction that stays running keeps its records: calls add to them and change none. So a return gives a byte back as it stood just before the first
-- call that wrote it since the savepoint, whatever else was called in between.
use mathlib.Core.Path.{◌≡◌, refl, sym, ap, ◌∙◌, subst}
use mathlib.Core.Logic.{◌≢◌}
use mathlib.Core.Bool.{Bool, true, false, cond, true≢false}
use mathlib.Core.Option.{Option, none, some}
use mathlib.Core.List.{List, [], ◌∷◌, ◌++◌, append_assoc, append-nil, reverse}
use Prim.Native.Nat.{ℕ, suc, ◌≤◌, ◌<◌}
use native.Mathlib.Omega.{arith}
use lib.Dec.{eqb}
use lib.ListN.{length, get_or, drop}
use lib.Seq.{drop-append-le}
use borrow.Author.Tests.{eqb-true, eqb-false, ne_eqb}
use Rattle.recovery.specs.Group.{Write}
use Rattle.recovery.specs.Lists.{All}
use Rattle.recovery.specs.Transaction.{Tx, lookup, edit, remove}
use Rattle.recovery.specs.Replay.{old_bytes, olds_of}
use Rattle.recovery.specs.Ledger.{Event, Ledger, enter}
use Rattle.recovery.specs.Machine.{Opening, Disk, Live, System, down, up, Listed, new_tx, with_write, with_savepoint, in_commit}
use Rattle.recovery.specs.Machine.{last_assigned, Step, stays, begins, writes, sets_savepoint, goes_back, precommits, rolls_back, flushes, flush_is_cut}
use Rattle.recovery.specs.Machine.{settles, checkpoints, checkpoint_is_cut, restarts, restart_is_cut, Run, next, after_go_back}
use Rattle.recovery.proofs.Bool.{some_none}
use Rattle.recovery.proofs.Distinct.{empty, distinct_others}
use Rattle.recovery.proofs.Transactions.{DistinctIds, Found, find, lookup_none}
use Rattle.recovery.proofs.Byte.{act, oldest, newest, oldest_append, newest_append}
use Rattle.recovery.proofs.Lists.{all_right}
use Rattle.recovery.proofs.Invariant.{Inv, base_memory, recorded}
use Rattle.recovery.proofs.Records.{Within, olds_length}
use Rattle.recovery.proofs.Returns.{with_records, writes_live, olds_first, return_byte, later_none}
use Rattle.recovery.proofs.Theorem.{holds}

-- ---- under an id, after a change

module _ (h : Tx → Tx) (same : (t : Tx) → (h t).id ≡ t.id) where
  lookup_edit_own : (i : ℕ) (txs : List Tx) (r : Tx) → lookup i txs ≡ some r → lookup i (edit i h txs) ≡ some (h r)
  lookup_edit_own i [] r e = absurd (some_none e refl)
  lookup_edit_own i (t ∷ ts) r e = go (eqb i t.id) refl e (λ q. lookup_edit_own i ts r q)
    where
      go : (b : Bool) → eqb i t.id ≡ b → cond b (some t) (lookup i ts) ≡ some r → (lookup i ts ≡ some r → lookup i (edit i h ts) ≡ some (h r))
          → lookup i (cond b (h t ∷ ts) (t ∷ edit i h ts)) ≡ some (h r)
      go true p q f =
          let is : t ≡ r = cc in
          ap (λ (b : Bool). cond b (some (h t)) (lookup i ts)) (ap (λ (j : ℕ). eqb i j) (same t) ∙ p) ∙ ap (λ (x : Tx). some (h x)) is
      go false p q f = rw p (f q)

  lookup_edit_other : (i j : ℕ) (txs : List Tx) → i ≢ j → lookup i (edit j h txs) ≡ lookup i txs
  lookup_edit_other i j [] n = refl
  lookup_edit_other i j (t ∷ ts) n = go (eqb j t.id) refl (lookup_edit_other i j ts n)
    where
      go : (b : Bool) → eqb j t.id ≡ b → lookup i (edit j h ts) ≡ lookup i ts → lookup i (cond b (h t ∷ ts) (t ∷ edit j h ts)) ≡ lookup i (t ∷ ts)
      go true p q =
          let other : eqb i t.id ≡ false = ne_eqb i t.id (λ e. n (e ∙ sym (eqb-true j t.id p))) in
          ap (λ (b : Bool). cond b (some (h t)) (lookup i ts)) (ap (λ (x : ℕ). eqb i x) (same t) ∙ other)
          ∙ sym (ap (λ (b : Bool). cond b (some t) (lookup i ts)) other)
      go false p q = rw q

lookup_remove_other : (i j : ℕ) (txs : List Tx) → i ≢ j → lookup i (remove j txs) ≡ lookup i txs
lookup_remove_other i j [] n = refl
lookup_remove_other i j (t ∷ ts) n = go (eqb j t.id) refl (lookup_remove_other i j ts n)
  where
    go : (b : Bool) → eqb j t.id ≡ b → lookup i (remove j ts) ≡ lookup i ts → lookup i (cond b ts (t ∷ remove j ts)) ≡ lookup i (t ∷ ts)
    go true p q = sym (rw (ne_eqb i t.id (λ e. n (e ∙ sym (eqb-true j t.id p)))))
    go false p q = rw q

lookup_left : (i : ℕ) (xs ys : List Tx) (r : Tx) → lookup i xs ≡ some r → lookup i (xs ++ ys) ≡ some r
lookup_left i [] ys r e = absurd (some_none e refl)
lookup_left i (x ∷ xs) ys r e = go (eqb i x.id) e (λ q. lookup_left i xs ys r q)
  where
    go : (b : Bool) → cond b (some x) (lookup i xs) ≡ some r → (lookup i xs ≡ some r → lookup i (xs ++ ys) ≡ some r)
        → cond b (some x) (lookup i (xs ++ ys)) ≡ some r
    go true q f = q
    go false q f = f q

-- ---- one transaction, call by call

-- its records, with more after them
pub record Grown (r r' : Tx) : Type 0 where
  pub undos : List Write
  pub redos : List Write
  pub undo : r'.undo ≡ r.undo ++ undos
  pub redo : r'.redo ≡ r.redo ++ redos

grown_same : {r r' : Tx} → r ≡ r' → Grown r r'
grown_same {r} e = record {
  undos = [];
  redos = [];
  undo = ap (λ (t : Tx). t.undo) (sym e) ∙ sym (append-nil r.undo);
  redo = ap (λ (t : Tx). t.redo) (sym e) ∙ sym (append-nil r.redo);
}

grown_more : {r s t : Tx} → Grown r s → Grown s t → Grown r t
grown_more {r} a b = record {
  undos = a.undos ++ b.undos;
  redos = a.redos ++ b.redos;
  undo = b.undo ∙ (ap (λ (us : List Write). us ++ b.undos) a.undo ∙ append_assoc r.undo a.undos b.undos);
  redo = b.redo ∙ (ap (λ (us : List Write). us ++ b.redos) a.redo ∙ append_assoc r.redo a.redos b.redos);
}

-- after one call, in a memory m: records more, each undo record with what stood there, those before it laid
record Laid (m : List ℕ) (r r' : Tx) : Type 0 where
  writes : List Write
  undo : r'.undo ≡ r.undo ++ olds_of m writes
  redo : r'.redo ≡ r.redo ++ writes

grown_laid : {m : List ℕ} {r r' : Tx} → Laid m r r' → Grown r r'
grown_laid {m} l = record { undos = olds_of m l.writes; redos = l.writes; undo = l.undo; redo = l.redo }

laid_none : {m : List ℕ} {r r' : Tx} → r'.undo ≡ r.undo → r'.redo ≡ r.redo → Laid m r r'
laid_none {r = r} u w = record { writes = []; undo = u ∙ sym (append-nil r.undo); redo = w ∙ sym (append-nil r.redo) }

laid_found : {m : List ℕ} {r r' : Tx} {o : Option Tx} → o ≡ some r → o ≡ some r' → Laid m r r'
laid_found {r = r} {r' = r'} p q =
    let e : r' ≡ r = cc in
    laid_none (ap (λ (t : Tx). t.undo) e) (ap (λ (t : Tx). t.redo) e)

-- x, or another transaction
module _ (m : List ℕ) (txs : List Tx) (r r' x : Tx) (was : lookup r.id txs ≡ some r) where
  edit_lays : (h : Tx → Tx) → ((t : Tx) → (h t).id ≡ t.id) → ((t : Tx) → (h t).committing ≡ false → Laid m t (h t))
      → lookup r.id (edit x.id h txs) ≡ some r' → r'.committing ≡ false → Laid m r r'
  edit_lays h same each is run = go (eqb r.id x.id) refl
    where
      go : (b : Bool) → eqb r.id x.id ≡ b → Laid m r r'
      go true p =
          let here : lookup r.id (edit r.id h txs) ≡ some r' =
          subst (λ (j : ℕ). lookup r.id (edit j h txs) ≡ some r') (sym (eqb-true r.id x.id p)) is in
          let own : lookup r.id (edit r.id h txs) ≡ some (h r) = lookup_edit_own h same r.id txs r was in
          let e : h r ≡ r' = cc in
          subst (λ (t : Tx). Laid m r t) e (each r (ap (λ (t : Tx). t.committing) e ∙ run))
      go false p = laid_found was (sym (lookup_edit_other h same r.id x.id txs (eqb-false r.id x.id p)) ∙ is)

  remove_lays : DistinctIds txs → lookup r.id (remove x.id txs) ≡ some r' → Laid m r r'
  remove_lays d is = go (eqb r.id x.id) refl
    where
      f : Found r.id r txs
      f = find r.id r txs was

      gone : lookup r.id (remove r.id txs) ≡ none
      gone = ap (lookup r.id) f.removed ∙ lookup_none (distinct_others f.before r f.after (rw f.whole at d))

      go : (b : Bool) → eqb r.id x.id ≡ b → Laid m r r'
      go true p = absurd (some_none (subst (λ (j : ℕ). lookup r.id (remove j txs) ≡ some r') (sym (eqb-true r.id x.id p)) is) gone)
      go false p = laid_found was (sym (lookup_remove_other r.id x.id txs (eqb-false r.id x.id p)) ∙ is)

abbrev pub txs_of : System → List Tx
txs_of (down d) = []
txs_of (up d l) = l.txs

abbrev memory_of : System → List ℕ
memory_of (down d) = []
memory_of (up d l) = l.memory

module _ (o : Opening) where
  step_lays : (s t : System) (e : Event) → Step o s e t → DistinctIds (txs_of s) → (r r' : Tx) → lookup r.id (txs_of s) ≡ some r
      → lookup r.id (txs_of t) ≡ some r' → r'.committing ≡ false → Laid (memory_of s) r r'
  step_lays s t e (stays s') u r r' was is run = laid_found was is
  step_lays s t e (begins d l room) u r r' was is run = laid_found (lookup_left r.id l.txs (new_tx (suc l.last_id) ∷ []) r was) is
  step_lays s t e (writes d l x w listed rx within free room) u r r' was is run =
      edit_lays l.memory l.txs r r' x was (with_write (old_bytes w l.memory) w) (λ q. refl) (λ q c. record { writes = w ∷ []; undo = refl; redo = refl }) is run
  step_lays s t e (sets_savepoint d l x name listed rx) u r r' was is run =
      edit_lays l.memory l.txs r r' x was (with_savepoint name) (λ q. refl) (λ q c. laid_none refl refl) is run
  step_lays s t e (goes_back d l x name n listed rx set room) u r r' was is run =
      let ws : List Write = reverse (drop n x.undo) in
      edit_lays l.memory l.txs r r' x was (with_records (olds_of l.memory ws) ws) (λ q. refl) (λ q c. record { writes = ws; undo = refl; redo = refl })
      (ap (λ (y : Live). lookup r.id y.txs) (sym (writes_live ws x l)) ∙ is) run
  step_lays s t e (precommits d l x listed rx) u r r' was is run =
      edit_lays l.memory l.txs r r' x was (in_commit (suc (last_assigned l))) (λ q. refl) (λ q c. absurd (true≢false c)) is run
  step_lays s t e (rolls_back d l x listed rx) u r r' was is run = remove_lays l.memory l.txs r r' x was u is
  step_lays s t e (flushes d l q allowed enough) u r r' was is run = laid_found was is
  step_lays s t e (flush_is_cut d l q allowed few) u r r' was is run = absurd (some_none is refl)
  step_lays s t e (settles d l x listed committing on_disk_lem) u r r' was is run = remove_lays l.memory l.txs r r' x was u is
  step_lays s t e (checkpoints d l) u r r' was is run = laid_found was is
  step_lays s t e (checkpoint_is_cut d l) u r r' was is run = absurd (some_none is refl)
  step_lays s t e (restarts s' last_id image_last image-ids group-ids) u r r' was is run = absurd (some_none is refl)
  step_lays s t e (restart_is_cut s') u r r' was is run = absurd (some_none is refl)

  -- ---- and over any list of calls

  -- calls during which the transaction, r at first, stays running
  pub data Lasts (s : System) (k : Ledger) (r : Tx) : System → Ledger → Tx → Type 0 where
    now : Lasts s k r s k r
    then : {t u : System} {j : Ledger} {e : Event} {q p : Tx} → Lasts s k r t j q → Step o t e u → lookup q.id (txs_of u) ≡ some p → p.committing ≡ false
        → Lasts s k r u (enter e j) p

  pub lasts_run : {s : System} {k : Ledger} {r : Tx} {t : System} {j : Ledger} {q : Tx} → Lasts s k r t j q → Run o s k → Run o t j
  lasts_run now run = run
  lasts_run (then l p is c) run = next (lasts_run l run) p

  distinct_listed : (s : System) (k : Ledger) → Inv o s k → DistinctIds (txs_of s)
  distinct_listed (down d) k v = empty
  distinct_listed (up d l) k v = v.standing.live_distinct

  -- it has its records still, under its id
  lasts_grown : {s : System} {k : Ledger} {r : Tx} {t : System} {j : Ledger} {q : Tx} → Lasts s k r t j q → Run o s k → lookup r.id (txs_of s) ≡ some r
      → Grown r q × (lookup q.id (txs_of t) ≡ some q)
  lasts_grown now run was = (grown_same refl, was)
  lasts_grown (then {t} {u} {j} {e} {q} {p} l step is c) run was =
      let before = lasts_grown l run was in
      let after : Grown q p = grown_laid (step_lays t u e step (distinct_listed t j (holds o (lasts_run l run))) q p before.1 is c) in
      let named : p.id ≡ q.id = (find q.id p (txs_of u) is).named in
      (grown_more before.0 after, subst (λ (i : ℕ). lookup i (txs_of u) ≡ some p) (sym named) is)

  -- A call with which r first has a write over the byte a since n writes stood; calls follow, and a return to there: the byte reads as just before that call.
  module _ (d : Disk) (l : Live) (k : Ledger) (run : Run o (up d l) k) (r : Tx) (listed : Listed r l.txs) (running : r.committing ≡ false)
      (n a : ℕ) (stood : n ≤ length r.redo) (h : a < o.size) (none_yet : newest a (drop n r.redo) ≡ none)
      (t : System) (e : Event) (step : Step o (up d l) e t) (r₁ : Tx) (found : lookup r.id (txs_of t) ≡ some r₁) (runs : r₁.committing ≡ false)
      (over : newest a (drop n r₁.redo) ≢ none) where
    laid : Laid l.memory r r₁
    laid = step_lays (up d l) t e step (holds o run).standing.live_distinct r r₁ listed found runs

    abbrev ws : List Write
    ws = laid.writes

    named : r₁.id ≡ r.id
    named = (find r.id r₁ (txs_of t) found).named

    own : lookup r₁.id (txs_of t) ≡ some r₁
    own = ap (λ (i : ℕ). lookup i (txs_of t)) named ∙ found

    -- its writes have the byte
    new_writes : newest a ws ≢ none
    new_writes none-new =
        over (ap (λ (vs : List Write). newest a (drop n vs)) laid.redo
        ∙ (ap (newest a) (drop-append-le n r.redo ws stood) ∙ (newest_append a (drop n r.redo) ws ∙ rw (none-new, none_yet))))

    new_within : All (Within o.size) ws
    new_within = go t (next run step) own
      where
        go : (s : System) → Run o s (enter e k) → lookup r₁.id (txs_of s) ≡ some r₁ → All (Within o.size) ws
        go (down d₁) run₁ q = absurd (some_none q refl)
        go (up d₁ l₁) run₁ q =
            all_right r.redo (subst (All (Within o.size)) laid.redo (recorded o d₁ l₁ (enter e k) (holds o run₁) r₁ q runs).within)

    -- and the first undo record over it among the later ones has the byte as it stood
    first_old : (us : List Write) → oldest a (drop n (r₁.undo ++ us)) ≡ some (get_or l.memory a 0)
    first_old us =
        let m : List ℕ = l.memory in
        let same : length r.undo ≡ length r.redo =
        ap length (recorded o d l k (holds o run) r listed running).olds ∙ olds_length r.redo (base_memory o d l) in
        let split : drop n (r₁.undo ++ us) ≡ drop n r.undo ++ (olds_of m ws ++ us) =
        ap (λ (vs : List Write). drop n (vs ++ us)) laid.undo
        ∙ (ap (drop n) (append_assoc r.undo (olds_of m ws) us) ∙ drop-append-le n r.undo (olds_of m ws ++ us) (omega (arith, same, stood))) in
        ap (oldest a) split
        ∙ (oldest_append a (drop n r.undo) (olds_of m ws ++ us)
        ∙ rw (later_none o d l k (holds o run) r listed running n a h none_yet)
        (oldest_append a (olds_of m ws) us ∙ rw (olds_first o.size a h ws m (holds o run).live_length new_within new_writes)))

    pub return_as_before : (d' : Disk) (l' : Live) (k' : Ledger) (r' : Tx) → Lasts t (enter e k) r₁ (up d' l') k' r'
        → get_or (after_go_back r' n l').memory a 0 ≡ get_or l.memory a 0
    return_as_before d' l' k' r' calls =
        let grown = (lasts_grown calls (next run step) own).0 in
        return_byte r' n l' a (rw (holds o (lasts_run calls (next run step))).live_length h)
        ∙ ap (λ (x : Option ℕ). act x (get_or l'.memory a 0)) (ap (λ (us : List Write). oldest a (drop n us)) grown.undo ∙ first_old grown.undos)
