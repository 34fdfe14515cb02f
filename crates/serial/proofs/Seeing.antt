-- A read keeps the invariant of the ledger with reads: what it handed back is what the commits assigned and its own writes leave there, and no other open
-- transaction has written there.
use Prim.Native.Nat.{ℕ, ◌+◌, ◌≤◌, ◌<◌}
use native.Mathlib.Omega.{arith}
use mathlib.Core.Path.{◌≡◌, refl, sym, ap, ◌∙◌, subst}
use mathlib.Core.Logic.{◌≢◌}
use mathlib.Core.Bool.{Bool, true, false, cond}
use mathlib.Core.Option.{Option, none}
use mathlib.Core.List.{List, [], ◌∷◌, ◌++◌, map, map-append, append-nil, nil≢cons, head-eq_of_cons-eq, tail-eq_of_cons-eq}
use lib.Dec.{eqb}
use lib.ListN.{length, take, drop, get_or}
use lib.Seq.{get_or-take, get_or-drop, take-length}
use borrow.Author.Tests.{eqb-true}
use Rattle.recovery.specs.Group.{Write}
use Rattle.recovery.specs.Lists.{All, nil, cons}
use Rattle.recovery.specs.Transaction.{Tx, running, held_by_other}
use Rattle.recovery.specs.Ledger.{OpenTx, Commit}
use Rattle.recovery.specs.Machine.{Opening, Disk, history_of, Live, Listed}
use Rattle.recovery.specs.Claim.{commits}
use Rattle.recovery.proofs.Lists.{all_map, all_zip, all_append, all_right, all_here, all_more, all_mapped}
use Rattle.recovery.proofs.Transactions.{Found, find, found_running, found_apart}
use Rattle.recovery.proofs.Records.{seen_inside}
use Rattle.recovery.proofs.Byte.{act, act_else, newest, newest_append}
use Rattle.recovery.proofs.Ledger as ledger
use Rattle.recovery.proofs.Ledger.{opens, commits_append}
use Rattle.recovery.proofs.Invariant.{Up}
use Rattle.serial.specs.Ledger.{Read, OpenWithReads, CommitWithReads, LedgerWithReads, without_reads, opens_in, commits_in, stamps_of, read_by, add_read, noting_read}
use Rattle.serial.specs.Ledger.{note_read}
use Rattle.serial.specs.Claim.{OnlyOpen}
use Rattle.serial.proofs.Plain.{read_tx_lem}
use Rattle.serial.proofs.Laying.{writes_in, byte_after, replay_newest}
use Rattle.serial.proofs.Ordered.{Leaves, Sees}
use Rattle.serial.proofs.LiveRead.{read_byte, others_left}
use Rattle.serial.proofs.Assigned.{assigned_in}
use Rattle.serial.proofs.Invariant.{OpenSees, ReadsLeft, Reading}

all_unmapped : {A B : Type 0} {p : B → Type 0} (f : A → B) (xs : List A) → All p (map f xs) → All (λ x. p (f x)) xs
all_unmapped f [] h = nil
all_unmapped f (x ∷ xs) (cons h hs) = cons h (all_unmapped f xs hs)

-- what holds of every element for each index
all_each : {I A : Type 0} {p : I → A → Type 0} (xs : List A) → ((i : I) → All (p i) xs) → All (λ x. (i : I) → p i x) xs
all_each [] h = nil
all_each (x ∷ xs) h = cons (λ i. all_here [] x xs (h i)) (all_each xs (λ i. all_right (x ∷ []) (h i)))

-- an open transaction whose id no other has
only_open : (i : ℕ) (ss : List OpenWithReads) (xs : List OpenTx) (y : OpenTx) (ys : List OpenTx) → opens_in ss ≡ xs ++ (y ∷ ys) → y.id ≡ i
    → All (λ t. t.id ≢ i) (xs ++ ys) → OnlyOpen i ss
only_open i [] [] y ys e n h = absurd (nil≢cons e)
only_open i [] (x ∷ xs) y ys e n h = absurd (nil≢cons e)
only_open i (s ∷ ss) [] y ys e n h =
    let here : s.tx ≡ y = head-eq_of_cons-eq e in
    let rest : ys ≡ opens_in ss = sym (tail-eq_of_cons-eq e) in
    record {
      before = [];
      reader = s;
      after = ss;
      whole = refl;
      named = ap (λ (t : OpenTx). t.id) here ∙ n;
      alone = all_unmapped (λ x. x.tx) ss (subst (All (λ t. t.id ≢ i)) rest h);
    }
only_open i (s ∷ ss) (x ∷ xs) y ys e n (cons h hs) =
    let here : x ≡ s.tx = sym (head-eq_of_cons-eq e) in
    let rest : opens_in ss ≡ xs ++ (y ∷ ys) = tail-eq_of_cons-eq e in
    let f = only_open i ss xs y ys rest n hs in
    record {
      before = s ∷ f.before;
      reader = f.reader;
      after = f.after;
      whole = ap (λ (l : List OpenWithReads). s ∷ l) f.whole;
      named = f.named;
      alone = cons (subst (λ (t : OpenTx). t.id ≢ i) here h) f.alone;
    }

-- a running transaction is open, once
pub reader_open : (o : Opening) (d : Disk) (l : Live) (k : LedgerWithReads) (r : Tx) → Listed r l.txs → r.committing ≡ false
    → Up o d l (without_reads k) → OnlyOpen r.id k.active
reader_open o d l k r listed run u =
    let f = find r.id r l.txs listed in
    let xs = running f.before in
    let ys = running f.after in
    only_open r.id k.active (opens xs) (ledger.open_of r) (opens ys)
    (u.ledger.active ∙ ap opens (found_running r run f) ∙ map-append ledger.open_of xs (r ∷ ys)) refl
    (subst (All (λ t. t.id ≢ r.id)) (map-append ledger.open_of xs ys) (all_mapped ledger.open_of (found_apart r run f u.standing.live_distinct)))

module _ (o : Opening) (d : Disk) (l : Live) (k : LedgerWithReads) (r : Tx) (addr : ℕ) (bytes : List ℕ) (listed : Listed r l.txs)
    (run : r.committing ≡ false) (within : addr + length bytes ≤ o.size) (free : held_by_other r.id (record { addr = addr; bytes = bytes }) l.txs ≡ false)
    (handed : bytes ≡ take (length bytes) (drop addr l.memory)) (u : Up o d l (without_reads k)) (v : Reading o.memory k) where
  abbrev range : Write
  range = record { addr = addr; bytes = bytes }

  abbrev Inside : ℕ → Type 0
  Inside a = (addr ≤ a) × (a < addr + length bytes)

  -- the read as it is noted
  abbrev new : OpenWithReads → Read
  new s = read_by addr bytes (stamps_of k.assigned) s

  abbrev all : List CommitWithReads
  all = assigned_in k

  -- ---- the open transactions of the ledger with reads are the running ones

  found : Found r.id r l.txs
  found = find r.id r l.txs listed

  all_running : (p : OpenTx → Type 0) → All (λ t. p (ledger.open_of t)) (running l.txs) → All (λ s. p s.tx) k.active
  all_running p h = all_unmapped (λ s. s.tx) k.active (subst (All p) (sym u.ledger.active) (all_mapped ledger.open_of h))

  -- under the reader's id the reader's writes stand alone
  own_writes : All (λ s. s.tx.id ≡ r.id → s.tx.writes ≡ r.redo) k.active
  own_writes =
      all_running (λ x. x.id ≡ r.id → x.writes ≡ r.redo)
      (rw (found_running r run found)
      (all_more (running found.before) r (running found.after) (λ _. refl)
      (all_map (λ t n e. absurd (n e)) (found_apart r run found u.standing.live_distinct))))

  -- the others' writes leave the range
  others_leave : All (λ s. (a : ℕ) → Inside a → s.tx.id ≢ r.id → newest a s.tx.writes ≡ none) k.active
  others_leave =
      all_running (λ x. (a : ℕ) → Inside a → x.id ≢ r.id → newest a x.writes ≡ none)
      (all_each (running l.txs) (λ a. all_each (running l.txs) (λ c.
      others_left o d l (without_reads k) r range listed run free u a (omega arith) (seen_inside a addr bytes c.0 c.1))))

  -- ---- the bytes

  assigned_commits : commits (history_of d ++ l.tail) ≡ commits_in all
  assigned_commits = commits_append (history_of d) l.tail ∙ sym u.ledger.assigned ∙ ap commits_in v.assigned

  live_byte : (a : ℕ) → Inside a → get_or l.memory a 0 ≡ byte_after o.memory (writes_in (commits_in all) ++ r.redo) a
  live_byte a c =
      let past : List Write = writes_in (commits_in all) in
      let x : ℕ = get_or o.memory a 0 in
      read_byte o d l (without_reads k) r range listed run free u a (omega arith) (seen_inside a addr bytes c.0 c.1)
      ∙ ap (act (newest a r.redo))
      (replay_newest a (history_of d ++ l.tail) x ∙ ap (λ (cs : List Commit). act (newest a (writes_in cs)) x) assigned_commits)
      ∙ sym (act_else (newest a r.redo) (newest a past) x)
      ∙ ap (λ (q : Option ℕ). act q x) (sym (newest_append a past r.redo))

  handed_byte : (j : ℕ) → j < length bytes → get_or bytes j 0 ≡ get_or l.memory (addr + j) 0
  handed_byte j h =
      ap (λ (bs : List ℕ). get_or bs j 0) handed ∙ get_or-take (length bytes) (drop addr l.memory) j 0 h ∙ get_or-drop addr l.memory j 0

  new_sees : (s : OpenWithReads) → s.tx.writes ≡ r.redo → Sees o.memory all s.tx.writes (new s)
  new_sees s e = record {
    within = omega (arith, o.sized);
    stood = omega arith;
    bytes = λ j h.
        handed_byte j h ∙ live_byte (addr + j) (omega arith, omega arith)
        ∙ ap (λ (ws : List Write). byte_after o.memory (writes_in (commits_in all) ++ ws) (addr + j))
        (sym e ∙ sym (take-length s.tx.writes));
    assigned = ([], ap stamps_of (sym v.assigned) ∙ sym (append-nil (stamps_of k.assigned)));
  }

  -- ---- the invariant

  abbrev noting : OpenWithReads → OpenWithReads
  noting s = noting_read r.id addr bytes (stamps_of k.assigned) s

  read_sees : (s : OpenWithReads) → (s.tx.id ≡ r.id → s.tx.writes ≡ r.redo) → OpenSees o.memory all s → OpenSees o.memory all (noting s)
  read_sees s own h = go (eqb r.id s.tx.id) refl
    where
      go : (b : Bool) → eqb r.id s.tx.id ≡ b
          → OpenSees o.memory all (cond b (add_read (new s) s) s)
      go true e = all_append h (cons (new_sees s (own (sym (eqb-true r.id s.tx.id e)))) nil)
      go false e = h

  read_apart : (s t : OpenWithReads) → ((a : ℕ) → Inside a → t.tx.id ≢ r.id → newest a t.tx.writes ≡ none) → ReadsLeft s t
      → ReadsLeft (noting s) (noting t)
  read_apart s t leaves h =
      subst (λ (x : OpenTx). x.id ≢ (noting s).tx.id → All (Leaves x.writes) (noting s).reads) (sym (read_tx_lem r.id addr bytes (stamps_of k.assigned) t))
      (go (eqb r.id s.tx.id) refl)
    where
      go : (b : Bool) → eqb r.id s.tx.id ≡ b
          → t.tx.id ≢ (cond b (add_read (new s) s) s).tx.id
          → All (Leaves t.tx.writes) (cond b (add_read (new s) s) s).reads
      go true e n = all_append (h n) (cons (λ a c. leaves a c (λ q. n (q ∙ eqb-true r.id s.tx.id e))) nil)
      go false e n = h n

  pub read_reading : Reading o.memory (note_read r.id addr bytes k)
  read_reading = record {
    order = v.order;
    assigned = v.assigned;
    active = all_mapped noting (all_map (λ s p. read_sees s p.0 p.1) (all_zip own_writes v.active));
    apart = all_mapped noting
        (all_map (λ s aparts. all_mapped noting (all_map (λ t p. read_apart s t p.0 p.1) (all_zip others_leave aparts))) v.apart);
  }
