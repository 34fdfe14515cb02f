-- Going back keeps the invariant: it is a list of writes, each over a range that the transaction holds, and the writes that the ledger computes are the
-- same.
use mathlib.Core.Path.{◌≡◌, refl, sym, ap, ◌∙◌, subst}
use mathlib.Core.Logic.{◌≢◌}
use mathlib.Core.Bool.{Bool, true, false, cond}
use mathlib.Core.Option.{Option, none, some}
use mathlib.Core.List.{List, [], ◌∷◌, ◌++◌, map, append_assoc, append-nil, reverse, reverse-cons}
use Prim.Native.Nat.{ℕ, ◌+◌, ◌≤◌, ◌<◌}
use native.Mathlib.Omega.{arith}
use lib.Dec.{eqb}
use lib.ListN.{get_or, take, drop, take-append-drop}
use Rattle.recovery.specs.Group.{Write, redo_size}
use Rattle.recovery.specs.Lists.{All, nil, cons}
use Rattle.recovery.specs.Transaction.{Tx, running}
use Rattle.recovery.specs.Savepoint.{count_at}
use Rattle.recovery.specs.Replay.{replay, old_bytes}
use Rattle.recovery.specs.Ledger.{Commit, Ledger, OpenTx, committed_in, lay_commits, committed_memory, of_id, add_writes, taken_back, add_return, with_active}
use Rattle.recovery.specs.Ledger.{enter_wrote, enter_went_back}
use Rattle.recovery.specs.Machine.{Opening, Disk, history_of, Live, Listed, room_used, with_write, after_write, after_writes, after_go_back}
use Rattle.recovery.specs.Claim.{commits}
use Rattle.recovery.proofs.Lists.{all_map, all_zip, all_more, all_right, all_reverse}
use Rattle.recovery.proofs.Transactions.{Found, find, found_running, found_apart}
use Rattle.recovery.proofs.Groups.{redo_size_append}
use Rattle.recovery.proofs.Byte.{oldest, lay_byte}
use Rattle.recovery.proofs.LiveByte.{Quiet, own_alone}
use Rattle.recovery.proofs.Records.{Within, Covers, covers_more, covers_own, olds_within, Recorded, olds_drop}
use Rattle.recovery.proofs.Ledger.{open_of, opens, edit_one, commits_append, commits_entries, replay_commits}
use Rattle.recovery.proofs.Invariant.{Up, base_at, base_memory, base_length, recorded}
use Rattle.recovery.proofs.WriteStep.{written_room, written_listed, rewrite_keeps}

-- ---- writes one after the other

-- the ledger is told of each
abbrev pub enter_writes : ℕ → List Write → Ledger → Ledger
enter_writes i [] k = k
enter_writes i (w ∷ ws) k = enter_writes i ws (enter_wrote i w k)

-- a write of a transaction over what it holds
abbrev Again : ℕ → Tx → Write → Type 0
Again size r w = Within size w × Covers r.undo w

writes_keep : (o : Opening) (d : Disk) (ws : List Write) (l : Live) (k : Ledger) (r : Tx) → Listed r l.txs → r.committing ≡ false → Up o d l k
    → All (Again o.size r) ws → room_used d l + redo_size ws ≤ o.capacity → Up o d (after_writes r ws l) (enter_writes r.id ws k)
writes_keep o d [] l k r listed run u nil fits = u
writes_keep o d (w ∷ ws) l k r listed run u (cons h hs) fits =
    let old : Write = old_bytes w l.memory in
    writes_keep o d ws (after_write r w l) (enter_wrote r.id w k) (with_write old w r) (written_listed o d l k r w listed run u) run
    (rewrite_keeps o d l k r w listed run u h.0 h.1 (omega arith))
    (all_map (λ v p. (p.0, covers_more r.undo (old ∷ []) v p.1)) hs)
    (omega (arith, written_room o d l k r w listed run u))

redo_size_reverse : (ws : List Write) → redo_size (reverse ws) ≡ redo_size ws
redo_size_reverse [] = refl
redo_size_reverse (w ∷ ws) =
    let ih : redo_size (reverse ws) ≡ redo_size ws = redo_size_reverse ws in
    ap redo_size (reverse-cons w ws) ∙ omega (arith, redo_size_append (reverse ws) (w ∷ []))

-- ---- the ledger

add_nothing : (i : ℕ) (ss : List OpenTx) → map (of_id i (add_writes [])) ss ≡ ss
add_nothing i [] = refl
add_nothing i (s ∷ ss) = rw (add_nothing i ss) (ap (λ (x : OpenTx). x ∷ ss) (go (eqb i s.id)))
  where
    go : (b : Bool) → cond b (add_writes [] s) s ≡ s
    go true = ap (λ (ws : List Write). record { id = s.id; writes = ws; savepoints = s.savepoints }) (append-nil s.writes)
    go false = refl

add_more : (i : ℕ) (w : Write) (ws : List Write) (ss : List OpenTx) → map (of_id i (add_writes ws)) (map (of_id i (add_writes (w ∷ []))) ss) ≡ map (of_id i (add_writes (w ∷ ws))) ss
add_more i w ws [] = refl
add_more i w ws (s ∷ ss) = rw (add_more i w ws ss) (ap (λ (x : OpenTx). x ∷ map (of_id i (add_writes (w ∷ ws))) ss) (go (eqb i s.id) refl))
  where
    first : Bool → OpenTx
    first b = cond b (add_writes (w ∷ []) s) s

    go : (b : Bool) → eqb i s.id ≡ b → cond (eqb i (first b).id) (add_writes ws (first b)) (first b) ≡ cond b (add_writes (w ∷ ws) s) s
    go true e = rw e (ap (λ (vs : List Write). record { id = s.id; writes = vs; savepoints = s.savepoints }) (append_assoc s.writes (w ∷ []) ws))
    go false e = rw e

-- told one by one, the writes go last all the same
writes_entered : (i : ℕ) (ws : List Write) (k : Ledger) → enter_writes i ws k ≡ with_active (map (of_id i (add_writes ws)) k.active) k
writes_entered i [] k = ap (λ (ss : List OpenTx). with_active ss k) (sym (add_nothing i k.active))
writes_entered i (w ∷ ws) k = writes_entered i ws (enter_wrote i w k) ∙ ap (λ (ss : List OpenTx). with_active ss k) (add_more i w ws k.active)

module _ (o : Opening) (d : Disk) (l : Live) (k : Ledger) (u : Up o d l k) where
  -- what the opening memory, the durable ones and the queue leave is what the commits of history and tail leave
  pub ledger_memory : committed_memory k ≡ base_memory o d l
  ledger_memory =
      let queued : committed_in k.queue ≡ commits l.tail = ap committed_in u.ledger.queue ∙ commits_entries l.tail in
      let all : k.durable ++ committed_in k.queue ≡ commits (history_of d ++ l.tail) =
      rw (u.ledger.durable, queued) (sym (commits_append (history_of d) l.tail)) in
      ap (λ (cs : List Commit). lay_commits cs k.opening) all ∙ (ap (λ (m : List ℕ). lay_commits (commits (history_of d ++ l.tail)) m) u.opening
      ∙ sym (replay_commits (history_of d ++ l.tail) o.memory))

  module _ (r : Tx) (listed : Listed r l.txs) (run : r.committing ≡ false) where
    f : Found r.id r l.txs
    f = find r.id r l.txs listed

    runnings : running l.txs ≡ running f.before ++ r ∷ running f.after
    runnings = found_running r run f

    records : Recorded o.size (base_memory o d l) r
    records = recorded o d l k u r listed run

    -- number 9 never keeps a return away, so far as it goes by writes: no other running transaction has a record over a byte that r has one over
    pub held_alone : (a : ℕ) → a < o.size → oldest a r.undo ≢ none → All (λ t. t.id ≢ r.id → oldest a t.undo ≡ none) (running l.txs)
    held_alone a h s =
        let others : All (Quiet a) (running f.before ++ running f.after) =
        own_alone a (replay (lay_byte a) (d.after ++ l.tail) (base_at o d.before a)) (get_or l.memory a 0) (running f.before) r (running f.after)
        (rw runnings at (u.bytes a h).live) s in
        rw runnings (all_more (running f.before) r (running f.after) (λ n. absurd (n refl)) (all_map (λ t q n. q.0) others))

    -- the bytes that the ledger computes are those of the undo records
    pub taken_back_lem : (n : ℕ) → taken_back (committed_memory k) (some n) r.redo ≡ reverse (drop n r.undo)
    taken_back_lem n =
        ap (λ (m : List ℕ). taken_back m (some n) r.redo) ledger_memory
        ∙ ap reverse (sym (ap (drop n) records.olds ∙ olds_drop n r.redo (base_memory o d l)))

    module _ (name n : ℕ) (set : count_at name r.savepoints ≡ some n) where
      abbrev back : List Write
      back = reverse (drop n r.undo)

      -- going back is told to the ledger as its writes one by one
      pub went_back_lem : enter_went_back r.id name k ≡ enter_writes r.id (reverse (drop n r.undo)) k
      went_back_lem =
          let m : List ℕ = committed_memory k in
          let g : OpenTx → OpenTx = add_return m name in
          let r' : Tx =
          record { id = r.id; committing = r.committing; csn = r.csn; undo = r.undo; redo = r.redo ++ back; savepoints = r.savepoints } in
          let active : k.active ≡ opens (running f.before ++ r ∷ running f.after) = u.ledger.active ∙ ap opens runnings in
          let apart = found_apart r run f u.standing.live_distinct in
          let writes : taken_back m (count_at name r.savepoints) r.redo ≡ back = ap (λ (c : Option ℕ). taken_back m c r.redo) set ∙ taken_back_lem n in
          let same : map (of_id r.id g) k.active ≡ map (of_id r.id (add_writes back)) k.active =
          rw active
          (edit_one r g r' (running f.before) (running f.after) apart (ap (λ (ws : List Write). add_writes ws (open_of r)) writes)
          ∙ sym (edit_one r (add_writes back) r' (running f.before) (running f.after) apart refl)) in
          ap (λ (ss : List OpenTx). with_active ss k) same ∙ sym (writes_entered r.id back k)

      -- each write of a return lies in memory and over what the transaction holds
      back_again : All (Again o.size r) back
      back_again =
          let within : All (Within o.size) r.undo =
          rw records.olds (olds_within o.size r.redo (base_memory o d l) (base_length o d l) records.within) in
          all_reverse (all_right (take n r.undo) (subst (All (Again o.size r)) (sym (take-append-drop n r.undo)) (all_zip within (covers_own r.undo))))

      pub go_back_keeps : room_used d l + redo_size (drop n r.undo) ≤ o.capacity → Up o d (after_go_back r n l) (enter_went_back r.id name k)
      go_back_keeps fits =
          rw went_back_lem (writes_keep o d back l k r listed run u back_again (omega (arith, redo_size_reverse (drop n r.undo))))
