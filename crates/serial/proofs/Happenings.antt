-- Document 02, A.4, for the calls themselves: what happens to a store keeps a run of the machine with reads, and so the claim holds (`reads_serial`).
use Prim.Native.Nat.{ℕ}
use native.Mathlib.Omega.{arith}
use mathlib.Core.Logic.{◌≢◌}
use mathlib.Core.Bool.{Bool, true, false}
use mathlib.Core.List.{List, [], ◌∷◌, ◌++◌, cons≢nil}
use mathlib.Core.Path.{◌≡◌, refl, sym, ap, ap₂, ◌∙◌, subst}
use lib.ListN.{length, take, drop, replicate, length-drop}
use lib.Seq.{length-take-le}
use Rattle.recovery.specs.Lists.{All, any}
use Rattle.recovery.specs.Transaction.{Tx as Transaction, lookup, held_by_other}
use Rattle.recovery.specs.Ledger.{Event, Ledger, enter}
use Rattle.recovery.specs.Machine.{Disk, Live, System, down, up, disk_of, opening_disk, Listed}
use Rattle.recovery.proofs.Bool.{opposed}
use Rattle.recovery.proofs.Theorem as machine
use Rattle.redolog.specs.declared.TxId.{TxId}
use Rattle.transaction.specs.View.{used_by, view_of}
use Rattle.transaction.specs.Rules.{reading, held_against, covered}
use Rattle.store.specs.declared.State.{State}
use Rattle.store.specs.Answer.{done, cut, refused}
use Rattle.store.specs.State.{unrecovered, txs_of}
use Rattle.store.specs.Numbers.{tx_of}
use Rattle.store.specs.Calls.{Outcome, write_number, read_number, read_of}
use Rattle.store.proofs.Passing.{ReadPassed, read_passed, write_passed}
use Rattle.store.proofs.Calling.{write_refused, read_refused, read_done, read_uncovered}
use Rattle.store.proofs.Premises.{held_view}
use Rattle.store.proofs.Stepping.{SizedState, same_or_other}
use Rattle.store.proofs.Apart.{unrecovered_holds}
use Rattle.store.proofs.Views.{listed_view}
use Rattle.history.specs.Calls.{Call, begin, write, read, read_answer, savepoint, go_back, precommit, abort, flush, settle, checkpoint, restart, Reply, told, part, World, changed, step_of}
use Rattle.history.specs.Demand.{done_event, event_of, Happening, called, power_fails, happen, happen_all}
use Rattle.history.proofs.OnDisk.{Start, opens, OnDisk, fresh, fresh_shows}
use Rattle.history.proofs.Shows.{LiveOn, Resting, Beside, awake, rests, Shows}
use Rattle.history.proofs.Theorem.{follows}
use Rattle.serial.specs.Ledger.{OpenWithReads, CommitWithReads, LedgerWithReads, no_reads, without_reads, stamps_of, Fed, event, saw, told_of, feed}
use Rattle.serial.specs.Claim.{OnlyOpen}
use Rattle.serial.specs.Demand.{fed_of, fed_by, WatchedReads, watched, happen_read, happen_reads, opening_reads, ReadsOrdered, ReadsSerial}
use Rattle.serial.proofs.Plain.{without_reads_lem}
use Rattle.serial.proofs.Run.{Unread, ReadStep, steps, reads, ReadRun, opened, next, plain_run}
use Rattle.serial.proofs.Seeing.{reader_open}
use Rattle.serial.proofs.Theorem.{read_theorem, SoFar, read_so_far}
use Rattle.serial.proofs.Stamps.{Stamped, stamped_feed, Lost, lost_stays, lost_unread}
use Rattle.serial.proofs.Holding.{ReadsHeld, unrecovered_no, none_held, wrote_unread, seen_held}
use Rattle.serial.proofs.Calls.{HeldAfter, begin_held, write_held, answer_held, savepoint_held, go_back_held, precommit_held, abort_held, settle_held, flush_held, checkpoint_held, restart_held}

-- ---- what is fed

pub told_fed : (c : Call) (r : Reply) → told_of (fed_of c r) ≡ event_of c r
told_fed c (told says value stores) = refl
told_fed c (part []) = refl
told_fed begin (part (b ∷ bs)) = refl
told_fed (write id addr new) (part (b ∷ bs)) = refl
told_fed (read id addr len) (part (b ∷ bs)) = refl
told_fed (read_answer id addr len) (part (b ∷ bs)) = refl
told_fed (savepoint id name) (part (b ∷ bs)) = refl
told_fed (go_back id name) (part (b ∷ bs)) = refl
told_fed (precommit id) (part (b ∷ bs)) = refl
told_fed (abort id) (part (b ∷ bs)) = refl
told_fed (flush groups allowed) (part (b ∷ bs)) = refl
told_fed (settle id) (part (b ∷ bs)) = refl
told_fed (checkpoint allowed) (part (b ∷ bs)) = refl
told_fed (restart allowed) (part (b ∷ bs)) = refl

-- a call that was refused or cut meets no read
unread_by : (c : Call) (r : Reply) (ss : List OpenWithReads) → ((value stores : ℕ) → r ≡ told done value stores → Unread (done_event c value) ss)
    → Unread (event_of c r) ss
unread_by c (told done value stores) ss h = h value stores refl
unread_by c (told cut value stores) ss h = tt
unread_by c (told (refused n) value stores) ss h = tt
unread_by c (part bytes) ss h = tt

-- without the reads what happens is what demand 3 says
pub watched_happen : (h : Happening) (k : WatchedReads) → watched (happen_read h k) ≡ happen h (watched k)
watched_happen (called c) k =
    ap (λ (l : Ledger). record { world = (step_of c k.world).world; ledger = l })
    (without_reads_lem (fed_of c (step_of c k.world).reply) k.ledger
    ∙ ap (λ (e : Event). enter e (without_reads k.ledger)) (told_fed c (step_of c k.world).reply))
watched_happen (power_fails m t lm lt) k = refl

pub watched_happens : (hs : List Happening) (k : WatchedReads) → watched (happen_reads hs k) ≡ happen_all hs (watched k)
watched_happens [] k = refl
watched_happens (h ∷ hs) k = watched_happens hs (happen_read h k) ∙ ap (happen_all hs) (watched_happen h k)

-- no stamp is given twice, and a lost transaction stays lost
pub stamped_happen : (hs : List Happening) (k : WatchedReads) → Stamped k.ledger → Stamped (happen_reads hs k).ledger
stamped_happen [] k v = v
stamped_happen (h ∷ hs) k v = stamped_happen hs (happen_read h k) (stamped_feed (fed_by h k.world) k.ledger v)

pub lost_happen : (n : ℕ) (hs : List Happening) (k : WatchedReads) → Lost n k.ledger → Lost n (happen_reads hs k).ledger
lost_happen n [] k v = v
lost_happen n (h ∷ hs) k v = lost_happen n hs (happen_read h k) (lost_stays n (fed_by h k.world) k.ledger v)

-- ---- the state

sized : (w : World) (s : System) → Beside w s → SizedState w.state
sized w s (awake v) = v.sizes
sized w s (rests x) = subst SizedState (sym x.state) unrecovered_holds.sizes

-- a write that is done has no byte that another open transaction has read
write_unread : (w : World) (k : LedgerWithReads) → SizedState w.state → ReadsHeld w.state k.active → (id a : ℕ) (bs : List ℕ)
    → Unread (event_of (write id a bs) (step_of (write id a bs) w).reply) k.active
unfolding step_of
write_unread w k z h id a bs =
    let s = w.state in
    let m = w.memory in
    let t = w.tail in
    let tid : TxId = record { 0 = id } in
    unread_by (write id a bs) (step_of (write id a bs) w).reply k.active
    (λ value stores q.
    same_or_other (write_number s m t tid a (length bs)) 0
    (λ e.
    let p = write_passed s m t tid a (length bs) e in
    wrote_unread s m t z k.active (h p.runs.fits.recovered) tid a bs p.free)
    (λ n. absurd (refused_done (ap (λ (o : Outcome). (changed w o).reply) (write_refused s m t tid a bs _ refl n)) q)))
  where
    refused_done : {x : Reply} {n value stores : ℕ} → x ≡ told (refused n) 0 0 → x ≡ told done value stores → ⊥
    refused_done e f = let z : ◌≡◌ {A = ℕ} 0 1 = cc in omega arith

module _ (from : Start) where
  -- a store and its ledger with reads are those of a run of the machine with reads, and the open transactions hold what they have read
  pub record ReadReached (k : WatchedReads) : Type 0 where
    pub system : System
    pub run : ReadRun (opens from) system k.ledger
    pub shows : Shows from k.world system
    pub held : ReadsHeld k.world.state k.ledger.active

  -- ---- a read that handed back bytes

  part_whole : (w : World) (id a n : ℕ) → ReadPassed w.state w.memory w.tail id a n → (bytes : List ℕ) → bytes ≡ take n (drop a w.memory)
      → length bytes ≡ n
  part_whole w id a n p bytes is = ap length is ∙ length-take-le n (drop a w.memory) (rw length-drop (omega (arith, p.runs.memory, p.range.within)))

  module _ (w : World) (d : Disk) (l : Live) (v : LiveOn w d l) (id a n : ℕ) (p : ReadPassed w.state w.memory w.tail id a n) where
    abbrev tx : Transaction
    tx = view_of (tx_of w.state id)

    listed : Listed tx l.txs
    listed = ap₂ (λ (i : ℕ) (x : Live). lookup i x.txs) p.runs.named (sym v.view)
        ∙ listed_view w.state w.memory w.tail id p.runs.listed

    running : tx.committing ≡ false
    running = rw p.runs.status

    module _ (bytes : List ℕ) (is : bytes ≡ take n (drop a w.memory)) where
      whole : length bytes ≡ n
      whole = part_whole w id a n p bytes is

      free : held_by_other tx.id (record { addr = a; bytes = bytes }) l.txs ≡ false
      free =
          ap₂ (λ (i : ℕ) (y : Live). held_by_other i (record { addr = a; bytes = bytes }) y.txs) p.runs.named (sym v.view)
          ∙ sym (held_view w.state w.memory w.tail v.sizes p.runs.fits id a bytes)
          ∙ ap (λ (j : ℕ). any (held_against reading id a j) (txs_of w.state)) whole ∙ p.free

      handed : bytes ≡ take (length bytes) (drop a l.memory)
      handed = is ∙ ap₂ (λ (j : ℕ) (x : Live). take j (drop a x.memory)) (sym whole) v.view

      saw_step : (k : LedgerWithReads) → ReadStep (opens from) (up d l) k (saw id a bytes) (up d l)
      saw_step k =
          subst (λ (i : ℕ). ReadStep (opens from) (up d l) k (saw i a bytes) (up d l)) p.runs.named
          (reads d l tx a bytes listed running (omega (arith, whole, p.range.within)) free handed)

  -- ---- every call but a read

  at : (k : WatchedReads) (r : ReadReached k) → SizedState k.world.state
  at k r = sized k.world r.system r.shows.1

  -- a call that is told to the ledger with reads as it is told to the ledger
  went : (c : Call) (k : WatchedReads) → ReadReached k → fed_of c (step_of c k.world).reply ≡ event (event_of c (step_of c k.world).reply)
      → Unread (event_of c (step_of c k.world).reply) k.ledger.active → HeldAfter k.world k.ledger c (step_of c k.world)
      → ReadReached (happen_read (called c) k)
  went c k r fed unread held =
      let f = follows from c k.world r.system (without_reads k.ledger) (plain_run (opens from) r.run) r.shows.0 r.shows.1 in
      record {
        system = f.next;
        run = next r.run (subst (λ (x : Fed). ReadStep (opens from) r.system k.ledger x f.next) (sym fed) (steps f.step unread));
        shows = f.shows;
        held = held;
      }

  -- one that is no write
  went_unread : (c : Call) (k : WatchedReads) → ReadReached k → fed_of c (step_of c k.world).reply ≡ event (event_of c (step_of c k.world).reply)
      → ((value : ℕ) → Unread (done_event c value) k.ledger.active) → HeldAfter k.world k.ledger c (step_of c k.world)
      → ReadReached (happen_read (called c) k)
  went_unread c k r fed quiet held = went c k r fed (unread_by c (step_of c k.world).reply k.ledger.active (λ value stores e. quiet value)) held

  -- ---- a read

  module _ (k : WatchedReads) (r : ReadReached k) (id a n : ℕ) where
    abbrev w : World
    w = k.world

    abbrev tid : TxId
    tid = record { 0 = id }

    -- the store after a part was handed back
    abbrev after : List ℕ → WatchedReads
    after bytes = record { world = w; ledger = feed (fed_of (read id a n) (part bytes)) k.ledger }

    -- it handed back bytes: nothing refuses it, and each of them is covered
    passes : (b : ℕ) (bs : List ℕ) → read_of w.state w.memory w.tail tid a n ≡ b ∷ bs
        → (read_number w.state w.memory w.tail tid a n ≡ 0) × (covered (used_by (tx_of w.state id)) a n ≡ true)
    passes b bs e =
        same_or_other (read_number w.state w.memory w.tail tid a n) 0 (λ z. (z, covers z (covered (used_by (tx_of w.state id)) a n) refl))
        (λ o. absurd (cons≢nil (sym e ∙ read_refused w.state w.memory w.tail tid a n _ refl o)))
      where
        covers : read_number w.state w.memory w.tail tid a n ≡ 0 → (c : Bool) → covered (used_by (tx_of w.state id)) a n ≡ c
            → covered (used_by (tx_of w.state id)) a n ≡ true
        covers z true c = c
        covers z false c = absurd (cons≢nil (sym e ∙ read_uncovered w.state w.memory w.tail tid a n z c))

    -- so the store is up
    module _ (z : read_number w.state w.memory w.tail tid a n ≡ 0) where
      passed : ReadPassed w.state w.memory w.tail id a n
      passed = read_passed w.state w.memory w.tail tid a n z

      asleep : {P : Type 0} → Resting w → P
      asleep x = absurd (opposed passed.runs.fits.recovered (ap (λ (y : State). y.recovered) x.state ∙ unrecovered_no))

      saw_part : covered (used_by (tx_of w.state id)) a n ≡ true → (b : ℕ) (bs : List ℕ) → read_of w.state w.memory w.tail tid a n ≡ b ∷ bs
          → (s : System) → ReadRun (opens from) s k.ledger → OnDisk from w.disk (disk_of s) → Beside w s → ReadReached (after (b ∷ bs))
      saw_part c b bs e s run o (rests x) = asleep x
      saw_part c b bs e s run o (awake {d} {l} v) =
          let is : b ∷ bs ≡ take n (drop a w.memory) = sym e ∙ read_done w.state w.memory w.tail tid a n z c in
          record {
            system = up d l;
            run = next run (saw_step w d l v id a n passed (b ∷ bs) is k.ledger);
            shows = (o, awake v);
            held = λ q.
                seen_held w.state w.memory w.tail v.sizes k.ledger.active (r.held q) tid a n passed c (b ∷ bs) (stamps_of k.ledger.assigned)
                (whole w d l v id a n passed (b ∷ bs) is);
          }

      open_reader : (s : System) → ReadRun (opens from) s k.ledger → Beside w s → OnlyOpen id k.ledger.active
      open_reader s run (rests x) = asleep x
      open_reader s run (awake {d} {l} v) =
          subst (λ (i : ℕ). OnlyOpen i k.ledger.active) passed.runs.named
          (reader_open (opens from) d l k.ledger (view_of (tx_of w.state id)) (listed w d l v id a n passed) (running w d l v id a n passed)
          (machine.holds (opens from) (plain_run (opens from) run)))

    read_part : (bytes : List ℕ) → read_of w.state w.memory w.tail tid a n ≡ bytes → ReadReached (after bytes)
    read_part [] e = record { system = r.system; run = r.run; shows = r.shows; held = r.held }
    read_part (b ∷ bs) e = let p = passes b bs e in saw_part p.0 p.1 b bs e r.system r.run r.shows.0 r.shows.1

    read_noted : (b : ℕ) (bs : List ℕ) → (step_of (read id a n) k.world).reply ≡ part (b ∷ bs) → OnlyOpen id k.ledger.active
    unfolding step_of
    read_noted b bs e = open_reader (passes b bs (cc)).0 r.system r.run r.shows.1

    read_whole : (b : ℕ) (bs : List ℕ) → (step_of (read id a n) k.world).reply ≡ part (b ∷ bs) → length (b ∷ bs) ≡ n
    unfolding step_of
    read_whole b bs e =
        let q : read_of w.state w.memory w.tail tid a n ≡ b ∷ bs = cc in
        let p = passes b bs q in
        part_whole w id a n (passed p.0) (b ∷ bs) (sym q ∙ read_done w.state w.memory w.tail tid a n p.0 p.1)

    read_went : ReadReached (happen_read (called (read id a n)) k)
    unfolding step_of
    read_went = read_part (read_of w.state w.memory w.tail tid a n) refl

  -- ---- what happens

  call_reached : (c : Call) (k : WatchedReads) → ReadReached k → ReadReached (happen_read (called c) k)
  unfolding step_of
  call_reached begin k r = went_unread begin k r refl (λ v. tt) (begin_held k.world k.ledger (at k r) r.held)
  call_reached (write id a bs) k r = went (write id a bs) k r refl (write_unread k.world k.ledger (at k r) r.held id a bs)
      (write_held k.world k.ledger (at k r) r.held id a bs)
  call_reached (read id a n) k r = read_went k r id a n
  call_reached (read_answer id a n) k r = went_unread (read_answer id a n) k r refl (λ v. tt) (answer_held k.world k.ledger (at k r) r.held id a n)
  call_reached (savepoint id name) k r = went_unread (savepoint id name) k r refl (λ v. tt) (savepoint_held k.world k.ledger (at k r) r.held id name)
  call_reached (go_back id name) k r = went_unread (go_back id name) k r refl (λ v. tt) (go_back_held k.world k.ledger (at k r) r.held id name)
  call_reached (precommit id) k r = went_unread (precommit id) k r refl (λ v. tt) (precommit_held k.world k.ledger (at k r) r.held id)
  call_reached (abort id) k r = went_unread (abort id) k r refl (λ v. tt) (abort_held k.world k.ledger (at k r) r.held id)
  call_reached (flush q a) k r = went_unread (flush q a) k r refl (λ v. tt) (flush_held k.world k.ledger r.held q a)
  call_reached (settle id) k r = went_unread (settle id) k r refl (λ v. tt) (settle_held k.world k.ledger (at k r) r.held id)
  call_reached (checkpoint a) k r = went_unread (checkpoint a) k r refl (λ v. tt) (checkpoint_held k.world k.ledger r.held a)
  call_reached (restart a) k r = went_unread (restart a) k r refl (λ v. tt) (restart_held k.world k.ledger a)

  pub read_happens : (h : Happening) (k : WatchedReads) → ReadReached k → ReadReached (happen_read h k)
  read_happens (called c) k r = call_reached c k r
  read_happens (power_fails m t lm lt) k r = record {
    system = r.system;
    run = r.run;
    shows = (r.shows.0, rests (record { memory = lm; tail = lt; state = refl }));
    held = none_held k.ledger.active;
  }

  pub reads_happen : (hs : List Happening) (k : WatchedReads) → ReadReached k → ReadReached (happen_reads hs k)
  reads_happen [] k r = r
  reads_happen (h ∷ hs) k r = reads_happen hs (happen_read h k) (read_happens h k r)

  -- whatever happens to a store whose disk shows the opening one, and whatever memory and tail hold at first
  pub reads_reached : (disk memory tail : List ℕ) → OnDisk from disk (opening_disk (opens from)) → length memory ≡ 4096 → length tail ≡ 16384
      → (hs : List Happening)
      → ReadReached (happen_reads hs (record { world = record { disk = disk; memory = memory; tail = tail; state = unrecovered }; ledger = no_reads from.memory }))
  reads_reached disk memory tail o lm lt hs =
      reads_happen hs (record { world = record { disk = disk; memory = memory; tail = tail; state = unrecovered }; ledger = no_reads from.memory })
      (record {
        system = down (opening_disk (opens from));
        run = opened;
        shows = (o, rests (record { memory = lm; tail = lt; state = refl }));
        held = none_held [];
      })

  pub reads_ordered : (k : WatchedReads) → ReadReached k → ReadsOrdered from.memory k
  reads_ordered k r = record {
    serial = read_theorem (opens from) r.run;
    noted = λ id a n b bs e. read_noted k r id a n b bs e;
    whole = λ id a n b bs e. read_whole k r id a n b bs e;
  }

  -- those still open or queued: what they have read is right so far
  pub reads_so_far : (k : WatchedReads) → ReadReached k → SoFar (opens from) k.ledger
  reads_so_far k r = read_so_far (opens from) r.run

  -- "A reader of a precommitted booking that was later lost is never kept": whatever happens after the loss, none that is durable has read while the lost
  -- one was assigned
  pub lost_reader : (n : ℕ) (k : WatchedReads) → ReadReached k → Lost n k.ledger → (hs : List Happening)
      → (before : List CommitWithReads) (c : CommitWithReads) (after : List CommitWithReads)
      → (happen_reads hs k).ledger.durable ≡ before ++ (c ∷ after) → All (λ r. All (λ s. s ≢ n) r.assigned) c.reads
  lost_reader n k r lost hs =
      lost_unread from.memory n (happen_reads hs k).ledger (reads_ordered (happen_reads hs k) (reads_happen hs k r)).serial (lost_happen n hs k lost)

-- document 02, A.4
pub reads_serial : ReadsSerial
reads_serial memory tail lm lt hs =
    reads_ordered fresh (happen_reads hs (opening_reads memory tail)) (reads_reached fresh (replicate 33691 0) memory tail fresh_shows lm lt hs)
