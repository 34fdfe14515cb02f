-- Demand 3 for the calls themselves, of a store that opened from any memory and commit number (`survives`), and so from a fresh disk (`demand_3`).
-- A call added later hooks in here. A constructor of Call: its lines of `follows`, by a lemma that it is refused or a step of the machine;
-- `Reached`, `happens` and all below them stay. A call that is made of these calls is a list of happenings: `all_happen` keeps `Reached`.
use Prim.Native.Nat.{ℕ, ◌+◌, ◌*◌, ◌≤◌}
use mathlib.Core.List.{List, [], ◌∷◌, ◌++◌, Memᴰ}
use mathlib.Core.Path.{◌≡◌, refl, sym, ap, ◌∙◌, subst}
use lib.ListN.{length, replicate}
use Rattle.layout.specs.declared.Form.TheVariants.{One}
use Rattle.recovery.specs.Group.{groups_size, last_csn}
use Rattle.recovery.specs.Lists.{All}
use Rattle.recovery.specs.Ledger.{Event, settled, Commit, Ledger, no_ledger, committed_in, latest}
use Rattle.recovery.specs.Machine.{Disk, standing_before, standing_in, number_before, Live, System, down, up, disk_of, opening_disk, undone_by, Step, stays, begins}
use Rattle.recovery.specs.Machine.{writes, sets_savepoint, goes_back, precommits, rolls_back, flushes, flush_is_cut, settles, checkpoints, checkpoint_is_cut, restarts, restart_is_cut, Run, opened, next}
use Rattle.recovery.specs.Claim.{commits, lay_commits, Numbered}
use Rattle.recovery.proofs.Groups.{last_csn_append}
use Rattle.recovery.proofs.Numbers.{Numbers}
use Rattle.recovery.proofs.Log.{number_one, standing_number, form_stays}
use Rattle.recovery.proofs.Invariant.{Inv}
use Rattle.recovery.proofs.Theorem.{holds, theorem, settled_found}
use Rattle.redolog.specs.Found.{read_found}
use Rattle.redolog.proofs.Basics.{clash}
use Rattle.redolog.proofs.FoundLaws.{found_same}
use Rattle.store.specs.Answer.{done}
use Rattle.store.specs.State.{unrecovered}
use Rattle.store.specs.Stored.{DiskOutcome}
use Rattle.disk.specs.Examine.{examine_of}
use Rattle.disk.specs.Restart.{restart_of}
use Rattle.disk.specs.Enough.{Enough}
use Rattle.history.specs.Calls.{Call, begin, write, read, read_answer, savepoint, go_back, precommit, abort, flush, settle, checkpoint, restart, told, World, step_of}
use Rattle.history.specs.Demand.{event_of, Happening, called, power_fails, Watched, happen, happen_all, opening, LatestDurable, Survives, Demand3}
use Rattle.history.proofs.OnDisk.{Start, opens, whole_log, groups_from, OnDisk, fresh, fresh_shows, end_shown, memory_shown}
use Rattle.history.proofs.Shows.{LiveOn, Beside, awake, rests, Shows, FollowsBy, refused_follows, read_refuses}
use Rattle.history.proofs.Shows.{begin_idle, write_idle, answer_idle, savepoint_idle, go_back_idle, precommit_idle, abort_idle, settle_idle, flush_idle, checkpoint_idle}
use Rattle.history.proofs.MemorySteps.{begin_follows, write_follows, answer_follows, savepoint_follows, go_back_follows, precommit_follows, abort_follows, settle_follows}
use Rattle.history.proofs.FlushSteps.{flush_follows}
use Rattle.history.proofs.CheckpointSteps.{checkpoint_follows}
use Rattle.history.proofs.RestartSteps.{left, log_left, restart_made, restart_follows}

-- a store before its first call, and an empty ledger that starts from a memory
abbrev pub opened_on : List ℕ → List ℕ → List ℕ → List ℕ → Watched
opened_on opening disk memory tail =
    record { world = record { disk = disk; memory = memory; tail = tail; state = unrecovered }; ledger = no_ledger opening }

module _ (from : Start) where
  -- ---- what the machine's invariant says of a disk

  numbers_in : (s : System) (k : Ledger) → Inv (opens from) s k → Numbers (opens from) (disk_of s)
  numbers_in (down d) k v = v.numbers
  numbers_in (up d l) k v = v.numbers

  module _ (s : System) (k : Ledger) (r : Run (opens from) s k) where
    -- what stands before the image ends with the image's number
    image_number : last_csn (number_before (opens from) (disk_of s)) (standing_before (disk_of s)) ≡ (disk_of s).image.csn
    image_number = standing_number (opens from) (disk_of s) (numbers_in s k (holds (opens from) r))

    -- the form is the opening's, and so the log goes on from the opening's number
    form : (disk_of s).form ≡ One
    form = form_stays (opens from) r

    opening_number : number_before (opens from) (disk_of s) ≡ from.csn
    opening_number = number_one (opens from) (disk_of s) form

    room : groups_size (standing_in (disk_of s)) + 4 * length (undone_by (disk_of s)) ≤ 16384
    room = (theorem (opens from) r).fits

  -- the last number in the log is the state's number on disk
  last_number : (w : World) (d : Disk) (l : Live) (k : Ledger) → Run (opens from) (up d l) k → LiveOn w d l
      → last_csn (number_before (opens from) d) (standing_in d) ≡ w.state.ondisk.0
  last_number w d l k r v =
      last_csn_append (number_before (opens from) d) (standing_before d) d.after
      ∙ ap (λ (n : ℕ). last_csn n d.after) (image_number (up d l) k r)
      ∙ sym (holds (opens from) r).standing.on_disk
      ∙ ap (λ (x : Live). x.csn) (sym v.view)

  -- ---- each call is a step

  lengths : (w : World) (s : System) → Beside w s → (length w.memory ≡ 4096) × (length w.tail ≡ 16384)
  lengths w s (awake v) = (v.memory, v.tail)
  lengths w s (rests r) = (r.memory, r.tail)

  restart_step : (w : World) (s : System) (k : Ledger) → Run (opens from) s k → Shows from w s → (a : ℕ) → FollowsBy from s (restart a) (step_of (restart a) w)
  restart_step w s k r h = let l = lengths w s h.1 in restart_follows w s h.0 l.0 l.1 (image_number s k r) (room s k r)

  pub follows : (c : Call) (w : World) (s : System) (k : Ledger) → Run (opens from) s k → OnDisk from w.disk (disk_of s) → Beside w s
      → FollowsBy from s c (step_of c w)
  follows (restart a) w s k r o b = restart_step w s k r (o, b) a
  follows (read id a n) w s k r o b = refused_follows s w (read id a n) (o, b) (read_refuses w id a n)
  follows begin w s k r o (rests x) = refused_follows s w begin (o, rests x) (begin_idle w x)
  follows (write id a bs) w s k r o (rests x) = refused_follows s w (write id a bs) (o, rests x) (write_idle w x id a bs)
  follows (read_answer id a n) w s k r o (rests x) = refused_follows s w (read_answer id a n) (o, rests x) (answer_idle w x id a n)
  follows (savepoint id name) w s k r o (rests x) = refused_follows s w (savepoint id name) (o, rests x) (savepoint_idle w x id name)
  follows (go_back id name) w s k r o (rests x) = refused_follows s w (go_back id name) (o, rests x) (go_back_idle w x id name)
  follows (precommit id) w s k r o (rests x) = refused_follows s w (precommit id) (o, rests x) (precommit_idle w x id)
  follows (abort id) w s k r o (rests x) = refused_follows s w (abort id) (o, rests x) (abort_idle w x id)
  follows (settle id) w s k r o (rests x) = refused_follows s w (settle id) (o, rests x) (settle_idle w x id)
  follows (flush n a) w s k r o (rests x) = refused_follows s w (flush n a) (o, rests x) (flush_idle w x o.long n a)
  follows (checkpoint a) w s k r o (rests x) = refused_follows s w (checkpoint a) (o, rests x) (checkpoint_idle w x o.long a)
  follows begin w s k r o (awake {d} {l} v) = begin_follows w d l o v
  follows (write id a bs) w s k r o (awake {d} {l} v) = write_follows w d l o v id a bs
  follows (read_answer id a n) w s k r o (awake {d} {l} v) = answer_follows w d l o v id a n
  follows (savepoint id name) w s k r o (awake {d} {l} v) = savepoint_follows w d l o v id name
  follows (go_back id name) w s k r o (awake {d} {l} v) = go_back_follows w d l o v id name
  follows (precommit id) w s k r o (awake {d} {l} v) = precommit_follows w d l o v id
  follows (abort id) w s k r o (awake {d} {l} v) = abort_follows w d l o v id
  follows (settle id) w s k r o (awake {d} {l} v) = settle_follows w d l o v id
  follows (flush n a) w s k r o (awake {d} {l} v) = flush_follows w d l o v (last_number w d l k r v) n a
  follows (checkpoint a) w s k r o (awake {d} {l} v) = checkpoint_follows w d l o v (form s k r) a

  -- ---- lists of them

  -- a store and its ledger are those of a run of the machine
  pub record Reached (k : Watched) : Type 0 where
    pub system : System
    pub run : Run (opens from) system k.ledger
    pub shows : Shows from k.world system

  unfoldable pub happens : (h : Happening) (k : Watched) → Reached k → Reached (happen h k)
  happens (called c) k r =
      let f = follows c k.world r.system k.ledger r.run r.shows.0 r.shows.1 in
      record { system = f.next; run = next r.run f.step; shows = f.shows }
  happens (power_fails m t lm lt) k r =
      record { system = r.system; run = r.run; shows = (r.shows.0, rests (record { memory = lm; tail = lt; state = refl })) }

  unfoldable pub all_happen : (hs : List Happening) (k : Watched) → Reached k → Reached (happen_all hs k)
  all_happen [] k r = r
  all_happen (h ∷ hs) k r = all_happen hs (happen h k) (happens h k r)

  -- ---- a settle that is done

  -- of the machine's steps settle's alone is told to the ledger as one, and it finds its booking there
  step_settles : (s t : System) (e : Event) (k : Ledger) (id : ℕ) → Run (opens from) s k → Step (opens from) s e t → e ≡ settled id → LatestDurable id k
  step_settles s t e k id r (settles d l x listed committing on_disk_lem) q =
      let f = settled_found (opens from) d l k x r listed committing on_disk_lem in
      let i : x.id ≡ id = cc in
      record { commit = f.0; found = ap (λ (j : ℕ). latest j (k.durable ++ committed_in k.queue)) (sym i) ∙ f.1; durable = f.4 }
  step_settles s t e k id r (stays s') q = clash (cc)
  step_settles s t e k id r (begins d l room) q = clash (cc)
  step_settles s t e k id r (writes d l x w listed run within free room) q = clash (cc)
  step_settles s t e k id r (sets_savepoint d l x name listed run) q = clash (cc)
  step_settles s t e k id r (goes_back d l x name n listed run set room) q = clash (cc)
  step_settles s t e k id r (precommits d l x listed run) q = clash (cc)
  step_settles s t e k id r (rolls_back d l x listed run) q = clash (cc)
  step_settles s t e k id r (flushes d l n allowed enough) q = clash (cc)
  step_settles s t e k id r (flush_is_cut d l n allowed few) q = clash (cc)
  step_settles s t e k id r (checkpoints d l) q = clash (cc)
  step_settles s t e k id r (checkpoint_is_cut d l) q = clash (cc)
  step_settles s t e k id r (restarts s' last_id image_last image-ids group-ids) q = clash (cc)
  step_settles s t e k id r (restart_is_cut s') q = clash (cc)

  settle_found : (k : Watched) → Reached k → (id : ℕ) → (step_of (settle id) k.world).reply ≡ told done 0 0 → LatestDurable id k.ledger
  settle_found k r id e =
      let f = follows (settle id) k.world r.system k.ledger r.run r.shows.0 r.shows.1 in
      step_settles r.system f.next _ k.ledger id r.run f.step (ap (event_of (settle id)) e)

  -- ---- the claim

  -- of one more restart's outcome
  abbrev pub Restored : List Commit → DiskOutcome → Type 0
  Restored durable x =
      (x.result.says ≡ done) × (x.memory ≡ lay_commits durable from.memory)
      × (commits (groups_from from.csn x.disk) ≡ durable)

  -- `Survives` (specs/Demand.antt), of a store that opened from any memory and number
  pub record SurvivesFrom (k : Watched) : Type 0 where
    pub restarts : (memory tail : List ℕ) (allowed : ℕ) → length memory ≡ 4096 → length tail ≡ 16384 → Enough allowed k.world.disk
        → Restored k.ledger.durable (restart_of k.world.disk memory tail allowed)
    pub logged : commits (groups_from from.csn k.world.disk) ≡ k.ledger.durable
    pub ends : (examine_of k.world.disk).result.end ≡ groups_size (groups_from from.csn k.world.disk)
    pub numbered : Numbered from.csn k.ledger.durable
    pub first : (rest : List Commit) × (k.ledger.assigned ≡ k.ledger.durable ++ rest)
    pub settled : All (λ c. Memᴰ c k.ledger.durable) k.ledger.settled
    pub settles : (id : ℕ) → (step_of (settle id) k.world).reply ≡ told done 0 0 → LatestDurable id k.ledger

  -- what stands in the machine's log is what the disk's log has, read from its first byte on from the opening's number
  pub log_shown : (k : Watched) (r : Reached k) → groups_from from.csn k.world.disk ≡ standing_in (disk_of r.system)
  log_shown k r =
      ap (λ (n : ℕ). groups_from n k.world.disk) (sym (opening_number r.system k.ledger r.run)) ∙ r.shows.0.log

  -- read with its first number as found it is the same
  pub found_shown : (k : Watched) (r : Reached k) → read_found (whole_log k.world.disk) ≡ groups_from from.csn k.world.disk
  found_shown k r =
      found_same from.csn (standing_in (disk_of r.system)) (whole_log k.world.disk) (log_shown k r) r.shows.0.ended
      ∙ sym (log_shown k r)

  pub claimed : (k : Watched) → Reached k → SurvivesFrom k
  claimed k r =
      let d = disk_of r.system in
      let disk = k.world.disk in
      let o = r.shows.0 in
      let c = theorem (opens from) r.run in
      let n = image_number r.system k.ledger r.run in
      let fits = room r.system k.ledger r.run in
      let logged : commits (standing_in d) ≡ k.ledger.durable = c.logged (form r.system k.ledger r.run) in
      let from-opening = opening_number r.system k.ledger r.run in
      record {
        restarts = λ m t a lm lt h.
            subst (Restored k.ledger.durable) (sym (restart_made disk d o n fits m t lm lt a h)) (
              refl,
              memory_shown disk d o n fits ∙ c.restores,
              ap (λ (j : ℕ). commits (groups_from j (left disk d o n fits a))) (sym from-opening) ∙ ap commits (log_left disk d o n fits a) ∙ logged,
            );
        logged = ap commits (log_shown k r) ∙ logged;
        ends = end_shown disk d o n fits ∙ ap groups_size (sym (log_shown k r));
        numbered = c.numbered;
        first = c.first;
        settled = c.settled;
        settles = settle_found k r;
      }

  -- ---- from the opening on

  -- whatever happens to a store whose disk shows the opening one, and whatever memory and tail hold at first
  pub survives : (disk memory tail : List ℕ) → OnDisk from disk (opening_disk (opens from)) → length memory ≡ 4096 → length tail ≡ 16384
      → (hs : List Happening) → SurvivesFrom (happen_all hs (opened_on from.memory disk memory tail))
  survives disk memory tail o lm lt hs =
      claimed (happen_all hs (opened_on from.memory disk memory tail)) (all_happen hs (opened_on from.memory disk memory tail)
      (record { system = down (opening_disk (opens from)); run = opened; shows = (o, rests (record { memory = lm; tail = lt; state = refl })) }))

-- a fresh disk opens from zeros and 0
as_demanded : (k : Watched) → SurvivesFrom fresh k → Survives k
as_demanded k x = record {
  restarts = λ m t a lm lt h. let r = x.restarts m t a lm lt h in record { done = r.0; restores = r.1; logged = r.2 };
  logged = x.logged;
  ends = x.ends;
  numbered = x.numbered;
  first = x.first;
  settled = x.settled;
  settles = x.settles;
}

pub demand_3 : Demand3
demand_3 memory tail lm lt hs =
    as_demanded (happen_all hs (opening memory tail)) (survives fresh (replicate 33691 0) memory tail fresh_shows lm lt hs)
