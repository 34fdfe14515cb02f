-- A world that shows a system of `recovery`'s machine: what its disk shows, and what state, memory and tail are beside it.
use Prim.Native.Nat.{ℕ, ◌-◌}
use native.Mathlib.Omega.{arith}
use mathlib.Core.Bool.{true, false}
use mathlib.Core.List.{List, [], ◌∷◌, ◌++◌, append-nil}
use mathlib.Core.Path.{◌≡◌, refl, sym, ap, ap₂, ◌∙◌, subst}
use lib.ListN.{length, replicate, length-replicate}
use lib.Seq.{sets}
use borrow.Author.Tests.{eq-eqb}
use Rattle.recovery.specs.Group.{Group, groups_size}
use Rattle.recovery.specs.Ledger.{Event, unchanged}
use Rattle.recovery.specs.Machine.{Disk, standing_in, Live, System, up, disk_of, Step, stays}
use Rattle.redolog.specs.Group.{encode_group}
use Rattle.redolog.specs.Log.{read_log, encode_log}
use Rattle.redolog.proofs.Parts.{encode_append}
use Rattle.redolog.proofs.RoundTrip.{length_group, length_log}
use Rattle.store.specs.declared.State.{State}
use Rattle.store.specs.State.{unrecovered}
use Rattle.store.specs.Answer.{Told}
use Rattle.store.specs.Rules.{room_used, unfit}
use Rattle.store.specs.Numbers.{Check, first_number, shared_checks, begin_checks, write_checks, answer_checks, savepoint_checks, go_back_checks, precommit_checks, abort_checks, settle_checks}
use Rattle.store.specs.Calls.{Outcome, begin_number, write_number, precommit_number, abort_number, settle_number, answer_number, savepoint_number, go_back_number, appended}
use Rattle.store.specs.Stored.{DiskOutcome}
use Rattle.store.specs.Flush.{flush_plan, flush_of}
use Rattle.store.specs.Checkpoint.{checkpoint_plan, checkpoint_of}
use Rattle.store.specs.View.{live}
use Rattle.store.proofs.Calling.{begin_refused, write_refused, precommit_refused, abort_refused, settle_refused, answer_refused, savepoint_refused, go_back_refused}
use Rattle.store.proofs.Storing.{disk_number, stored_refused}
use Rattle.store.proofs.Appending.{appended_log}
use Rattle.store.proofs.Stepping.{SizedState}
use Rattle.store.proofs.Fits.{Fit}
use Rattle.store.proofs.Views.{Appends, tail_zeros}
use Rattle.disk.specs.Layout.{log_from}
use Rattle.history.specs.Calls.{Call, begin, write, read, read_answer, savepoint, go_back, precommit, abort, flush, settle, checkpoint, World, Stepped, returned, changed}
use Rattle.history.specs.Calls.{stored, step_of}
use Rattle.history.specs.Demand.{event_of}
use Rattle.history.proofs.Padded.{padded, padded_append}
use Rattle.history.proofs.OnDisk.{Start, opens, OnDisk}

-- a tail is its groups, and zeros
abbrev pub Neat : ℕ → List ℕ → Type 0
Neat n t = t ≡ padded (encode_log (read_log n t))

pub record LiveOn (w : World) (d : Disk) (l : Live) : Type 0 where
  pub memory : length w.memory ≡ 4096
  pub tail : length w.tail ≡ 16384
  pub fits : unfit w.state w.tail ≡ false
  pub sizes : SizedState w.state
  pub view : live w.state w.memory w.tail ≡ l
  pub end : w.state.logend ≡ groups_size (standing_in d)
  pub zeros : log_from w.state.logend w.disk ≡ replicate (16384 - w.state.logend) 0
  pub neat : Neat w.state.ondisk.0 w.tail

-- nothing but a restart goes on
pub record Resting (w : World) : Type 0 where
  pub memory : length w.memory ≡ 4096
  pub tail : length w.tail ≡ 16384
  pub state : w.state ≡ unrecovered

-- what every call that is cut leaves
pub cut_rests : {disk : List ℕ} → Resting (record { disk = disk; memory = replicate 4096 0; tail = replicate 16384 0; state = unrecovered })
cut_rests = record { memory = length-replicate {A = ℕ} 4096 0; tail = length-replicate {A = ℕ} 16384 0; state = refl }

-- What state, memory and tail are beside the disk. Where the current failed between two calls a world rests, though the machine has made no step.
pub data Beside (w : World) : System → Type 0 where
  awake : {d : Disk} {l : Live} → LiveOn w d l → Beside w (up d l)
  rests : {s : System} → Resting w → Beside w s

abbrev pub Shows : Start → World → System → Type 0
Shows from w s = OnDisk from w.disk (disk_of s) × Beside w s

-- what a step of the machine answers to
pub record Follows (from : Start) (s : System) (e : Event) (w : World) : Type 0 where
  pub next : System
  pub step : Step (opens from) s e next
  pub shows : Shows from w next

abbrev pub FollowsBy : Start → System → Call → Stepped → Type 0
FollowsBy from s c x = Follows from s (event_of c x.reply) x.world

-- ---- calls that change nothing

pub record Refuses (w : World) (c : Call) : Type 0 where
  pub event : event_of c (step_of c w).reply ≡ unchanged
  pub world : (step_of c w).world ≡ w

pub refused_follows : {from : Start} (s : System) (w : World) (c : Call) → Shows from w s → Refuses w c → FollowsBy from s c (step_of c w)
refused_follows {from} s w c h r = record {
  next = s;
  step = subst (λ (e : Event). Step (opens from) s e s) (sym r.event) (stays s);
  shows = subst (λ (x : World). Shows from x s) (sym r.world) h;
}

module _ (w : World) where
  pub begin_refuses : (begin_number w.state w.memory w.tail ≡ 0 → ⊥) → Refuses w begin
  unfolding step_of
  begin_refuses h =
      let e = begin_refused w.state w.memory w.tail _ refl h in
      record { event = ap (λ (r : Told). event_of begin (returned w r).reply) e; world = ap (λ (r : Told). (returned w r).world) e }

  pub write_refuses : (id a : ℕ) (bs : List ℕ) → (write_number w.state w.memory w.tail (record { 0 = id }) a (length bs) ≡ 0 → ⊥)
      → Refuses w (write id a bs)
  unfolding step_of
  write_refuses id a bs h =
      let e = write_refused w.state w.memory w.tail (record { 0 = id }) a bs _ refl h in
      record { event = ap (λ (r : Outcome). event_of (write id a bs) (changed w r).reply) e; world = ap (λ (r : Outcome). (changed w r).world) e }

  pub read_refuses : (id a k : ℕ) → Refuses w (read id a k)
  unfolding step_of
  read_refuses id a k = record { event = refl; world = refl }

  pub answer_refuses : (id a k : ℕ) → (answer_number w.state w.memory w.tail (record { 0 = id }) a k ≡ 0 → ⊥) → Refuses w (read_answer id a k)
  unfolding step_of
  answer_refuses id a k h =
      let e = answer_refused w.state w.memory w.tail (record { 0 = id }) a k _ refl h in
      record { event = ap (λ (r : Told). event_of (read_answer id a k) (returned w r).reply) e; world = ap (λ (r : Told). (returned w r).world) e }

  pub savepoint_refuses : (id name : ℕ) → (savepoint_number w.state w.memory w.tail (record { 0 = id }) name ≡ 0 → ⊥) → Refuses w (savepoint id name)
  unfolding step_of
  savepoint_refuses id name h =
      let e = savepoint_refused w.state w.memory w.tail (record { 0 = id }) name _ refl h in
      record { event = ap (λ (r : Told). event_of (savepoint id name) (returned w r).reply) e; world = ap (λ (r : Told). (returned w r).world) e }

  pub go_back_refuses : (id name : ℕ) → (go_back_number w.state w.memory w.tail (record { 0 = id }) name ≡ 0 → ⊥) → Refuses w (go_back id name)
  unfolding step_of
  go_back_refuses id name h =
      let e = go_back_refused w.state w.memory w.tail (record { 0 = id }) name _ refl h in
      record { event = ap (λ (o : Outcome). event_of (go_back id name) (changed w o).reply) e; world = ap (λ (o : Outcome). (changed w o).world) e }

  pub precommit_refuses : (id : ℕ) → (precommit_number w.state w.memory w.tail (record { 0 = id }) ≡ 0 → ⊥) → Refuses w (precommit id)
  unfolding step_of
  precommit_refuses id h =
      let e = precommit_refused w.state w.memory w.tail (record { 0 = id }) _ refl h in
      record { event = ap (λ (r : Outcome). event_of (precommit id) (changed w r).reply) e; world = ap (λ (r : Outcome). (changed w r).world) e }

  pub abort_refuses : (id : ℕ) → (abort_number w.state w.memory w.tail (record { 0 = id }) ≡ 0 → ⊥) → Refuses w (abort id)
  unfolding step_of
  abort_refuses id h =
      let e = abort_refused w.state w.memory w.tail (record { 0 = id }) _ refl h in
      record { event = ap (λ (r : Outcome). event_of (abort id) (changed w r).reply) e; world = ap (λ (r : Outcome). (changed w r).world) e }

  pub settle_refuses : (id : ℕ) → (settle_number w.state w.memory w.tail (record { 0 = id }) ≡ 0 → ⊥) → Refuses w (settle id)
  unfolding step_of
  settle_refuses id h =
      let e = settle_refused w.state w.memory w.tail (record { 0 = id }) _ refl h in
      record { event = ap (λ (r : Told). event_of (settle id) (returned w r).reply) e; world = ap (λ (r : Told). (returned w r).world) e }

  pub flush_refuses : (k a : ℕ) → (disk_number w.state w.disk w.memory w.tail ≡ 0 → ⊥) → Refuses w (flush k a)
  unfolding step_of flush_of
  flush_refuses k a h =
      let e = stored_refused w.state w.disk w.memory w.tail (flush_plan w.state w.memory w.tail k) a _ refl h in
      record { event = ap (λ (r : DiskOutcome). event_of (flush k a) (stored r).reply) e; world = ap (λ (r : DiskOutcome). (stored r).world) e }

  pub checkpoint_refuses : (a : ℕ) → (disk_number w.state w.disk w.memory w.tail ≡ 0 → ⊥) → Refuses w (checkpoint a)
  unfolding step_of checkpoint_of
  checkpoint_refuses a h =
      let e = stored_refused w.state w.disk w.memory w.tail (checkpoint_plan w.state w.disk w.memory w.tail) a _ refl h in
      record { event = ap (λ (r : DiskOutcome). event_of (checkpoint a) (stored r).reply) e; world = ap (λ (r : DiskOutcome). (stored r).world) e }

-- ---- an unrecovered state: every call but restart is refused, by 2

unrecovered_unfit : (t : List ℕ) → unfit unrecovered t ≡ true
unfolding unfit unrecovered
unrecovered_unfit t = refl

module _ (w : World) (r : Resting w) where
  unfit_here : unfit w.state w.tail ≡ true
  unfit_here = ap (λ (s : State). unfit s w.tail) r.state ∙ unrecovered_unfit w.tail

  two : (cs : List Check) → first_number (shared_checks w.state (length w.memory) w.tail ++ cs) ≡ 2
  two cs = rw (eq-eqb _ _ r.memory, eq-eqb _ _ r.tail, unfit_here)

  never : (cs : List Check) → first_number (shared_checks w.state (length w.memory) w.tail ++ cs) ≡ 0 → ⊥
  never cs z = absurd (omega (arith, two cs, z))

  never_disk : length w.disk ≡ 33691 → disk_number w.state w.disk w.memory w.tail ≡ 0 → ⊥
  never_disk l z = absurd (omega (arith, z, disk_two))
    where
      disk_two : disk_number w.state w.disk w.memory w.tail ≡ 2
      disk_two = rw (eq-eqb _ _ l, eq-eqb _ _ r.memory, eq-eqb _ _ r.tail, unfit_here)

  pub begin_idle : Refuses w begin
  begin_idle = begin_refuses w (never (begin_checks w.state.count w.state.lastid.0 (room_used w.state w.tail)))

  pub write_idle : (id a : ℕ) (bs : List ℕ) → Refuses w (write id a bs)
  write_idle id a bs = write_refuses w id a bs (never (write_checks w.state (room_used w.state w.tail) id a (length bs)))

  pub answer_idle : (id a k : ℕ) → Refuses w (read_answer id a k)
  answer_idle id a k = answer_refuses w id a k (never (answer_checks w.state id a k))

  pub savepoint_idle : (id name : ℕ) → Refuses w (savepoint id name)
  savepoint_idle id name = savepoint_refuses w id name (never (savepoint_checks w.state id name))

  pub go_back_idle : (id name : ℕ) → Refuses w (go_back id name)
  go_back_idle id name = go_back_refuses w id name (never (go_back_checks w.state (room_used w.state w.tail) id name))

  pub precommit_idle : (id : ℕ) → Refuses w (precommit id)
  precommit_idle id = precommit_refuses w id (never (precommit_checks w.state id))

  pub abort_idle : (id : ℕ) → Refuses w (abort id)
  abort_idle id = abort_refuses w id (never (abort_checks w.state id))

  pub settle_idle : (id : ℕ) → Refuses w (settle id)
  settle_idle id = settle_refuses w id (never (settle_checks w.state id))

  pub flush_idle : length w.disk ≡ 33691 → (k a : ℕ) → Refuses w (flush k a)
  flush_idle l k a = flush_refuses w k a (never_disk l)

  pub checkpoint_idle : length w.disk ≡ 33691 → (a : ℕ) → Refuses w (checkpoint a)
  checkpoint_idle l a = checkpoint_refuses w a (never_disk l)

-- ---- a group appended to a neat tail

pub appended_neat : (s : State) (t : List ℕ) (g : Group) → length t ≡ 16384 → Fit s t → Neat s.ondisk.0 t → Appends s t g
    → Neat s.ondisk.0 (appended s t g)
appended_neat s t g lt f n a =
    let gs = read_log s.ondisk.0 t in
    let l : groups_size gs ≡ length (encode_log gs) = sym (length_log gs) in
    ap₂ (λ (x : List ℕ) (k : ℕ). sets x k (encode_group g)) n l
    ∙ padded_append (encode_log gs) (encode_group g) (omega (arith, l, length_group g, a.room, lt))
    ∙ ap padded
    (sym (encode_append gs (g ∷ []) ∙ ap (λ (x : List ℕ). encode_log gs ++ x) (append-nil (encode_group g)))
    ∙ ap encode_log (sym (appended_log s.ondisk.0 t g (tail_zeros s t f) a.room a.right)))
