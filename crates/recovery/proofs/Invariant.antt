-- The invariant of disk, live state and ledger, and its part that lasts when the current fails.
use mathlib.Core.Path.{◌≡◌, ap, ◌∙◌}
use mathlib.Core.Bool.{false}
use mathlib.Core.List.{List, ◌++◌, append_assoc, Memᴰ}
use Prim.Native.Nat.{ℕ, ◌≤◌, ◌<◌}
use lib.ListN.{length, get_or}
use Rattle.recovery.specs.Group.{Group, last_csn}
use Rattle.recovery.specs.Lists.{All}
use Rattle.recovery.specs.Transaction.{Tx, running, committing}
use Rattle.recovery.specs.Replay.{replay, lay_bytes}
use Rattle.recovery.specs.Restart.{group_id}
use Rattle.recovery.specs.Ledger.{Commit, Ledger, emptied}
use Rattle.recovery.specs.Machine.{Opening, Disk, history_of, Live, System, down, up, Listed, last_assigned}
use Rattle.recovery.specs.Claim.{commits}
use Rattle.recovery.proofs.Lists.{all_here, EveryPrefix, prefix_left}
use Rattle.recovery.proofs.Transactions.{DistinctIds, Found, find, found_running}
use Rattle.recovery.proofs.Groups.{replay_append}
use Rattle.recovery.proofs.Byte.{lay_byte, replay_length, replay_byte}
use Rattle.recovery.proofs.LiveByte.{RunningAt}
use Rattle.recovery.proofs.Records.{Recorded}
use Rattle.recovery.proofs.TailFit.{Fit}
use Rattle.recovery.proofs.CheckpointLaw.{Undoes}
use Rattle.recovery.proofs.Follows.{Follows}
use Rattle.recovery.proofs.GrowthLaw.{Recovers}
use Rattle.recovery.proofs.Numbers.{Numbers}
use Rattle.recovery.proofs.Room.{Roomy, Room}
use Rattle.recovery.proofs.Ledger.{Agrees}

-- Without bytes: ids, commit numbers, the image's transactions and the tail. `late` are the committing ones whose groups are in the tail.
pub record Standing (d : Disk) (l : Live) (late : List Tx) : Type 0 where
  -- ids are distinct, and at most the last given, in image, groups and list
  pub image_distinct : DistinctIds d.image.txs
  pub image_ids : All (λ t. t.id ≤ l.last_id) d.image.txs
  pub group_ids : All (λ g. group_id g ≤ l.last_id) (d.after ++ l.tail)
  pub live_distinct : DistinctIds l.txs
  pub live_ids : All (λ t. t.id ≤ l.last_id) l.txs
  -- the image's transactions are finished, on disk or still running
  pub follows : Follows d.image.txs d.image.csn (d.after ++ l.tail) (running l.txs)
  -- the number on disk is the log's last; the tail fits the list; no number is above the last assigned
  pub on_disk : l.csn ≡ last_csn d.image.csn d.after
  pub fit : Fit l.txs l.csn l.tail late
  pub csns : All (λ c. c.csn ≤ last_assigned l) (committing l.txs)

-- the byte a by the commits of these groups, the first of the history
unfoldable pub base_at : Opening → List Group → ℕ → ℕ
base_at o gs a = replay (lay_byte a) gs (get_or o.memory a 0)

-- the image recovers to the commits after it, at the byte a
abbrev pub ImageAt : Opening → Disk → ℕ → List Group → Type 0
ImageAt o d a P = Recovers a (base_at o d.before a) (get_or d.image.memory a 0) d.image.txs d.image.csn P

-- At the byte a: the image is right for the log and for every first part of the tail; each late commit can be undone; and the running
-- transactions hold it or not.
pub record AtByte (o : Opening) (d : Disk) (l : Live) (late : List Tx) (a : ℕ) : Type 0 where
  pub image : EveryPrefix (ImageAt o d a) (d.after ++ l.tail)
  pub undoes : Undoes a (replay (lay_byte a) d.after (base_at o d.before a)) l.tail late
  pub live : RunningAt a (replay (lay_byte a) (d.after ++ l.tail) (base_at o d.before a)) (get_or l.memory a 0) (running l.txs)

-- the memory by the commits of history and tail
abbrev pub base_memory : Opening → Disk → Live → List ℕ
base_memory o d l = replay lay_bytes (history_of d ++ l.tail) o.memory

pub base_length : (o : Opening) (d : Disk) (l : Live) → length (base_memory o d l) ≡ o.size
base_length o d l = replay_length o.size o.memory o.sized (history_of d ++ l.tail)

pub base_byte : (o : Opening) (d : Disk) (l : Live) (a : ℕ) → a < o.size
    → get_or (base_memory o d l) a 0 ≡ replay (lay_byte a) (d.after ++ l.tail) (base_at o d.before a)
unfolding base_at
base_byte o d l a h =
    replay_byte o.size o.memory o.sized a h (history_of d ++ l.tail)
    ∙ (ap (λ (gs : List Group). replay (lay_byte a) gs (get_or o.memory a 0)) (append_assoc d.before d.after l.tail)
    ∙ replay_append (lay_byte a) d.before (d.after ++ l.tail) (get_or o.memory a 0))

pub record Up (o : Opening) (d : Disk) (l : Live) (k : Ledger) : Type 0 where
  pub late : List Tx
  pub standing : Standing d l late
  pub image_length : length d.image.memory ≡ o.size
  pub live_length : length l.memory ≡ o.size
  pub bytes : (a : ℕ) → a < o.size → AtByte o d l late a
  pub records : All (Recorded o.size (base_memory o d l)) (running l.txs)
  pub room : Room o d l
  pub numbers : Numbers o d
  pub ledger : Agrees d l k
  pub opening : k.opening ≡ o.memory

-- of one that is listed
pub recorded : (o : Opening) (d : Disk) (l : Live) (k : Ledger) → Up o d l k → (r : Tx) → Listed r l.txs → r.committing ≡ false
    → Recorded o.size (base_memory o d l) r
recorded o d l k u r listed run =
    let f : Found r.id r l.txs = find r.id r l.txs listed in
    all_here (running f.before) r (running f.after) (rw (found_running r run f) at u.records)

-- What a restart needs. It says nothing of the ledger's open transactions and queue.
pub record Down (o : Opening) (d : Disk) (k : Ledger) : Type 0 where
  pub image_distinct : DistinctIds d.image.txs
  pub image_length : length d.image.memory ≡ o.size
  pub bytes : (a : ℕ) → a < o.size → EveryPrefix (ImageAt o d a) d.after
  pub fits : EveryPrefix (Roomy o d) d.after
  pub numbers : Numbers o d
  pub durable : k.durable ≡ commits (history_of d)
  pub assigned : (rest : List Commit) × (k.assigned ≡ commits (history_of d) ++ rest)
  pub settled : All (λ c. Memᴰ c k.durable) k.settled
  pub opening : k.opening ≡ o.memory

abbrev pub Inv : Opening → System → Ledger → Type 0
Inv o (down d) k = Down o d k
Inv o (up d l) k = Up o d l k

-- the current fails
pub crash : (o : Opening) (d : Disk) (l : Live) (k : Ledger) → Up o d l k → Down o d k
crash o d l k u = record {
  image_distinct = u.standing.image_distinct;
  image_length = u.image_length;
  bytes = λ a h. prefix_left (ImageAt o d a) d.after l.tail (u.bytes a h).image;
  fits = prefix_left (Roomy o d) d.after l.tail u.room.fits;
  numbers = u.numbers;
  durable = u.ledger.durable;
  assigned = (commits l.tail, u.ledger.assigned);
  settled = u.ledger.settled;
  opening = u.opening;
}

-- the ledger loses what is open and queued
pub down_emptied : (o : Opening) (d : Disk) (k : Ledger) → Down o d k → Down o d (emptied k)
down_emptied o d k w = record {
  image_distinct = w.image_distinct;
  image_length = w.image_length;
  bytes = w.bytes;
  fits = w.fits;
  numbers = w.numbers;
  durable = w.durable;
  assigned = w.assigned;
  settled = w.settled;
  opening = w.opening;
}
