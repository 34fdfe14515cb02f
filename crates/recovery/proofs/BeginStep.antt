-- Begin keeps the invariant: the new id is above all that image, groups and list have, and the new transaction holds nothing.
use mathlib.Core.Path.{◌≡◌, refl, sym, ap, ◌∙◌}
use mathlib.Core.Logic.{◌≢◌}
use mathlib.Core.List.{List, [], ◌∷◌, ◌++◌, map-append, append-nil}
use Prim.Native.Nat.{ℕ, suc, ◌+◌, ◌≤◌}
use native.Mathlib.Omega.{arith}
use lib.ListN.{get_or}
use Rattle.recovery.specs.Group.{Group, committed, aborted}
use Rattle.recovery.specs.Lists.{All, nil, cons}
use Rattle.recovery.specs.Transaction.{Tx, running, committing}
use Rattle.recovery.specs.Replay.{replay}
use Rattle.recovery.specs.Restart.{group_id}
use Rattle.recovery.specs.Ledger.{Ledger, OpenTx, enter_begun}
use Rattle.recovery.specs.Machine.{Opening, Disk, Live, room_used, new_tx, after_begin}
use Rattle.recovery.proofs.Lists.{all_map, all_zip, all_append, all_right, all_filter}
use Rattle.recovery.proofs.Distinct.{distinct_more}
use Rattle.recovery.proofs.Transactions.{running_append, committing_append, is_committing}
use Rattle.recovery.proofs.Groups.{reserved_append}
use Rattle.recovery.proofs.Finished.{unmarked}
use Rattle.recovery.proofs.Byte.{lay_byte}
use Rattle.recovery.proofs.LiveByte.{put_off}
use Rattle.recovery.proofs.TailFit.{Foreign}
use Rattle.recovery.proofs.Follows.{Linked, here, there}
use Rattle.recovery.proofs.Ledger.{open_of}
use Rattle.recovery.proofs.Invariant.{Standing, AtByte, Up, base_at}

linked_append : {t : Tx} {rs : List Tx} (ss : List Tx) → Linked t rs → Linked t (rs ++ ss)
linked_append ss (here e o) = here e o
linked_append ss (there l) = there (linked_append ss l)

-- the next id is new
new_tx_lem : {n : ℕ} {txs : List Tx} → All (λ t. t.id ≤ n) txs → All (λ t. t.id ≢ suc n) txs
new_tx_lem h = all_map (λ t le e. omega arith) h

new_group : {n : ℕ} {gs : List Group} → All (λ g. group_id g ≤ n) gs → All (λ g. group_id g ≢ suc n) gs
new_group h = all_map (λ g le e. omega arith) h

module _ (d : Disk) (l : Live) where
  abbrev new : Tx
  new = new_tx (suc l.last_id)

  runnings : running (after_begin l).txs ≡ running l.txs ++ (new ∷ [])
  runnings = running_append l.txs (new ∷ [])

  committings : committing (after_begin l).txs ≡ committing l.txs
  committings = committing_append l.txs (new ∷ []) ∙ append-nil (committing l.txs)

  begin_standing : {late : List Tx} → Standing d l late → Standing d (after_begin l) late
  begin_standing s =
      let tail-ids : All (λ g. group_id g ≤ l.last_id) l.tail = all_right d.after s.group_ids in
      record {
        image_distinct = s.image_distinct;
        image_ids = all_map (λ t h. omega arith) s.image_ids;
        group_ids = all_map (λ g h. omega arith) s.group_ids;
        live_distinct = distinct_more l.txs new [] (rw append-nil (new_tx_lem s.live_ids)) (rw append-nil s.live_distinct);
        live_ids = all_append (all_map (λ t h. omega arith) s.live_ids) (cons {x = new} (omega arith) nil);
        follows = record {
          committings = s.follows.committings;
          runnings = rw runnings (all_map (λ t h. linked_append (new ∷ []) h) s.follows.runnings);
          lives = rw runnings (all_append s.follows.lives
              (cons {x = new} (unmarked [] (new_group s.group_ids) refl, all_filter is_committing (new_tx_lem s.image_ids)) nil));
        };
        on_disk = s.on_disk;
        fit = record {
          sorted = rw committings s.fit.sorted;
          tied = s.fit.tied;
          once = s.fit.once;
          foreign = all_map (λ g p. foreign g p.0 p.1) (all_zip tail-ids s.fit.foreign);
          free = rw runnings (all_append s.fit.free (cons {x = new} (new_group tail-ids) nil));
        };
        csns = rw committings s.csns;
      }
    where
      foreign : (g : Group) → group_id g ≤ l.last_id → Foreign l.txs g → Foreign (l.txs ++ (new ∷ [])) g
      foreign (committed i n ws) le h = tt
      foreign (aborted i) le h = all_append h (cons {x = new} (λ e. omega arith) nil)

pub begin_keeps : (o : Opening) (d : Disk) (l : Live) (k : Ledger) → room_used d l + 8 ≤ o.capacity → Up o d l k
    → Up o d (after_begin l) (enter_begun (suc l.last_id) k)
begin_keeps o d l k fits u = record {
  late = u.late;
  standing = begin_standing d l u.standing;
  image_length = u.image_length;
  live_length = u.live_length;
  bytes = λ a h.
      let b : AtByte o d l u.late a = u.bytes a h in
      record {
        image = b.image;
        undoes = b.undoes;
        live = rw (runnings d l)
            (put_off a (replay (lay_byte a) (d.after ++ l.tail) (base_at o d.before a)) (get_or l.memory a 0) (running l.txs) (new d l) []
            (refl, refl) (rw append-nil b.live));
      };
  records = rw (runnings d l) (all_append u.records (cons {x = new d l} (record { olds = refl; within = nil }) nil));
  room = record { fits = u.room.fits; used = rw (runnings d l, reserved_append (running l.txs) (new d l ∷ [])) (omega arith) };
  numbers = u.numbers;
  ledger = record {
    durable = u.ledger.durable;
    assigned = u.ledger.assigned;
    queue = u.ledger.queue;
    active = ap (λ (ss : List OpenTx). ss ++ (open_of (new d l) ∷ [])) u.ledger.active
        ∙ rw (runnings d l) (sym (map-append open_of (running l.txs) (new d l ∷ [])));
    settled = u.ledger.settled;
    latests = rw (committings d l) u.ledger.latests;
  };
  opening = u.opening;
}
