-- A step that changes one running transaction, and memory perhaps, keeps the invariant: what every such step has in common, and what is left to show
-- of each.
use mathlib.Core.Path.{◌≡◌, sym, ap, ◌∙◌, subst}
use mathlib.Core.Logic.{◌≢◌}
use mathlib.Core.Bool.{false}
use mathlib.Core.List.{List, [], ◌∷◌, ◌++◌, map}
use Prim.Native.Nat.{ℕ, ◌+◌, ◌≤◌, ◌<◌}
use native.Mathlib.Omega.{arith}
use lib.ListN.{length, get_or}
use Rattle.recovery.specs.Group.{redo_size}
use Rattle.recovery.specs.Lists.{All}
use Rattle.recovery.specs.Transaction.{Tx, running, committing, edit, reserved}
use Rattle.recovery.specs.Replay.{replay}
use Rattle.recovery.specs.Ledger.{Ledger, OpenTx, of_id, with_active}
use Rattle.recovery.specs.Machine.{Opening, Disk, Live, Listed, room_used}
use Rattle.recovery.proofs.Lists.{all_map, all_here, all_edit}
use Rattle.recovery.proofs.Distinct.{distinct_edit}
use Rattle.recovery.proofs.Transactions.{DistinctIds, Found, lookup_own, running_in_lem, committing_out, found_running, found_apart}
use Rattle.recovery.proofs.Groups.{reserved_append}
use Rattle.recovery.proofs.Byte.{lay_byte}
use Rattle.recovery.proofs.LiveByte.{RunningAt}
use Rattle.recovery.proofs.Records.{Recorded}
use Rattle.recovery.proofs.TailFit.{foreign_map}
use Rattle.recovery.proofs.Follows.{Over, Linked, here, there}
use Rattle.recovery.proofs.Ledger.{open_of, opens, edit_one}
use Rattle.recovery.proofs.Invariant.{Standing, AtByte, Up, base_at, base_memory}

linked_edit : {t : Tx} (xs : List Tx) (r r' : Tx) (ys : List Tx) → r'.id ≡ r.id → (Over t r → Over t r') → Linked t (xs ++ r ∷ ys) → Linked t (xs ++ r' ∷ ys)
linked_edit [] r r' ys e f (here p o) = here (p ∙ sym e) (f o)
linked_edit [] r r' ys e f (there l) = there l
linked_edit (x ∷ xs) r r' ys e f (here p o) = here p o
linked_edit (x ∷ xs) r r' ys e f (there l) = there (linked_edit xs r r' ys e f l)

-- r becomes h r, and its open transaction in the ledger g of it; memory becomes m'
module _ (o : Opening) (d : Disk) (l : Live) (k : Ledger) (r : Tx) (f : Found r.id r l.txs) (run : r.committing ≡ false) (u : Up o d l k)
    (h : Tx → Tx) (m' : List ℕ) (g : OpenTx → OpenTx) (same : (h r).id ≡ r.id) (still : (h r).committing ≡ false) (opened : g (open_of r) ≡ open_of (h r)) where
  abbrev l' : Live
  l' = record { txs = edit r.id h l.txs; memory = m'; tail = l.tail; csn = l.csn; last_id = l.last_id }

  abbrev xs : List Tx
  xs = running f.before

  abbrev ys : List Tx
  ys = running f.after

  txs' : l'.txs ≡ f.before ++ h r ∷ f.after
  txs' = f.edited h

  runnings : running l.txs ≡ xs ++ r ∷ ys
  runnings = found_running r run f

  runnings' : running l'.txs ≡ xs ++ h r ∷ ys
  runnings' = ap running txs' ∙ running_in_lem f.before (h r) f.after still

  committings : committing l'.txs ≡ committing l.txs
  committings = ap committing txs'
      ∙ (committing_out f.before (h r) f.after still ∙ sym (ap committing f.whole ∙ committing_out f.before r f.after run))

  abbrev s : Standing d l u.late
  s = u.standing

  apart : All (λ t. t.id ≢ r.id) (xs ++ ys)
  apart = found_apart r run f s.live_distinct

  distinct' : DistinctIds (f.before ++ h r ∷ f.after)
  distinct' = distinct_edit f.before r (h r) f.after same (rw f.whole at s.live_distinct)

  -- it is listed as before
  pub edited_listed : Listed (h r) l'.txs
  edited_listed = subst (Listed (h r)) (sym txs') (all_here f.before (h r) f.after (lookup_own distinct'))

  -- room changes by its redo records
  pub edited_room : room_used d l' + redo_size r.redo ≡ room_used d l + redo_size (h r).redo
  edited_room =
      omega (arith, ap reserved runnings ∙ reserved_append xs (r ∷ ys), ap reserved runnings' ∙ reserved_append xs (h r ∷ ys))

  module _ (over : (t : Tx) → Over t r → Over t (h r)) where
    edited_standing : Standing d l' u.late
    edited_standing = record {
      image_distinct = s.image_distinct;
      image_ids = s.image_ids;
      group_ids = s.group_ids;
      live_distinct = rw txs' distinct';
      live_ids = rw txs' (all_edit f.before r (h r) f.after (λ n. rw same n) (rw f.whole at s.live_ids));
      follows = record {
        committings = s.follows.committings;
        runnings = rw runnings' (all_map (λ t n. linked_edit xs r (h r) ys same (over t) n) (rw runnings at s.follows.runnings));
        lives = rw runnings' (all_edit xs r (h r) ys (λ n. rw same n) (rw runnings at s.follows.lives));
      };
      on_disk = s.on_disk;
      fit = record {
        sorted = rw committings s.fit.sorted;
        tied = s.fit.tied;
        once = s.fit.once;
        foreign = rw txs' (all_map (foreign_map (λ i n. all_edit f.before r (h r) f.after (λ p. rw same p) n)) (rw f.whole at s.fit.foreign));
        free = rw runnings' (all_edit xs r (h r) ys (λ n. rw same n) (rw runnings at s.fit.free));
      };
      csns = rw committings s.csns;
    }

    -- what is left to show: memory, the running transactions at each byte, room, and the records of the changed one
    pub edited_keeps : length m' ≡ o.size
        → ((a : ℕ) → a < o.size → RunningAt a (replay (lay_byte a) (d.after ++ l.tail) (base_at o d.before a)) (get_or m' a 0) (xs ++ h r ∷ ys))
        → room_used d l' ≤ o.capacity → Recorded o.size (base_memory o d l) (h r) → Up o d l' (with_active (map (of_id r.id g) k.active) k)
    edited_keeps long live used recorded = record {
      late = u.late;
      standing = edited_standing;
      image_length = u.image_length;
      live_length = long;
      bytes = λ a n. let b : AtByte o d l u.late a = u.bytes a n in record { image = b.image; undoes = b.undoes; live = rw runnings' (live a n) };
      records = rw runnings' (all_edit xs r (h r) ys (λ _. recorded) (rw runnings at u.records));
      room = record { fits = u.room.fits; used = used };
      numbers = u.numbers;
      ledger = record {
        durable = u.ledger.durable;
        assigned = u.ledger.assigned;
        queue = u.ledger.queue;
        active = ap (λ (ss : List OpenTx). map (of_id r.id g) ss) (u.ledger.active ∙ ap opens runnings)
            ∙ (edit_one r g (h r) xs ys apart opened ∙ ap opens (sym runnings'));
        settled = u.ledger.settled;
        latests = rw committings u.ledger.latests;
      };
      opening = u.opening;
    }
