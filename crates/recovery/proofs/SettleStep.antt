-- Settle keeps the invariant: the transaction's commit is found in the ledger, among the durable ones, and restart would not undo it.
use mathlib.Core.Path.{◌≡◌, sym, ap, ◌∙◌}
use mathlib.Core.Bool.{true}
use mathlib.Core.List.{List, ◌∷◌, ◌++◌}
use Prim.Native.Nat.{◌≤◌}
use borrow.Author.Tests.{le-ltb}
use Rattle.recovery.specs.Lists.{nil, cons}
use Rattle.recovery.specs.Transaction.{Tx, running, committing}
use Rattle.recovery.specs.Restart.{above, sort_desc}
use Rattle.recovery.specs.Ledger.{Ledger, committed_in, enter_settled}
use Rattle.recovery.specs.Machine.{Opening, Disk, history_of, Live, Listed, after_settle}
use Rattle.recovery.specs.Claim.{commits}
use Rattle.recovery.proofs.Lists.{all_map, all_append, all_here, all_less, filter_out, filter_append}
use Rattle.recovery.proofs.Distinct.{distinct_less}
use Rattle.recovery.proofs.Transactions.{Found, find, running_out, running_append, committing_in, committing_append, is_above}
use Rattle.recovery.proofs.TailFit.{foreign_map}
use Rattle.recovery.proofs.Numbers.{consecutive_tied, consecutive_high}
use Rattle.recovery.proofs.Ledger.{Settles, settles, commits_entries}
use Rattle.recovery.proofs.Invariant.{Standing, AtByte, Up}

module _ (o : Opening) (d : Disk) (l : Live) (k : Ledger) (r : Tx) (listed : Listed r l.txs) (committed : r.committing ≡ true)
    (on_disk_lem : r.csn ≤ l.csn) (u : Up o d l k) where
  found : Found r.id r l.txs
  found = find r.id r l.txs listed

  abbrev s : Standing d l u.late
  s = u.standing

  runnings : running (after_settle r l).txs ≡ running l.txs
  runnings = ap running found.removed
      ∙ (running_append found.before found.after ∙ sym (ap running found.whole ∙ running_out found.before r found.after committed))

  abbrev cs : List Tx
  cs = committing found.before

  abbrev ds : List Tx
  ds = committing found.after

  committings : committing l.txs ≡ cs ++ r ∷ ds
  committings = ap committing found.whole ∙ committing_in found.before r found.after committed

  committings' : committing (after_settle r l).txs ≡ cs ++ ds
  committings' = ap committing found.removed ∙ committing_append found.before found.after

  -- its number is not above the one on disk
  aboves : above l.csn (committing (after_settle r l).txs) ≡ above l.csn (committing l.txs)
  aboves =
      ap (λ (ts : List Tx). above l.csn ts) committings'
      ∙ (filter_append (is_above l.csn) cs ds
      ∙ sym (ap (λ (ts : List Tx). above l.csn ts) committings ∙ filter_out (is_above l.csn) cs r ds (le-ltb l.csn r.csn on_disk_lem)))

  settle_standing : Standing d (after_settle r l) u.late
  settle_standing = record {
    image_distinct = s.image_distinct;
    image_ids = s.image_ids;
    group_ids = s.group_ids;
    live_distinct = rw found.removed (distinct_less found.before r found.after (rw found.whole at s.live_distinct));
    live_ids = rw found.removed (all_less found.before r found.after (rw found.whole at s.live_ids));
    follows = rw runnings s.follows;
    on_disk = s.on_disk;
    fit = record {
      sorted = ap sort_desc aboves ∙ s.fit.sorted;
      tied = s.fit.tied;
      once = s.fit.once;
      foreign = rw found.removed (all_map (foreign_map (λ i h. all_less found.before r found.after h)) (rw found.whole at s.fit.foreign));
      free = rw runnings s.fit.free;
    };
    csns = rw committings' (all_less cs r ds (rw committings at s.csns));
  }

  -- settle's transaction is found in the ledger
  pub settle_finds : Settles r k.durable (committed_in k.queue)
  settle_finds =
      let queued : committed_in k.queue ≡ commits l.tail = ap committed_in u.ledger.queue ∙ commits_entries l.tail in
      rw (u.ledger.durable, queued)
      (settles l.csn r (commits (history_of d)) (commits l.tail) (all_here cs r ds (rw committings at u.ledger.latests)) on_disk_lem
      (consecutive_high (consecutive_tied s.fit.tied)))

  pub settle_keeps : Up o d (after_settle r l) (enter_settled r.id k)
  settle_keeps =
      let f : Settles r k.durable (committed_in k.queue) = settle_finds in
      record {
        late = u.late;
        standing = settle_standing;
        image_length = u.image_length;
        live_length = u.live_length;
        bytes = λ a h.
            let b : AtByte o d l u.late a = u.bytes a h in
            record { image = b.image; undoes = b.undoes; live = rw runnings b.live };
        records = rw runnings u.records;
        room = record { fits = u.room.fits; used = rw runnings u.room.used };
        numbers = u.numbers;
        ledger = record {
          durable = u.ledger.durable;
          assigned = u.ledger.assigned;
          queue = u.ledger.queue;
          active = rw runnings u.ledger.active;
          settled = all_append u.ledger.settled (rw f.1 (cons {x = f.0} f.4 nil));
          latests = rw committings' (all_less cs r ds (rw committings at u.ledger.latests));
        };
        opening = u.opening;
      }
