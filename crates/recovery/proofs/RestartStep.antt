-- Restart, from what the disk has, makes the invariant hold: by the abort law its own abort records change nothing.
use mathlib.Core.Path.{◌≡◌, refl, sym, ap, ◌∙◌, subst}
use mathlib.Core.Bool.{not}
use mathlib.Core.List.{List, [], ◌∷◌, ◌++◌, append-nil}
use Prim.Native.Nat.{ℕ, ◌<◌, ◌≤◌}
use native.Mathlib.Omega.{arith}
use lib.ListN.{length, get_or, take, drop, take-append-drop, length-append}
use Rattle.recovery.specs.Group.{Group, aborted, last_csn}
use Rattle.recovery.specs.Lists.{All, nil}
use Rattle.recovery.specs.Transaction.{Tx, running}
use Rattle.recovery.specs.Replay.{replay}
use Rattle.recovery.specs.Restart.{group_id, finished, unfinished, undone, aborts}
use Rattle.recovery.specs.Ledger.{Commit, Ledger, enter_restarted}
use Rattle.recovery.specs.Machine.{Opening, Disk, history_of, standing_before, Live, undone_by, after_restart}
use Rattle.recovery.specs.Claim.{commits}
use Rattle.recovery.proofs.Lists.{all_mapped, all_map, all_append, all_filter, filter_none, EveryPrefix, prefix_whole, prefix_append, take_map}
use Rattle.recovery.proofs.Distinct.{Distinct, empty, more, distinct_filter}
use Rattle.recovery.proofs.Transactions.{DistinctIds, is_unfinished}
use Rattle.recovery.proofs.Groups.{groups_size_append, groups_size_aborts, last_csn_append, last_csn_aborts, replay_append, replay_aborts}
use Rattle.recovery.proofs.AbortLaw.{order_all, order_distinct, undone_after, abort_law, running_finished, committing_finished}
use Rattle.recovery.proofs.Byte.{lay_byte, recover_byte, recover_length}
use Rattle.recovery.proofs.LiveByte.{nobody}
use Rattle.recovery.proofs.TailFit.{Tied, tied_nil, tied_abort}
use Rattle.recovery.proofs.CheckpointLaw.{Undoes, undoes_nil, undoes_abort}
use Rattle.recovery.proofs.Room.{Roomy}
use Rattle.recovery.proofs.Ledger.{commits_aborts, entries_aborts}
use Rattle.recovery.proofs.Invariant.{Standing, AtByte, Up, Down, ImageAt, base_at}

-- a tail of aborts

abbrev abort_of : Tx → Group
abort_of t = aborted t.id

tied_aborts : (n : ℕ) (us : List Tx) → Tied n (aborts us) []
tied_aborts n [] = tied_nil
tied_aborts n (u ∷ us) = tied_abort (tied_aborts n us)

undoes_aborts : (a x : ℕ) (us : List Tx) → Undoes a x (aborts us) []
undoes_aborts a x [] = undoes_nil
undoes_aborts a x (u ∷ us) = undoes_abort (undoes_aborts a x us)

pub distinct_aborts : {us : List Tx} → DistinctIds us → Distinct group_id (aborts us)
distinct_aborts empty = empty
distinct_aborts (more h d) = more (all_mapped abort_of h) (distinct_aborts d)

module _ (o : Opening) (d : Disk) (k : Ledger) (last_id : ℕ) (image-ids : All (λ t. t.id ≤ last_id) d.image.txs)
    (group-ids : All (λ g. group_id g ≤ last_id) d.after) (w : Down o d k) where
  abbrev txs : List Tx
  txs = d.image.txs

  abbrev csn : ℕ
  csn = d.image.csn

  abbrev us : List Tx
  us = undone_by d

  abbrev l : Live
  l = after_restart d last_id

  -- the first q of its abort records
  first_aborts : (q : ℕ) → take q (aborts us) ≡ aborts (take q us)
  first_aborts q = take_map abort_of q us

  split : (q : ℕ) → undone txs csn d.after ≡ take q us ++ drop q us
  split q = sym (take-append-drop q us)

  none_left : unfinished (finished (d.after ++ aborts us) []) (running txs) ≡ []
  none_left = filter_none (is_unfinished (finished (d.after ++ aborts us) [])) (all_map (λ t h. ap not h) (running_finished txs csn d.after))

  restart_standing : Standing d l []
  restart_standing =
      let undone_ids_lem : All (λ t. t.id ≤ last_id) us = all_filter (is_unfinished (finished d.after [])) (order_all txs (last_csn csn d.after) image-ids) in
      let undone_distinct : DistinctIds us =
      distinct_filter (is_unfinished (finished d.after [])) (order_distinct txs (last_csn csn d.after) w.image_distinct) in
      record {
        image_distinct = w.image_distinct;
        image_ids = image-ids;
        group_ids = all_append group-ids (all_mapped abort_of undone_ids_lem);
        live_distinct = empty;
        live_ids = nil;
        follows = record {
          committings = rw (last_csn_append csn d.after (aborts us), last_csn_aborts (last_csn csn d.after) us) (committing_finished txs csn d.after);
          runnings = rw none_left nil;
          lives = nil;
        };
        on_disk = refl;
        fit = record {
          sorted = refl;
          tied = tied_aborts (last_csn csn d.after) us;
          once = distinct_aborts undone_distinct;
          foreign = all_mapped abort_of (all_map (λ t h. nil) undone_ids_lem);
          free = nil;
        };
        csns = nil;
      }

  same_replay : (a : ℕ) (vs : List Tx) (base : ℕ) → replay (lay_byte a) (d.after ++ aborts vs) base ≡ replay (lay_byte a) d.after base
  same_replay a vs base = replay_append (lay_byte a) d.after (aborts vs) base ∙ replay_aborts (lay_byte a) vs (replay (lay_byte a) d.after base)

  restart_byte : (a : ℕ) → length d.image.memory ≡ o.size → a < o.size → EveryPrefix (ImageAt o d a) d.after → AtByte o d l [] a
  restart_byte a len h good =
      let base : ℕ = base_at o d.before a in
      let m : ℕ = get_or d.image.memory a 0 in
      let whole : ImageAt o d a d.after = prefix_whole (ImageAt o d a) d.after good in
      record {
        image = prefix_append (ImageAt o d a) d.after (aborts us) good
            (λ q. subst (λ (gs : List Group). ImageAt o d a (d.after ++ gs)) (sym (first_aborts q))
            (abort_law (lay_byte a) txs csn d.after (take q us) (drop q us) m w.image_distinct (split q) ∙ (whole ∙ sym (same_replay a (take q us) base))));
        undoes = undoes_aborts a (replay (lay_byte a) d.after base) us;
        live = nobody (recover_byte o.size d.image.memory len a h txs csn d.after ∙ (whole ∙ sym (same_replay a us base)));
      }

  restart_fits : EveryPrefix (Roomy o d) (d.after ++ aborts us)
  restart_fits =
      prefix_append (Roomy o d) d.after (aborts us) w.fits
      (λ q. subst (λ (gs : List Group). Roomy o d (d.after ++ gs)) (sym (first_aborts q))
      (rw (
        undone_after txs csn d.after (take q us) (drop q us) w.image_distinct (split q),
        groups_size_append d.after
            (aborts (take q us)),
        groups_size_aborts (take q us),
      )
      (omega (arith, prefix_whole (Roomy o d) d.after w.fits, ap length (split q) ∙ length-append (take q us) (drop q us)))))

  pub restart_keeps : Up o d (after_restart d last_id) (enter_restarted (length (undone_by d)) k)
  restart_keeps = record {
    late = [];
    standing = restart_standing;
    image_length = w.image_length;
    live_length = recover_length o.size d.image.memory w.image_length txs csn d.after;
    bytes = λ a h. restart_byte a w.image_length h (w.bytes a h);
    records = nil;
    room = record {
      fits = restart_fits;
      used = rw (groups_size_append (standing_before d) d.after, groups_size_aborts us) (omega (arith, prefix_whole (Roomy o d) d.after w.fits));
    };
    numbers = w.numbers;
    ledger = record {
      durable = w.durable;
      assigned = w.durable ∙ sym (ap (λ (cs : List Commit). commits (history_of d) ++ cs) (commits_aborts us)
          ∙ append-nil (commits (history_of d)));
      queue = entries_aborts us;
      active = refl;
      settled = w.settled;
      latests = nil;
    };
    opening = w.opening;
  }
