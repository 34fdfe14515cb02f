-- Precommit and abort keep the invariant. Each adds one group at the tail's end, which ends the running transaction r: first what they have
-- in common, then each.
use mathlib.Core.Path.{◌≡◌, refl, sym, ap, ◌∙◌, subst}
use mathlib.Core.Logic.{◌≢◌}
use mathlib.Core.Bool.{Bool, false}
use mathlib.Core.Option.{none}
use mathlib.Core.List.{List, [], ◌∷◌, ◌++◌, map-append, reverse, reverse-append, append_assoc, append-nil}
use Prim.Native.Nat.{ℕ, suc, ◌+◌, ◌≤◌, ◌<◌}
use native.Mathlib.Omega.{arith}
use lib.ListN.{get_or}
use borrow.Author.Tests.{lt-ltb}
use Rattle.recovery.specs.Group.{Write, Group, committed, aborted, group_size, groups_size, csn_after, last_csn}
use Rattle.recovery.specs.Lists.{All, nil, cons}
use Rattle.recovery.specs.Transaction.{Tx, running, committing, reserved}
use Rattle.recovery.specs.Replay.{redo_all, replay, lay_bytes}
use Rattle.recovery.specs.Restart.{group_id, above, sort_desc}
use Rattle.recovery.specs.Ledger.{Ledger, OpenTx, Commit, Entry, open_writes, others, enter_precommitted, enter_rolled_back}
use Rattle.recovery.specs.Machine.{Opening, Disk, history_of, standing_before, standing_in, Live, Listed, last_assigned, in_commit, after_precommit, after_abort}
use Rattle.recovery.specs.Claim.{commits}
use Rattle.recovery.proofs.Lists.{all_map, all_zip, all_append, all_here, all_less, all_more, all_edit, all_filter, filter_in, filter_append}
use Rattle.recovery.proofs.Lists.{all_every, EveryPrefix, prefix_whole, prefix_snoc}
use Rattle.recovery.proofs.Distinct.{Distinct, distinct_more, distinct_others, distinct_less, distinct_edit}
use Rattle.recovery.proofs.Transactions.{Found, find, DistinctIds, found_running, found_apart, running_out, running_append, committing_in}
use Rattle.recovery.proofs.Transactions.{committing_out, committing_append, is_committing, is_above}
use Rattle.recovery.proofs.Sorting.{sort_top}
use Rattle.recovery.proofs.Groups.{groups_size_append, reserved_append, last_csn_append, replay_append}
use Rattle.recovery.proofs.Byte.{act, oldest, newest, redo_newest, lay_byte, undo_byte, undo_length}
use Rattle.recovery.proofs.LiveByte.{RunningAt, others_alone, Restores, precommit_byte, abort_byte}
use Rattle.recovery.proofs.Records.{olds_beside, Recorded}
use Rattle.recovery.proofs.TailFit.{Ungrouped, foreign_map, tied_grows, tied_one_commit, tied_one_abort}
use Rattle.recovery.proofs.CheckpointLaw.{undoes_one_commit, undoes_one_abort}
use Rattle.recovery.proofs.Follows.{Follows, follows_next}
use Rattle.recovery.proofs.GrowthLaw.{growth_commit, growth_abort}
use Rattle.recovery.proofs.Room.{Roomy, roomy_now}
use Rattle.recovery.proofs.Ledger.{entry_of, opens, HasLatest, commits_append, others_one, writes_one, latest_own, latest_other}
use Rattle.recovery.proofs.Invariant.{Standing, AtByte, Up, base_at, ImageAt, base_memory, base_length}

module _ (o : Opening) (d : Disk) (l : Live) (k : Ledger) (r : Tx) (listed : Listed r l.txs) (run : r.committing ≡ false) (u : Up o d l k) where
  found : Found r.id r l.txs
  found = find r.id r l.txs listed

  abbrev xs : List Tx
  xs = running found.before

  abbrev ys : List Tx
  ys = running found.after

  abbrev s : Standing d l u.late
  s = u.standing

  whole_distinct : DistinctIds (found.before ++ r ∷ found.after)
  whole_distinct = rw found.whole at s.live_distinct

  unlisted : All (λ t. t.id ≢ r.id) (found.before ++ found.after)
  unlisted = distinct_others found.before r found.after whole_distinct

  runnings : running l.txs ≡ xs ++ r ∷ ys
  runnings = found_running r run found

  committings : committing l.txs ≡ committing found.before ++ committing found.after
  committings = ap committing found.whole ∙ committing_out found.before r found.after run

  committings_apart : All (λ t. t.id ≢ r.id) (committing found.before ++ committing found.after)
  committings_apart = subst (λ (ts : List Tx). All (λ t. t.id ≢ r.id) ts) (committing_append found.before found.after)
      (all_filter is_committing unlisted)

  apart : All (λ t. t.id ≢ r.id) (xs ++ ys)
  apart = found_apart r run found s.live_distinct

  -- at a byte, before the group
  live_before : (a : ℕ) → AtByte o d l u.late a
      → RunningAt a (replay (lay_byte a) (d.after ++ l.tail) (base_at o d.before a)) (get_or l.memory a 0) (xs ++ r ∷ ys)
  live_before a b = rw runnings at b.live

  -- the image's transactions are followed through one more group
  abbrev FollowsTo : Group → Type 0
  FollowsTo g = Follows d.image.txs d.image.csn (d.after ++ (l.tail ++ (g ∷ []))) (xs ++ ys)

  module _ (g : Group) (of : group_id g ≡ r.id) where
    regroup : (d.after ++ l.tail) ++ (g ∷ []) ≡ d.after ++ (l.tail ++ (g ∷ []))
    regroup = append_assoc d.after l.tail (g ∷ [])

    end_ids : All (λ h. group_id h ≤ l.last_id) (d.after ++ (l.tail ++ (g ∷ [])))
    end_ids =
        let id : r.id ≤ l.last_id = all_here found.before r found.after (rw found.whole at s.live_ids) in
        subst (λ (gs : List Group). All (λ h. group_id h ≤ l.last_id) gs) regroup (all_append s.group_ids (cons {x = g} (rw of id) nil))

    frees : All (Ungrouped l.tail) (xs ++ r ∷ ys)
    frees = rw runnings at s.fit.free

    end_once : Distinct group_id (l.tail ++ (g ∷ []))
    end_once = distinct_more l.tail g [] (rw (append-nil, of) (all_here xs r ys frees)) (rw append-nil s.fit.once)

    end_free : All (Ungrouped (l.tail ++ (g ∷ []))) (xs ++ ys)
    end_free = all_map (λ t p. all_append p.1 (cons {x = g} (λ e. p.0 (sym e ∙ of)) nil)) (all_zip apart (all_less xs r ys frees))

    end_follows : last_csn d.image.csn (d.after ++ l.tail) ≤ csn_after (last_csn d.image.csn (d.after ++ l.tail)) g
        → FollowsTo g
    end_follows le =
        subst (λ (gs : List Group). Follows d.image.txs d.image.csn gs (xs ++ ys)) regroup
        (follows_next d.image.txs d.image.csn (d.after ++ l.tail) xs r ys (rw runnings at s.follows) apart g of le)

    -- the group takes no more than r had reserved
    module _ (small : group_size g ≤ reserved (r ∷ [])) where
      end_used : groups_size (standing_in d) + groups_size (l.tail ++ (g ∷ [])) + reserved (xs ++ ys) ≤ o.capacity
      end_used =
          omega (arith, u.room.used, groups_size_append l.tail (g ∷ []), reserved_append xs ys, ap reserved runnings ∙ reserved_append xs (r ∷ ys))

      end_fits : FollowsTo g → EveryPrefix (Roomy o d) (d.after ++ (l.tail ++ (g ∷ [])))
      end_fits w =
          let now : Roomy o d (d.after ++ (l.tail ++ (g ∷ []))) =
          roomy_now o d (d.after ++ (l.tail ++ (g ∷ []))) (xs ++ ys) s.image_distinct w
          (omega (arith, end_used, groups_size_append (standing_before d) d.after, groups_size_append d.after (l.tail ++ (g ∷ [])))) in
          subst (λ (gs : List Group). EveryPrefix (Roomy o d) gs) regroup
          (prefix_snoc (Roomy o d) (d.after ++ l.tail) g u.room.fits (subst (λ (gs : List Group). Roomy o d gs) (sym regroup) now))

    -- the image stays right if it is right with the group
    end_image : (a : ℕ) → AtByte o d l u.late a → ImageAt o d a ((d.after ++ l.tail) ++ (g ∷ []))
        → EveryPrefix (ImageAt o d a) (d.after ++ (l.tail ++ (g ∷ [])))
    end_image a b h = subst (λ (gs : List Group). EveryPrefix (ImageAt o d a) gs) regroup (prefix_snoc (ImageAt o d a) (d.after ++ l.tail) g b.image h)

  image_recovers : (a : ℕ) → AtByte o d l u.late a → ImageAt o d a (d.after ++ l.tail)
  image_recovers a b = prefix_whole (ImageAt o d a) (d.after ++ l.tail) b.image

  follows_before : Follows d.image.txs d.image.csn (d.after ++ l.tail) (xs ++ r ∷ ys)
  follows_before = rw runnings at s.follows

  -- the last number assigned
  assigned_now : last_csn d.image.csn (d.after ++ l.tail) ≡ last_assigned l
  assigned_now = last_csn_append d.image.csn d.after l.tail ∙ ap (λ (n : ℕ). last_csn n l.tail) (sym s.on_disk)

  -- the open transactions with r among them, and without it
  actives : k.active ≡ opens (xs ++ r ∷ ys)
  actives = u.ledger.active ∙ ap opens runnings

  actives_less : others r.id k.active ≡ opens (xs ++ ys)
  actives_less = ap (λ (ss : List OpenTx). others r.id ss) actives ∙ others_one r xs ys apart

  -- the commits leave what they left, with the writes of the group over it
  end_memory : (g : Group) → replay lay_bytes (history_of d ++ (l.tail ++ (g ∷ []))) o.memory ≡ replay lay_bytes (g ∷ []) (base_memory o d l)
  end_memory g =
      ap (λ (gs : List Group). replay lay_bytes gs o.memory) (sym (append_assoc (history_of d) l.tail (g ∷ [])))
      ∙ replay_append lay_bytes (history_of d ++ l.tail) (g ∷ []) o.memory

  others_recorded : All (Recorded o.size (base_memory o d l)) (xs ++ ys)
  others_recorded = all_less xs r ys (rw runnings at u.records)

  -- Abort.

  abbrev abort_group : Group
  abort_group = aborted r.id

  abort_runnings : running (after_abort r l).txs ≡ xs ++ ys
  abort_runnings = ap running found.removed ∙ running_append found.before found.after

  abort_committings : committing (after_abort r l).txs ≡ committing l.txs
  abort_committings = ap committing found.removed ∙ (committing_append found.before found.after ∙ sym committings)

  abort_follows : FollowsTo abort_group
  abort_follows = end_follows abort_group refl (omega arith)

  abort_commits : commits (l.tail ++ (abort_group ∷ [])) ≡ commits l.tail
  abort_commits = commits_append l.tail (abort_group ∷ []) ∙ append-nil (commits l.tail)

  abort_standing : Standing d (after_abort r l) u.late
  abort_standing = record {
    image_distinct = s.image_distinct;
    image_ids = s.image_ids;
    group_ids = end_ids abort_group refl;
    live_distinct = rw found.removed (distinct_less found.before r found.after whole_distinct);
    live_ids = rw found.removed (all_less found.before r found.after (rw found.whole at s.live_ids));
    follows = rw abort_runnings abort_follows;
    on_disk = s.on_disk;
    fit = record {
      sorted = rw abort_committings s.fit.sorted;
      tied = tied_one_abort r.id s.fit.tied;
      once = end_once abort_group refl;
      foreign = rw found.removed
          (all_append (all_map (foreign_map (λ i h. all_less found.before r found.after h)) (rw found.whole at s.fit.foreign))
          (cons {x = abort_group} unlisted nil));
      free = rw abort_runnings (end_free abort_group refl);
    };
    csns = rw (abort_committings, last_csn_append l.csn l.tail (abort_group ∷ [])) s.csns;
  }

  pub abort_keeps : Up o d (after_abort r l) (enter_rolled_back r.id k)
  abort_keeps = record {
    late = u.late;
    standing = abort_standing;
    image_length = u.image_length;
    live_length = undo_length o.size l.memory u.live_length r.undo;
    bytes = λ a h.
        let b : AtByte o d l u.late a = u.bytes a h in
        let x : ℕ = replay (lay_byte a) (d.after ++ l.tail) (base_at o d.before a) in
        record {
          image = end_image abort_group refl a b
              (growth_abort a (base_at o d.before a) (get_or d.image.memory a 0) d.image.txs d.image.csn (d.after ++ l.tail)
              (get_or l.memory a 0) xs r ys (image_recovers a b) follows_before apart s.image_distinct (live_before a b));
          undoes = undoes_one_abort r.id b.undoes;
          live = rw (
            ← regroup abort_group refl,
            replay_append (lay_byte a) (d.after ++ l.tail) (abort_group ∷ [])
                (base_at o d.before a),
            abort_runnings,
            undo_byte o.size l.memory u.live_length a h r.undo,
          )
              (abort_byte a x (get_or l.memory a 0) xs r ys (live_before a b));
        };
    records = rw (abort_runnings, end_memory abort_group) others_recorded;
    room = record {
      fits = end_fits abort_group refl (omega arith) abort_follows;
      used = rw abort_runnings (end_used abort_group refl (omega arith));
    };
    numbers = u.numbers;
    ledger = record {
      durable = u.ledger.durable;
      assigned = rw abort_commits u.ledger.assigned;
      queue = ap (λ (es : List Entry). es ++ (entry_of abort_group ∷ [])) u.ledger.queue ∙ sym (map-append entry_of l.tail (abort_group ∷ []));
      active = rw abort_runnings actives_less;
      settled = u.ledger.settled;
      latests = rw (abort_committings, abort_commits) u.ledger.latests;
    };
    opening = u.opening;
  }

  -- Precommit.

  abbrev new_csn : ℕ
  new_csn = suc (last_csn l.csn l.tail)

  abbrev r' : Tx
  r' = in_commit (suc (last_csn l.csn l.tail)) r

  abbrev commit_group : Group
  commit_group = committed r.id (suc (last_csn l.csn l.tail)) r.redo

  abbrev entry : Commit
  entry = record { id = r.id; csn = suc (last_csn l.csn l.tail); writes = r.redo }

  txs' : (after_precommit r l).txs ≡ found.before ++ r' ∷ found.after
  txs' = found.edited (in_commit new_csn)

  precommit_runnings : running (after_precommit r l).txs ≡ xs ++ ys
  precommit_runnings = ap running txs' ∙ running_out found.before r' found.after refl

  precommit_committings : committing (after_precommit r l).txs ≡ committing found.before ++ r' ∷ committing found.after
  precommit_committings = ap committing txs' ∙ committing_in found.before r' found.after refl

  precommit_follows : FollowsTo commit_group
  precommit_follows = end_follows commit_group refl (omega (arith, assigned_now))

  -- the new number is the highest
  precommit_sorted : sort_desc (above l.csn (committing (after_precommit r l).txs)) ≡ reverse (u.late ++ (r' ∷ []))
  precommit_sorted =
      let high : Tx → Bool = is_above l.csn in
      let cs : List Tx = committing found.before in
      let ds : List Tx = committing found.after in
      let low : All (λ t. t.csn < new_csn) (above l.csn cs ++ above l.csn ds) =
      subst (λ (ts : List Tx). All (λ t. t.csn < new_csn) ts) (filter_append high cs ds)
      (all_filter high (all_map (λ t h. omega arith) (rw committings at s.csns))) in
      let grown : l.csn ≤ last_assigned l = tied_grows s.fit.tied in
      let old : above l.csn cs ++ above l.csn ds ≡ above l.csn (committing l.txs) =
      sym (filter_append high cs ds) ∙ ap (λ (ts : List Tx). above l.csn ts) (sym committings) in
      ap (λ (ts : List Tx). sort_desc (above l.csn ts)) precommit_committings
      ∙ (ap sort_desc (filter_in high cs r' ds (lt-ltb l.csn new_csn (omega arith)))
      ∙ (sort_top r' (above l.csn cs) (above l.csn ds) low
      ∙ (ap (λ (ts : List Tx). r' ∷ ts) (ap sort_desc old ∙ s.fit.sorted) ∙ sym (reverse-append u.late (r' ∷ [])))))

  precommit_standing : Standing d (after_precommit r l) (u.late ++ (r' ∷ []))
  precommit_standing = record {
    image_distinct = s.image_distinct;
    image_ids = s.image_ids;
    group_ids = end_ids commit_group refl;
    live_distinct = rw txs' (distinct_edit found.before r r' found.after refl whole_distinct);
    live_ids = rw txs' (all_edit found.before r r' found.after (λ h. h) (rw found.whole at s.live_ids));
    follows = rw precommit_runnings precommit_follows;
    on_disk = s.on_disk;
    fit = record {
      sorted = precommit_sorted;
      tied = tied_one_commit r.id new_csn r.redo r' s.fit.tied refl refl refl;
      once = end_once commit_group refl;
      foreign = rw txs'
          (all_append (all_map (foreign_map (λ i h. all_edit found.before r r' found.after (λ m. m) h)) (rw found.whole at s.fit.foreign))
          (cons {x = commit_group} tt nil));
      free = rw precommit_runnings (end_free commit_group refl);
    };
    csns = rw (precommit_committings, last_csn_append l.csn l.tail (commit_group ∷ []))
        (all_more (committing found.before) r' (committing found.after) (omega arith) (all_map (λ t h. omega arith) (rw committings at s.csns)));
  }

  precommit_entry : record { id = r.id; csn = new_csn; writes = open_writes r.id k.active } ≡ entry
  precommit_entry = ap (λ (ws : List Write). record { id = r.id; csn = new_csn; writes = ws })
      (ap (λ (ss : List OpenTx). open_writes r.id ss) actives ∙ writes_one r xs ys apart)

  -- so_far commits assigned so far, and the new one
  abbrev so_far : List Commit
  so_far = commits (history_of d) ++ commits l.tail

  precommit_commits : commits (history_of d) ++ commits (l.tail ++ (commit_group ∷ [])) ≡ so_far ++ (entry ∷ [])
  precommit_commits =
      ap (λ (cs : List Commit). commits (history_of d) ++ cs) (commits_append l.tail (commit_group ∷ []))
      ∙ sym (append_assoc (commits (history_of d)) (commits l.tail) (entry ∷ []))

  precommit_latests : All (HasLatest (so_far ++ (entry ∷ []))) (committing found.before ++ r' ∷ committing found.after)
  precommit_latests =
      all_more (committing found.before) r' (committing found.after) (entry, latest_own so_far entry, refl)
      (all_map (λ t p. (p.1.0, latest_other t.id so_far entry (λ e. p.0 (sym e)) ∙ p.1.1, p.1.2))
      (all_zip committings_apart (rw committings at u.ledger.latests)))

  -- the bytes that others wrote are none that r wrote
  others_beside : All (λ t. (a : ℕ) → a < o.size → newest a t.redo ≢ none → newest a r.redo ≡ none) (xs ++ ys)
  others_beside = all_every (xs ++ ys)
      (λ a h.
      let b : AtByte o d l u.late a = u.bytes a h in
      others_alone a (replay (lay_byte a) (d.after ++ l.tail) (base_at o d.before a)) (get_or l.memory a 0) xs r ys (live_before a b))

  precommit_records : All (Recorded o.size (redo_all lay_bytes r.redo (base_memory o d l))) (xs ++ ys)
  precommit_records =
      all_map
      (λ t p. record {
        olds = p.0.olds ∙ olds_beside o.size t.redo r.redo (base_memory o d l) (base_length o d l) p.0.within p.1;
        within = p.0.within;
      }) (all_zip others_recorded others_beside)

  pub precommit_keeps : Up o d (after_precommit r l) (enter_precommitted r.id (suc (last_assigned l)) k)
  precommit_keeps = record {
    late = u.late ++ (r' ∷ []);
    standing = precommit_standing;
    image_length = u.image_length;
    live_length = u.live_length;
    bytes = λ a h.
        let b : AtByte o d l u.late a = u.bytes a h in
        let base : ℕ = base_at o d.before a in
        let x : ℕ = replay (lay_byte a) (d.after ++ l.tail) (base_at o d.before a) in
        let after : RunningAt a (act (newest a r.redo) x) (get_or l.memory a 0) (xs ++ ys) × Restores x (oldest a r.undo) (newest a r.redo) =
        precommit_byte a x (get_or l.memory a 0) xs r ys (live_before a b) in
        record {
          image = end_image commit_group refl a b
              (growth_commit a base (get_or d.image.memory a 0) d.image.txs d.image.csn (d.after ++ l.tail) (get_or l.memory a 0) xs r ys
              (image_recovers a b) follows_before apart s.image_distinct (live_before a b) new_csn
              (omega (arith, assigned_now)));
          undoes = undoes_one_commit r.id new_csn r.redo r' b.undoes
              (subst (λ (v : ℕ). Restores v (oldest a r.undo) (newest a r.redo)) (replay_append (lay_byte a) d.after l.tail base) after.1);
          live = rw (
            ← regroup commit_group refl,
            replay_append (lay_byte a) (d.after ++ l.tail) (commit_group ∷ []) base,
            redo_newest a
                r.redo x,
            precommit_runnings,
          ) after.0;
        };
    records = rw (precommit_runnings, end_memory commit_group) precommit_records;
    room = record {
      fits = end_fits commit_group refl (omega arith) precommit_follows;
      used = rw precommit_runnings (end_used commit_group refl (omega arith));
    };
    numbers = u.numbers;
    ledger = record {
      durable = u.ledger.durable;
      assigned = rw (precommit_entry, precommit_commits) (ap (λ (cs : List Commit). cs ++ (entry ∷ [])) u.ledger.assigned);
      queue = rw precommit_entry (ap (λ (es : List Entry). es ++ (entry_of commit_group ∷ [])) u.ledger.queue
          ∙ sym (map-append entry_of l.tail (commit_group ∷ [])));
      active = rw precommit_runnings actives_less;
      settled = u.ledger.settled;
      latests = rw (precommit_committings, precommit_commits) precommit_latests;
    };
    opening = u.opening;
  }
