-- Flush, done or cut, keeps the invariant: the groups stored go from the tail to the log, and the image was right for every first part of
-- the tail.
use mathlib.Core.Path.{◌≡◌, sym, ap, ◌∙◌, subst}
use mathlib.Core.List.Memᴰ
use mathlib.Core.List.{List, ◌++◌, map-append, append_assoc}
use Prim.Native.Nat.{ℕ, ◌≤◌}
use native.Mathlib.Omega.{arith}
use lib.ListN.{length, take, drop, take-append-drop}
use lib.Seq.{drop-append_seam}
use Rattle.recovery.specs.Group.{Group, groups_size, last_csn, fitting}
use Rattle.recovery.specs.Ledger.{Entry, Ledger, fitting_entries, leave, emptied, enter_flushed}
use Rattle.recovery.specs.Machine.{Opening, Disk, history_of, standing_in, Live, storing, after_flush}
use Rattle.recovery.specs.Claim.{commits}
use Rattle.recovery.proofs.Lists.{all_map, take_map}
use Rattle.recovery.proofs.Groups.{groups_size_append, last_csn_append, replay_append, fitting_split, fitting_all}
use Rattle.recovery.proofs.Byte.{lay_byte}
use Rattle.recovery.proofs.TailFit.{Fit, late, fit_late, tied_early}
use Rattle.recovery.proofs.CheckpointLaw.{undoes_late}
use Rattle.recovery.proofs.Numbers.{Consecutive, consecutive_append, consecutive_tied, last_on_disk}
use Rattle.recovery.proofs.Log.{stored_before, stored_stands}
use Rattle.recovery.proofs.Ledger.{Agrees, entry_of, entries, commits_append, commits_entries, fitting_entries_lem}
use Rattle.recovery.proofs.Invariant.{Standing, AtByte, Up, Down, base_at, crash, down_emptied}

-- the live state after the first groups P of a tail P ++ U went to the log
abbrev stored_live : List Group → List Group → Live → Live
stored_live P U l = record { txs = l.txs; memory = l.memory; tail = U; csn = last_csn l.csn P; last_id = l.last_id }

module _ (o : Opening) (d : Disk) (l : Live) (k : Ledger) (P U : List Group) (split : l.tail ≡ P ++ U) (u : Up o d l k) where
  abbrev s : Standing d l u.late
  s = u.standing

  -- log and tail together stay as they are
  whole : d.after ++ l.tail ≡ (d.after ++ P) ++ U
  whole = ap (λ (gs : List Group). d.after ++ gs) split ∙ sym (append_assoc d.after P U)

  fit_split : Fit l.txs l.csn (P ++ U) u.late
  fit_split = rw split at s.fit

  stored_csn : last_csn l.csn P ≡ last_csn d.image.csn (d.after ++ P)
  stored_csn = ap (λ (n : ℕ). last_csn n P) s.on_disk ∙ sym (last_csn_append d.image.csn d.after P)

  stored_standing : Standing (storing P d) (stored_live P U l) (late P u.late)
  stored_standing = record {
    image_distinct = s.image_distinct;
    image_ids = s.image_ids;
    group_ids = rw whole at s.group_ids;
    live_distinct = s.live_distinct;
    live_ids = s.live_ids;
    follows = rw whole at s.follows;
    on_disk = stored_csn;
    fit = fit_late l.txs l.csn P U u.late fit_split;
    csns = rw (split, last_csn_append l.csn P U) at s.csns;
  }

  stored_history : history_of (storing P d) ≡ history_of d ++ P
  stored_history = sym (append_assoc d.before d.after P)

  stored_commits : commits (history_of (storing P d)) ≡ commits (history_of d) ++ commits P
  stored_commits = ap commits stored_history ∙ commits_append (history_of d) P

  -- all commits assigned stay as they are
  same_commits : commits (history_of d) ++ commits l.tail ≡ commits (history_of (storing P d)) ++ commits U
  same_commits = rw (split, commits_append P U, stored_commits) (sym (append_assoc (commits (history_of d)) (commits P) (commits U)))

  -- all groups stay as they are
  same_groups : history_of d ++ l.tail ≡ history_of (storing P d) ++ U
  same_groups = ap (λ (gs : List Group). history_of d ++ gs) split
      ∙ sym (ap (λ (gs : List Group). gs ++ U) stored_history ∙ append_assoc (history_of d) P U)

  stored_ledger : Agrees (storing P d) (stored_live P U l) (leave (entries P) k)
  stored_ledger = record {
    durable = rw (u.ledger.durable, commits_entries P, stored_commits);
    assigned = u.ledger.assigned ∙ same_commits;
    queue = ap (λ (es : List Entry). drop (length (entries P)) es) (u.ledger.queue ∙ (ap entries split ∙ map-append entry_of P U))
        ∙ drop-append_seam (entries P) (entries U);
    active = u.ledger.active;
    settled = all_map (λ c m. Memᴰ.append_left _ m) u.ledger.settled;
    latests = rw same_commits at u.ledger.latests;
  }

  stored_keeps : Up o (storing P d) (stored_live P U l) (leave (entries P) k)
  stored_keeps = record {
    late = late P u.late;
    standing = stored_standing;
    image_length = u.image_length;
    live_length = u.live_length;
    bytes = λ a h.
        let b : AtByte o d l u.late a = u.bytes a h in
        record {
          image = rw whole at b.image;
          undoes = rw (replay_append (lay_byte a) d.after P (base_at o d.before a)) (undoes_late P (rw split at b.undoes));
          live = rw whole at b.live;
        };
    records = rw same_groups at u.records;
    room = record {
      fits = rw (stored_before P d) (rw whole at u.room.fits);
      used = rw (stored_stands P d) (omega (arith, u.room.used, groups_size_append (standing_in d) P, ap groups_size split ∙ groups_size_append P U));
    };
    numbers = record {
      history = rw stored_history
          (consecutive_append u.numbers.history
          (subst (λ (n : ℕ). Consecutive n P) (s.on_disk ∙ sym (last_on_disk o d u.numbers)) (consecutive_tied (tied_early P U fit_split.tied))));
      image = u.numbers.image;
    };
    ledger = stored_ledger;
    opening = u.opening;
  }

module _ (o : Opening) (d : Disk) (l : Live) (k : Ledger) (q allowed : ℕ) (u : Up o d l k) where
  -- what leaves the ledger's queue is what leaves the tail
  leaving : fitting_entries allowed (take q k.queue) ≡ entries (fitting allowed (take q l.tail))
  leaving =
      ap (λ (es : List Entry). fitting_entries allowed (take q es)) u.ledger.queue
      ∙ (ap (λ (es : List Entry). fitting_entries allowed es) (take_map entry_of q l.tail) ∙ fitting_entries_lem allowed (take q l.tail))

  pub flush_keeps : groups_size (take q l.tail) ≤ allowed → Up o (storing (take q l.tail) d) (after_flush q l) (enter_flushed q allowed k)
  flush_keeps enough =
      rw (leaving, fitting_all allowed (take q l.tail) enough)
      (stored_keeps o d l k (take q l.tail) (drop q l.tail) (sym (take-append-drop q l.tail)) u)

  pub cut_flush_keeps : Down o (storing (fitting allowed (take q l.tail)) d) (emptied (enter_flushed q allowed k))
  cut_flush_keeps =
      let P : List Group = fitting allowed (take q l.tail) in
      let R : List Group = drop (length (fitting allowed (take q l.tail))) (take q l.tail) in
      let split : l.tail ≡ P ++ (R ++ drop q l.tail) =
      sym (take-append-drop q l.tail)
      ∙ (ap (λ (gs : List Group). gs ++ drop q l.tail) (fitting_split allowed (take q l.tail)) ∙ append_assoc P R (drop q l.tail)) in
      rw leaving
      (down_emptied o (storing P d) (leave (entries P) k)
      (crash o (storing P d) (stored_live P (R ++ drop q l.tail) l) (leave (entries P) k) (stored_keeps o d l k P (R ++ drop q l.tail) split u)))
