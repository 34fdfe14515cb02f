-- Checkpoint keeps the invariant: by the checkpoint law the new image is right for every first part of the tail.
use mathlib.Core.Path.{◌≡◌, refl, sym, ◌∙◌, subst}
use mathlib.Core.Logic.{inr}
use mathlib.Core.List.{List, [], ◌∷◌, ◌++◌, append-nil}
use Prim.Native.Nat.{ℕ, ◌+◌, ◌≤◌}
use native.Mathlib.Omega.{arith}
use lib.ListN.{length-map, get_or, take, drop, take-append-drop}
use Rattle.recovery.specs.Group.{Group, groups_size}
use Rattle.recovery.specs.Lists.{All, nil, cons}
use Rattle.recovery.specs.Transaction.{Tx, running, reserved}
use Rattle.recovery.specs.Replay.{replay}
use Rattle.recovery.specs.Restart.{finished, undone}
use Rattle.recovery.specs.Ledger.{Ledger}
use Rattle.recovery.specs.Machine.{Opening, Disk, history_of, standing_before, Live, without_redo, after_checkpoint}
use Rattle.recovery.proofs.Lists.{all_mapped, all_map, all_zip, all_right, all_filter}
use Rattle.recovery.proofs.Transactions.{running_committing, is_unfinished}
use Rattle.recovery.proofs.Groups.{replay_append}
use Rattle.recovery.proofs.Finished.{unmarked}
use Rattle.recovery.proofs.Byte.{lay_byte}
use Rattle.recovery.proofs.LiveByte.{RunningAt}
use Rattle.recovery.proofs.TailFit.{Fit}
use Rattle.recovery.proofs.CheckpointLaw.{Undoes, checkpoint_law}
use Rattle.recovery.proofs.Follows.{Linked, here, there}
use Rattle.recovery.proofs.Numbers.{last_on_disk}
use Rattle.recovery.proofs.Log.{checkpoint_room}
use Rattle.recovery.proofs.Room.{roomy_image}
use Rattle.recovery.proofs.Invariant.{Standing, AtByte, Up, base_at}
use Rattle.recovery.proofs.NoRedo.{erased_distinct, erased_running, erased_committing, erased_unfinished, erased_undone, erased_recover}

-- each running transaction of the new image is itself
linked_self : (rs : List Tx) → All (λ t. Linked (without_redo t) rs) rs
linked_self [] = nil
linked_self (r ∷ rs) = cons {x = r} (here refl (λ a e. e)) (all_map (λ t l. there l) (linked_self rs))

module _ (o : Opening) (d : Disk) (l : Live) (k : Ledger) (u : Up o d l k) where
  abbrev s : Standing d l u.late
  s = u.standing

  checkpoint_standing : Standing (after_checkpoint d l) l u.late
  checkpoint_standing = record {
    image_distinct = erased_distinct s.live_distinct;
    image_ids = all_mapped without_redo s.live_ids;
    group_ids = all_right d.after s.group_ids;
    live_distinct = s.live_distinct;
    live_ids = s.live_ids;
    follows = record {
      committings = rw (erased_committing l.txs) (all_mapped without_redo (all_map (λ c h. inr h) s.csns));
      runnings = rw (erased_running l.txs, erased_unfinished (finished l.tail []) (running l.txs))
          (all_mapped without_redo (all_filter (is_unfinished (finished l.tail [])) (linked_self (running l.txs))));
      lives = rw (erased_committing l.txs)
          (all_zip (all_map (λ t h. unmarked [] h refl) s.fit.free) (all_map (λ t h. all_mapped without_redo h) (running_committing s.live_distinct)));
    };
    on_disk = refl;
    fit = s.fit;
    csns = s.csns;
  }

  new_base : (a : ℕ) → base_at o (history_of d) a ≡ replay (lay_byte a) d.after (base_at o d.before a)
  unfolding base_at
  new_base a = replay_append (lay_byte a) d.before d.after (get_or o.memory a 0)

  checkpoint_byte : (a : ℕ) → AtByte o d l u.late a → AtByte o (after_checkpoint d l) l u.late a
  checkpoint_byte a b =
      let base : ℕ = base_at o (history_of d) a in
      let undoes : Undoes a base l.tail u.late = rw (new_base a) b.undoes in
      let live : RunningAt a (replay (lay_byte a) l.tail base) (get_or l.memory a 0) (running l.txs) =
      rw (new_base a, ← replay_append (lay_byte a) d.after l.tail (base_at o d.before a)) b.live in
      record {
        image = λ q.
            let e : l.tail ≡ take q l.tail ++ drop q l.tail = sym (take-append-drop q l.tail) in
            erased_recover (lay_byte a) l.txs l.csn (take q l.tail) (get_or l.memory a 0)
            ∙ checkpoint_law a base (get_or l.memory a 0) l.txs l.csn (take q l.tail) (drop q l.tail) u.late
            (subst (λ (gs : List Group). Fit l.txs l.csn gs u.late) e s.fit) (subst (λ (gs : List Group). Undoes a base gs u.late) e undoes)
            (subst (λ (gs : List Group). RunningAt a (replay (lay_byte a) gs base) (get_or l.memory a 0) (running l.txs)) e live);
        undoes = undoes;
        live = live;
      }

  -- the log takes no more room, and the live state is the same
  checkpoint_used : groups_size (standing_before (after_checkpoint d l)) + groups_size l.tail + reserved (running l.txs) ≤ o.capacity
  checkpoint_used = omega (arith, u.room.used, checkpoint_room d l)

  pub checkpoint_keeps : Up o (after_checkpoint d l) l k
  checkpoint_keeps = record {
    late = u.late;
    standing = checkpoint_standing;
    image_length = u.live_length;
    live_length = u.live_length;
    bytes = λ a h. checkpoint_byte a (u.bytes a h);
    records = rw append-nil u.records;
    room = record {
      fits = λ q.
          let e : l.tail ≡ take q l.tail ++ drop q l.tail = sym (take-append-drop q l.tail) in
          rw (erased_undone l.txs l.csn (take q l.tail), length-map (undone l.txs l.csn (take q l.tail)) without_redo)
          (roomy_image o l (standing_before (after_checkpoint d l)) (take q l.tail) (drop q l.tail) u.late
          (subst (λ (gs : List Group). Fit l.txs l.csn gs u.late) e s.fit) (rw (← e) checkpoint_used));
      used = rw append-nil checkpoint_used;
    };
    numbers = record { history = rw append-nil u.numbers.history; image = s.on_disk ∙ sym (last_on_disk o d u.numbers) };
    ledger = record {
      durable = rw append-nil u.ledger.durable;
      assigned = rw append-nil u.ledger.assigned;
      queue = u.ledger.queue;
      active = u.ledger.active;
      settled = u.ledger.settled;
      latests = rw append-nil u.ledger.latests;
    };
    opening = u.opening;
  }
