-- What a read sees of live memory: where no byte of its range is held by another, each byte is the newest that the transaction's own writes leave, after
-- all commits of log and tail; and no other running transaction has written there.
use Prim.Native.Nat.{ℕ, ◌<◌}
use mathlib.Core.Path.{◌≡◌, refl, sym, ap, ◌∙◌}
use mathlib.Core.Logic.{◌≢◌}
use mathlib.Core.Bool.{false}
use mathlib.Core.Option.{none}
use mathlib.Core.List.{List, ◌∷◌, ◌++◌, append_assoc}
use lib.ListN.{get_or}
use Rattle.recovery.specs.Group.{Write, Group}
use Rattle.recovery.specs.Lists.{All}
use Rattle.recovery.specs.Transaction.{Tx, running, held_by_other}
use Rattle.recovery.specs.Replay.{replay}
use Rattle.recovery.specs.Ledger.{Ledger}
use Rattle.recovery.specs.Machine.{Opening, Disk, history_of, Live, Listed}
use Rattle.recovery.proofs.Lists.{all_map, all_more}
use Rattle.recovery.proofs.Transactions.{Found, find, found_running}
use Rattle.recovery.proofs.Groups.{replay_append}
use Rattle.recovery.proofs.Byte.{act, seen, newest, lay_byte}
use Rattle.recovery.proofs.LiveByte.{Quiet, RunningAt, own_byte}
use Rattle.recovery.proofs.Held.{others_quiet}
use Rattle.recovery.proofs.Invariant.{Up, base_at}

module _ (o : Opening) (d : Disk) (l : Live) (k : Ledger) (r : Tx) (w : Write) (listed : Listed r l.txs) (run : r.committing ≡ false)
    (free : held_by_other r.id w l.txs ≡ false) (u : Up o d l k) (a : ℕ) (inside : a < o.size) (touched : seen a w ≢ none) where
  found : Found r.id r l.txs
  found = find r.id r l.txs listed

  abbrev xs : List Tx
  xs = running found.before

  abbrev ys : List Tx
  ys = running found.after

  -- the byte by the commits of log and tail
  abbrev base : ℕ
  base = replay (lay_byte a) (d.after ++ l.tail) (base_at o d.before a)

  runnings : running l.txs ≡ xs ++ r ∷ ys
  runnings = found_running r run found

  live : RunningAt a base (get_or l.memory a 0) (xs ++ r ∷ ys)
  live = rw runnings at (u.bytes a inside).live

  -- by number 9 no other has a record over it
  quiet : All (Quiet a) (xs ++ ys)
  quiet = others_quiet r run found u.standing.live_distinct w free a base (get_or l.memory a 0) live touched

  commits_byte : base ≡ replay (lay_byte a) (history_of d ++ l.tail) (get_or o.memory a 0)
  unfolding base_at
  commits_byte =
      sym (replay_append (lay_byte a) d.before (d.after ++ l.tail) (get_or o.memory a 0))
      ∙ ap (λ (gs : List Group). replay (lay_byte a) gs (get_or o.memory a 0)) (sym (append_assoc d.before d.after l.tail))

  pub read_byte : get_or l.memory a 0 ≡ act (newest a r.redo) (replay (lay_byte a) (history_of d ++ l.tail) (get_or o.memory a 0))
  read_byte = own_byte a base (get_or l.memory a 0) xs r ys live quiet ∙ ap (act (newest a r.redo)) commits_byte

  -- of the running transactions only the reader may have written there
  pub others_left : All (λ t. t.id ≢ r.id → newest a t.redo ≡ none) (running l.txs)
  others_left = rw runnings (all_more xs r ys (λ n. absurd (n refl)) (all_map (λ t q n. q.1) quiet))
