-- Setting a savepoint keeps the invariant: nothing changes but the savepoints, in the store and in the ledger alike.
use mathlib.Core.Path.{◌≡◌, refl}
use mathlib.Core.Bool.{false}
use mathlib.Core.List.{◌∷◌, ◌++◌}
use Prim.Native.Nat.{ℕ}
use native.Mathlib.Omega.{arith}
use lib.ListN.{get_or}
use Rattle.recovery.specs.Transaction.{Tx, running}
use Rattle.recovery.specs.Replay.{replay}
use Rattle.recovery.specs.Ledger.{Ledger, note_savepoint, enter_savepoint_set}
use Rattle.recovery.specs.Machine.{Opening, Disk, Live, Listed, with_savepoint, after_savepoint}
use Rattle.recovery.proofs.Transactions.{Found, find, found_running}
use Rattle.recovery.proofs.Byte.{lay_byte}
use Rattle.recovery.proofs.LiveByte.{savepoint_byte}
use Rattle.recovery.proofs.Records.{Recorded}
use Rattle.recovery.proofs.Invariant.{Up, base_at, base_memory, recorded}
use Rattle.recovery.proofs.EditStep.{edited_room, edited_keeps}

pub savepoint_keeps : (o : Opening) (d : Disk) (l : Live) (k : Ledger) (r : Tx) (name : ℕ) → Listed r l.txs → r.committing ≡ false → Up o d l k
    → Up o d (after_savepoint r name l) (enter_savepoint_set r.id name k)
savepoint_keeps o d l k r name listed run u =
    let f : Found r.id r l.txs = find r.id r l.txs listed in
    let runnings : running l.txs ≡ running f.before ++ r ∷ running f.after = found_running r run f in
    let records : Recorded o.size (base_memory o d l) r = recorded o d l k u r listed run in
    edited_keeps o d l k r f run u (with_savepoint name) l.memory (note_savepoint name) refl run refl (λ t h. h) u.live_length
    (λ a h.
    savepoint_byte a (replay (lay_byte a) (d.after ++ l.tail) (base_at o d.before a)) (get_or l.memory a 0) name (running f.before) r
    (running f.after) (rw runnings at (u.bytes a h).live))
    (omega (arith, u.room.used, edited_room o d l k r f run u (with_savepoint name) l.memory (note_savepoint name) refl run refl))
    (record { olds = records.olds; within = records.within })
