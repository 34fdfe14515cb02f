-- `recovery`'s machine with reads: its steps, a write meeting no byte that another open transaction has read, and reads.
use Prim.Native.Nat.{ℕ, ◌+◌, ◌≤◌}
use mathlib.Core.Path.{◌≡◌, sym, subst}
use mathlib.Core.Logic.{◌≢◌}
use mathlib.Core.Bool.{false}
use mathlib.Core.Option.{none}
use mathlib.Core.List.{List}
use lib.ListN.{length, take, drop}
use Rattle.recovery.specs.Group.{Write}
use Rattle.recovery.specs.Lists.{All}
use Rattle.recovery.specs.Transaction.{Tx, held_by_other}
use Rattle.recovery.specs.Ledger.{Event, unchanged, begun, wrote, savepoint_set, went_back, precommitted, rolled_back, flushed, settled, restarted, cut}
use Rattle.recovery.specs.Machine as machine
use Rattle.recovery.specs.Machine.{Opening, Disk, Live, System, down, up, opening_disk, Listed, Step, stays}
use Rattle.recovery.proofs.Byte.{seen}
use Rattle.serial.specs.Ledger.{Read, OpenWithReads, LedgerWithReads, no_reads, without_reads, Fed, event, saw, told_of, feed}
use Rattle.serial.proofs.Plain.{without_reads_lem}
use Rattle.serial.proofs.Ordered.{HandedBack}

-- the write has no byte of the read
abbrev pub Misses : Write → Read → Type 0
Misses w r = (a : ℕ) → HandedBack r a → seen a w ≡ none

-- Number 9, as readers hold (document 02, A.2): a write has no byte that another open transaction has read. Going back is never refused by it.
abbrev pub Unread : Event → List OpenWithReads → Type 0
Unread unchanged ss = Unit {0}
Unread (begun i) ss = Unit {0}
Unread (wrote i w) ss = All (λ s. s.tx.id ≢ i → All (Misses w) s.reads) ss
Unread (savepoint_set i name) ss = Unit {0}
Unread (went_back i name) ss = Unit {0}
Unread (precommitted i n) ss = Unit {0}
Unread (rolled_back i) ss = Unit {0}
Unread (flushed q allowed) ss = Unit {0}
Unread (settled i) ss = Unit {0}
Unread (restarted undone) ss = Unit {0}
Unread (cut e) ss = Unit {0}

module _ (o : Opening) where
  pub data ReadStep : System → LedgerWithReads → Fed → System → Type 0 where
    steps : {s t : System} {k : LedgerWithReads} {e : Event} → Step o s e t → Unread e k.active → ReadStep s k (event e) t
    -- numbers 6, 7, 8 and 9; it hands back the part of live memory
    reads : (d : Disk) (l : Live) {k : LedgerWithReads} (r : Tx) (addr : ℕ) (bytes : List ℕ) → Listed r l.txs → r.committing ≡ false
        → addr + length bytes ≤ o.size → held_by_other r.id (record { addr = addr; bytes = bytes }) l.txs ≡ false
        → bytes ≡ take (length bytes) (drop addr l.memory)
        → ReadStep (up d l) k (saw r.id addr bytes) (up d l)

  -- any list of calls, with the ledger with reads that is fed them
  pub data ReadRun : System → LedgerWithReads → Type 0 where
    opened : ReadRun (down (opening_disk o)) (no_reads o.memory)
    next : {s t : System} {k : LedgerWithReads} {f : Fed} → ReadRun s k → ReadStep s k f t → ReadRun t (feed f k)

  -- a step without the read
  plain_step : {s t : System} {k : LedgerWithReads} {f : Fed} → ReadStep s k f t → Step o s (told_of f) t
  plain_step (steps p c) = p
  plain_step (reads d l r addr bytes listed run within free part) = stays (up d l)

  -- without the reads it is a run of the machine
  pub plain_run : {s : System} {k : LedgerWithReads} → ReadRun s k → machine.Run o s (without_reads k)
  plain_run opened = machine.opened
  plain_run (next {s} {t} {k} {f} r p) = subst (machine.Run o t) (sym (without_reads_lem f k)) (machine.next (plain_run r) (plain_step p))
