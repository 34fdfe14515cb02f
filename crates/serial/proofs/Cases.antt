-- Worked cases of the ledger with reads: one table with one computed proof.
use mathlib.Core.Path.{◌≡◌, refl}
use mathlib.Core.List.{List, [], ◌∷◌, ◌++◌, map}
use lib.ListN.{replicate}
use Prim.Native.Nat.{ℕ}
use Rattle.recovery.specs.Group.{Write}
use Rattle.recovery.specs.Lists.{All, nil, cons}
use Rattle.recovery.specs.Ledger.{begun, wrote, savepoint_set, went_back, precommitted, rolled_back, flushed, restarted, cut, unchanged}
use Rattle.serial.specs.Ledger.{Read, CommitWithReads, LedgerWithReads, no_reads, stamps_of, Fed, event, saw, feed}
use Rattle.serial.specs.Claim.{said_by}

-- what it is fed, and the stamps and reads of the durable ones then
pub record Row : Type 0 where
  pub fed : List Fed
  pub stamps : List ℕ
  pub reads : List (List Read)

abbrev feed_all : List Fed → LedgerWithReads → LedgerWithReads
feed_all [] k = k
feed_all (f ∷ fs) k = feed_all fs (feed f k)

-- the byte b at address 10
abbrev byte10 : ℕ → Write
byte10 b = record { addr = 10; bytes = b ∷ [] }

-- a read of it after so many own writes, those of these stamps being assigned
abbrev saw10 : ℕ → ℕ → List ℕ → Read
saw10 b own assigned = record { addr = 10; bytes = b ∷ []; own = own; assigned = assigned }

-- a read has the own writes that stood, not those that came later
unfoldable pub row_1 : Row
row_1 =
    record {
      fed = event (restarted 0) ∷ event (begun 1) ∷ saw 1 10 (0 ∷ []) ∷ event (wrote 1 (byte10 5)) ∷ saw 1 10 (5 ∷ []) ∷ event (wrote 1 (byte10 6))
          ∷ event (precommitted 1 1) ∷ event (flushed 1 100) ∷ [];
      stamps = 0 ∷ [];
      reads = (saw10 0 0 [] ∷ saw10 5 1 [] ∷ []) ∷ [];
    }

-- a read of what is precommitted and not yet on disk; both become durable, in commit order
unfoldable pub row_2 : Row
row_2 =
    record {
      fed = event (restarted 0) ∷ event (begun 1) ∷ event (begun 2) ∷ event (wrote 1 (byte10 5)) ∷ event (precommitted 1 1) ∷ saw 2 10 (5 ∷ [])
          ∷ event (precommitted 2 2) ∷ event (flushed 2 100) ∷ [];
      stamps = 0 ∷ 1 ∷ [];
      reads = [] ∷ (saw10 5 0 (0 ∷ []) ∷ []) ∷ [];
    }

-- a later transaction writes what an earlier one has read
unfoldable pub row_3 : Row
row_3 =
    record {
      fed = event (restarted 0) ∷ event (begun 1) ∷ saw 1 10 (0 ∷ []) ∷ event (precommitted 1 1) ∷ event (begun 2) ∷ event (wrote 2 (byte10 5))
          ∷ event (precommitted 2 2) ∷ event (flushed 2 100) ∷ [];
      stamps = 0 ∷ 1 ∷ [];
      reads = (saw10 0 0 [] ∷ []) ∷ [] ∷ [];
    }

-- the flush is cut between the two: the reader is lost
unfoldable pub row_4 : Row
row_4 =
    record {
      fed = event (restarted 0) ∷ event (begun 1) ∷ event (begun 2) ∷ event (wrote 1 (byte10 5)) ∷ event (precommitted 1 1) ∷ saw 2 10 (5 ∷ [])
          ∷ event (precommitted 2 2) ∷ event (cut (flushed 2 16)) ∷ [];
      stamps = 0 ∷ [];
      reads = [] ∷ [];
    }

-- id 1 and number 1 recur after they were lost, with the same write: the lost one's read is not among the reads, and its stamp is another
unfoldable pub row_5 : Row
row_5 =
    record {
      fed = event (restarted 0) ∷ event (begun 1) ∷ saw 1 10 (0 ∷ []) ∷ event (wrote 1 (byte10 5)) ∷ event (precommitted 1 1) ∷ event (cut unchanged)
          ∷ event (restarted 0) ∷ event (begun 1) ∷ event (wrote 1 (byte10 5)) ∷ saw 1 10 (5 ∷ []) ∷ event (precommitted 1 1) ∷ event (flushed 1 100) ∷ [];
      stamps = 1 ∷ [];
      reads = (saw10 5 1 [] ∷ []) ∷ [];
    }

-- what is rolled back takes its reads with it
unfoldable pub row_6 : Row
row_6 =
    record {
      fed = event (restarted 0) ∷ event (begun 1) ∷ event (begun 2) ∷ saw 1 10 (0 ∷ []) ∷ event (rolled_back 1) ∷ event (precommitted 2 1) ∷ event (flushed 2 100) ∷ [];
      stamps = 0 ∷ [];
      reads = [] ∷ [];
    }

-- the writes of a return are own earlier writes
unfoldable pub row_7 : Row
row_7 =
    record {
      fed = event (restarted 0) ∷ event (begun 1) ∷ event (wrote 1 (byte10 5)) ∷ event (savepoint_set 1 7) ∷ event (wrote 1 (byte10 6)) ∷ saw 1 10 (6 ∷ [])
          ∷ event (went_back 1 7) ∷ saw 1 10 (5 ∷ []) ∷ event (precommitted 1 1) ∷ event (flushed 1 100) ∷ [];
      stamps = 0 ∷ [];
      reads = (saw10 6 2 [] ∷ saw10 5 3 [] ∷ []) ∷ [];
    }

unfoldable pub rows : List Row
rows = row_1 ∷ row_2 ∷ row_3 ∷ row_4 ∷ row_5 ∷ row_6 ∷ row_7 ∷ []

-- what the order says of each read of each transaction, in commit order after `before`
abbrev said : List CommitWithReads → List CommitWithReads → List (List (List ℕ))
said before [] = []
said before (c ∷ cs) = map (said_by (replicate 16 0) before c.commit.writes) c.reads ∷ said (before ++ (c ∷ [])) cs

abbrev bytes_of : List Read → List (List ℕ)
bytes_of rs = map (λ r. r.bytes) rs

-- the durable ones are those of the row, and the order says what they read
abbrev Right : Row → Type 0
Right r =
    let k : LedgerWithReads = feed_all r.fed (no_reads (replicate 16 0)) in
    (stamps_of k.durable ≡ r.stamps) × (map (λ c. c.reads) k.durable ≡ r.reads) × (said [] k.durable ≡ map bytes_of r.reads)

right_1 : Right row_1
unfolding row_1
right_1 = (refl, refl, refl)

right_2 : Right row_2
unfolding row_2
right_2 = (refl, refl, refl)

right_3 : Right row_3
unfolding row_3
right_3 = (refl, refl, refl)

right_4 : Right row_4
unfolding row_4
right_4 = (refl, refl, refl)

right_5 : Right row_5
unfolding row_5
right_5 = (refl, refl, refl)

right_6 : Right row_6
unfolding row_6
right_6 = (refl, refl, refl)

right_7 : Right row_7
unfolding row_7
right_7 = (refl, refl, refl)

pub read_cases : All Right rows
unfolding rows
read_cases = cons right_1 (cons right_2 (cons right_3 (cons right_4 (cons right_5 (cons right_6 (cons right_7 nil))))))
