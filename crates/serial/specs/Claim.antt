-- What a transaction saw is what the order says (document 02, A.4): the claim about the ledger with reads.
use Rattle.std.specs.Prelude.{ℕ, ◌≡◌, ◌≢◌, List, ◌∷◌, ◌++◌, length, take, drop}
use Rattle.recovery.specs.Group.{Write}
use Rattle.recovery.specs.Lists.{All}
use Rattle.recovery.specs.Replay.{redo_all, lay_bytes}
use Rattle.recovery.specs.Claim.{lay_commits}
use Rattle.serial.specs.Ledger.{Read, OpenWithReads, CommitWithReads, commits_in, stamps_of}

-- the bytes of a memory in the range of a read
abbrev pub bytes_at : Read → List ℕ → List ℕ
bytes_at r m = take (length r.bytes) (drop r.addr m)

-- What the order says: the bytes in the range of a read that the transactions before its own, run one after the other over the opening memory, and then those
-- of its own writes that stood leave there.
abbrev pub said_by : List ℕ → List CommitWithReads → List Write → Read → List ℕ
said_by memory before writes r = bytes_at r (redo_all lay_bytes (take r.own writes) (lay_commits (commits_in before) memory))

-- a read of a transaction with these writes, which stands in commit order after `before`
pub record AsOrdered (memory : List ℕ) (before : List CommitWithReads) (writes : List Write) (r : Read) : Type 0 where
  -- it returned what the order says
  pub bytes : r.bytes ≡ said_by memory before writes r
  -- all that were assigned when it was made are among those before it, as a leading run
  pub assigned : (between : List ℕ) × (stamps_of before ≡ r.assigned ++ between)

-- of each committed transaction of the list, the n-th, after the first n - 1, and each of its reads
abbrev pub Serial : List ℕ → List CommitWithReads → Type 0
Serial memory cs = (before : List CommitWithReads) (c : CommitWithReads) (after : List CommitWithReads) → cs ≡ before ++ (c ∷ after)
    → All (AsOrdered memory before c.commit.writes) c.reads

-- the open transaction of this id, the only one: it is where a read by this id is noted
pub record OnlyOpen (id : ℕ) (ss : List OpenWithReads) : Type 0 where
  pub before : List OpenWithReads
  pub reader : OpenWithReads
  pub after : List OpenWithReads
  pub whole : ss ≡ before ++ (reader ∷ after)
  pub named : reader.tx.id ≡ id
  pub alone : All (λ s. s.tx.id ≢ id) (before ++ after)
