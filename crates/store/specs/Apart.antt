-- Readers hold (document 02, A.2): of two running transactions, none of the ranges that one has read meets one that the other has written. Number 2 does
-- not ask for it; every call keeps it (proofs/Apart), so that it holds on demand 3's lists (history, specs/Apart).
use Rattle.std.specs.Prelude.{ℕ, ◌<◌, Bool, false, ◌≡◌}
use Rattle.layout.specs.{status_running}
use Rattle.recovery.specs.Lists.{any}
use Rattle.transaction.specs.declared.Tx.{Tx}
use Rattle.transaction.specs.View.{Range, range, reads_of, written_by}
use Rattle.transaction.specs.Rules.{meets}
use Rattle.store.specs.declared.State.{State}
use Rattle.store.specs.State.{tx_at}

-- two ranges have a byte in common
abbrev pub meet : Range → Range → Bool
meet (range a n) q = meets a n q

-- while both are running, none that t has read meets one that u has written, record by record
abbrev pub Apart : Tx → Tx → Type 0
Apart t u = t.status ≡ status_running → u.status ≡ status_running → any (λ r. any (meet r) (written_by u)) (reads_of t) ≡ false

-- of any two of the transactions listed
abbrev pub ReadsApart : State → Type 0
ReadsApart s = (i j : ℕ) → i < s.count → j < s.count → (i ≡ j → ⊥) → Apart (tx_at s i) (tx_at s j)
