-- A state without the bytes of its records: what judges a call looks at no more.
use Rattle.std.specs.Prelude.{ℕ, ◌<◌, List, map, ◌≡◌, get_or}
use Rattle.transaction.specs.declared.TxExtents.{TxExtents}
use Rattle.transaction.specs.Flat.{no_tx}
use Rattle.transaction.specs.View.{extents_of, bare_tx}
use Rattle.image.specs.declared.Counters.{Counters}
use Rattle.store.specs.declared.State.{State}
use Rattle.store.specs.declared.extents.StateExtents.{StateExtents}
use Rattle.store.specs.State.{tx_at}

-- what the logic reads past the end of the array
abbrev pub no_extents : TxExtents
no_extents = extents_of no_tx

abbrev pub counters_of : State → Counters
counters_of s = record { logend = s.logend; ondisk = s.ondisk; assigned = s.assigned; lastid = s.lastid; count = s.count }

-- the counters of a state, with these transactions
abbrev pub with_extents : State → List TxExtents → StateExtents
with_extents s ts =
    record { recovered = s.recovered; counters = counters_of s; txs = ts }

-- the extents of the transactions in the first n slots
abbrev pub Taken : State → List TxExtents → ℕ → Type 0
Taken s ts n = (i : ℕ) → i < n → get_or ts i no_extents ≡ extents_of (tx_at s i)

-- e has the counters of the state and the extents of the transactions listed
abbrev pub HasExtents : State → StateExtents → Type 0
HasExtents s e = (e ≡ with_extents s e.txs) × Taken s e.txs s.count

-- the state of these extents whose records have no bytes
abbrev pub bare_state : StateExtents → State
bare_state e =
    record {
      recovered = e.recovered;
      logend = e.counters.logend;
      ondisk = e.counters.ondisk;
      assigned = e.counters.assigned;
      lastid = e.counters.lastid;
      count = e.counters.count;
      txs = map bare_tx e.txs;
    }
