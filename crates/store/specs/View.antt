-- State, memory and tail as the abstract store of `recovery` has them: lists without unused slots, and groups instead of bytes.
use Rattle.std.specs.Prelude.{ℕ, List}
use Rattle.recovery.specs.Transaction.{Tx as Transaction}
use Rattle.recovery.specs.Machine.{Live}
use Rattle.redolog.specs.Log.{read_log}
use Rattle.transaction.specs.Lists.{up_from}
use Rattle.transaction.specs.View.{view_of}
use Rattle.store.specs.declared.State.{State}
use Rattle.store.specs.State.{tx_at}

abbrev pub view_at : State → ℕ → Transaction
view_at s i = view_of (tx_at s i)

abbrev pub live : State → List ℕ → List ℕ → Live
live s m t =
    record { txs = up_from (view_at s) s.count 0; memory = m; tail = read_log s.ondisk.0 t; csn = s.ondisk.0; last_id = s.lastid.0 }
