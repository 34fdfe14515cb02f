-- Restart with so many stores allowed.
use Rattle.std.specs.Prelude.{ℕ, ◌+◌, ◌-◌, true, cond, List, replicate, eqb, Option, Some, None, Result, Ok, Err}
use Rattle.layout.specs.{log_start, log_len, max_txs}
use Rattle.redolog.specs.declared.TxId.{TxId}
use Rattle.redolog.specs.declared.Csn.{Csn}
use Rattle.redolog.specs.declared.stop.Stop.{Stop}
use Rattle.redolog.specs.Stores.{Store, clears}
use Rattle.redolog.specs.Stop.{stop_of}
use Rattle.transaction.specs.Flat.{empty_tx}
use Rattle.store.specs.declared.Failure.{Failure}
use Rattle.store.specs.declared.State.{State}
use Rattle.store.specs.State.{unrecovered}
use Rattle.store.specs.Answer.{Word, done, cut, refused, says_stored, Told, tells}
use Rattle.store.specs.Stored.{DiskOutcome, Plan, carried_out}
use Rattle.disk.specs.declared.call.Recovery.{Recovery}
use Rattle.disk.specs.declared.call.Restarted.{Restarted}
use Rattle.disk.specs.Layout.{log_from, lengths_ok}
use Rattle.disk.specs.Examine.{Meaning, examine_of}

-- Step 5: "Both commit numbers = the last found; log end = the end found." Step 6: "No transaction is left."
unfoldable pub recovered_state : ℕ → Csn → TxId → State
recovered_state end csn last = record { recovered = true; logend = end; ondisk = csn; assigned = csn; lastid = last; count = 0; txs = replicate max_txs empty_tx }

-- Step 6: "Store zero at every log place from 33,690 down to the log's end."
abbrev pub clearing : ℕ → List Store
clearing end = clears (log_start + end) (log_len - end)

-- of one that is not done: 0
abbrev pub undone_by : Result Recovery Failure → ℕ
undone_by (Ok r) = r.undone
undone_by (Err f) = 0

-- what restart tells: its value is the count of transactions undone
abbrev pub of_restarted : Restarted → Told
of_restarted r = tells (says_stored r.result) (undone_by r.result) r.stores r.state

abbrev pub restart_plan : Meaning → Plan
restart_plan m =
    record {
      stores = clearing m.result.end;
      value = m.result.undone;
      state = recovered_state m.result.end m.result.csn m.result.last;
      memory = m.memory;
      tail = m.tail;
    }

abbrev pub refused_restart : ℕ → Told
refused_restart n = tells (refused n) 0 0 unrecovered

abbrev pub refused_with : ℕ → List ℕ → List ℕ → List ℕ → DiskOutcome
refused_with n disk memory tail = record { result = refused_restart n; disk = disk; memory = memory; tail = tail }

abbrev pub of_meaning : Meaning → List ℕ → ℕ → DiskOutcome
of_meaning m disk allowed =
    cond (eqb m.result.number 0) (carried_out (restart_plan m) allowed disk)
    (refused_with m.result.number disk m.memory m.tail)

-- "1. All calls: a lent buffer hasn't its length."
unfoldable pub restart_of : List ℕ → List ℕ → List ℕ → ℕ → DiskOutcome
restart_of disk memory tail allowed = cond (lengths_ok disk memory tail) (of_meaning (examine_of disk) disk allowed) (refused_with 1 disk memory tail)

-- ---- why the log ended where it did (document 02, A.1)

-- as it was before step 6: by what is left of the log from the end found on
unfoldable pub stop_found : List ℕ → Stop
stop_found disk = stop_of (log_from (examine_of disk).result.end disk)

-- "a restart that is done" carries it up
abbrev pub told_stop : Word → Stop → Option Stop
told_stop done stop = Some stop
told_stop cut stop = None
told_stop (refused n) stop = None

-- in what the code answers
abbrev pub stop_told : Result Recovery Failure → Option Stop
stop_told (Ok r) = Some r.stop
stop_told (Err f) = None

unfoldable pub stopped_of : List ℕ → List ℕ → List ℕ → ℕ → Option Stop
stopped_of disk memory tail allowed = told_stop (restart_of disk memory tail allowed).result.says (stop_found disk)
