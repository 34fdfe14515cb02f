-- What a line tells of a call.
use Rattle.std.specs.Prelude.{ℕ, ◌≡◌, Bool, true, false, List, ◌++◌, length, take, codes, decimal, Option, None, Result, Ok, Err}
use Rattle.redolog.specs.declared.TxId.{TxId}
use Rattle.redolog.specs.declared.Csn.{Csn}
use Rattle.redolog.specs.declared.stop.Stop.{Stop}
use Rattle.transaction.specs.declared.Tx.{Tx}
use Rattle.transaction.specs.Lists.{sum_of}
use Rattle.layout.specs.declared.refusal.Refusal.{Refusal}
use Rattle.store.specs.declared.Failure.{Failure}
use Rattle.layout.specs.Refusal.{number_of}
use Rattle.store.specs.declared.Failure.TheVariants.{Cut as PowerCut, Refused as RefusedFor}
use Rattle.store.specs.declared.State.{State}
use Rattle.store.specs.declared.call.Returned.{Returned}
use Rattle.store.specs.State.{txs_of}
use Rattle.store.specs.Answer.{id_of, csn_of}
use Rattle.disk.specs.declared.call.Restarted.{Restarted}
use Rattle.disk.specs.Restart.{undone_by, stop_told}
use Rattle.report.specs.declared.line.Verdict.{Verdict}
use Rattle.report.specs.declared.line.Verdict.TheVariants.{Done, Cut, Refused, Part, Equal}
use Rattle.report.specs.declared.line.Report.{Report}
use Rattle.report.specs.Adler.{adler_of}

abbrev pub restarted_of : Verdict → ℕ → ℕ → Option Stop → State → Report
restarted_of verdict value stores stop state = record { verdict = verdict; value = value; stores = stores; stop = stop; state = state }

-- of any call but restart
abbrev pub stored_of : Verdict → ℕ → ℕ → State → Report
stored_of verdict value stores state = restarted_of verdict value stores None state

-- ---- of each struct that a call answers with: the value that a call gives is a field of its own

abbrev pub answered : {A : Type 0} → Result A Failure → Verdict
answered (Ok a) = Done
answered (Err PowerCut) = Cut
answered (Err (RefusedFor r)) = Refused (number_of r)

abbrev pub judged : {A : Type 0} → Result A Refusal → Verdict
judged (Ok a) = Done
judged (Err r) = Refused (number_of r)

abbrev pub begun_of : Returned TxId → Report
begun_of x = stored_of (judged x.result) (id_of x.result) 0 x.state

abbrev pub precommitted_of : Returned Csn → Report
precommitted_of x = stored_of (judged x.result) (csn_of x.result) 0 x.state

abbrev pub returned_of : Returned Unit → Report
returned_of x = stored_of (judged x.result) 0 0 x.state

abbrev pub recovered_of : Restarted → Report
recovered_of x = restarted_of (answered x.result) (undone_by x.result) x.stores (stop_told x.result) x.state

-- of read: the length of its part, and the part's checksum
abbrev pub read_of : List ℕ → State → Report
read_of part state = record { verdict = Part (length part); value = adler_of part; stores = 0; stop = None; state = state }

-- how many savepoints a transaction has, and how many ranges it has read
abbrev pub savepoints_in : Tx → ℕ
savepoints_in t = t.extras.savepoints.count

abbrev pub reads_in : Tx → ℕ
reads_in t = t.extras.reads.count

-- of the transactions listed together; an unrecovered state lists none
abbrev pub counted_in : (Tx → ℕ) → State → ℕ
counted_in count s = sum_of count (txs_of s)

-- n is that sum, of whatever a closure answers of a transaction
abbrev pub Counts : (Tx → ℕ → Type 0) → State → ℕ → Type 0
Counts Answers s n = (count : Tx → ℕ) → ((t : Tx) (r : ℕ) → Answers t r → r ≡ count t) → n ≡ sum_of count (take s.count s.txs)

-- of equal in meaning
abbrev pub compared_of : Bool → State → Report
compared_of equal state = record { verdict = Equal equal; value = 0; stores = 0; stop = None; state = state }

-- ---- the second field, as it is printed

abbrev pub verdict_text : Verdict → List ℕ
verdict_text Done = codes "done"
verdict_text Cut = codes "cut"
verdict_text (Refused n) = codes "refused=" ++ decimal n
verdict_text (Part n) = codes "part=" ++ decimal n
verdict_text (Equal true) = codes "yes"
verdict_text (Equal false) = codes "no"
