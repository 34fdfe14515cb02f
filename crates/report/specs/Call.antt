-- A call's number in a record (docs/STREAM.md).
use Rattle.std.specs.Prelude.{◌≡◌, ◌<◌, ℕ, Result, MatchResult}
use Rattle.report.specs.declared.call.Call.{Call}
use Rattle.report.specs.declared.call.Call.TheVariants.{Begin, Write, Read, CheckRead, Precommit, Abort, Flush, Settle, Checkpoint, Restart, PowerFails, Damage, KeepCopy, Equal, FirstGroups, OnePage, SetSavepoint, GoBack, Outcomes}
use Rattle.report.specs.declared.call.UnknownCall.{UnknownCall}

abbrev pub number_of : Call → ℕ
number_of Begin = 1
number_of Write = 2
number_of Read = 3
number_of CheckRead = 4
number_of Precommit = 5
number_of Abort = 6
number_of Flush = 7
number_of Settle = 8
number_of Checkpoint = 9
number_of Restart = 10
number_of PowerFails = 11
number_of Damage = 12
number_of KeepCopy = 13
number_of Equal = 14
number_of FirstGroups = 15
number_of OnePage = 16
number_of SetSavepoint = 17
number_of GoBack = 18
number_of Outcomes = 19

-- the result is the call of this number, or an error with a number that no call has
abbrev pub Names : ℕ → Result Call UnknownCall → Type 0
Names n r = MatchResult r (λ call. number_of call ≡ n) (λ e. (e.0 ≡ n) × ((n ≡ 0 → ⊥) → 19 < n))
