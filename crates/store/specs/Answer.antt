-- What a call tells, in document 01's words.
use Rattle.std.specs.Prelude.{ℕ, Result, Ok, Err}
use Rattle.layout.specs.declared.refusal.Refusal.{Refusal}
use Rattle.layout.specs.Refusal.{number_of}
use Rattle.redolog.specs.declared.TxId.{TxId}
use Rattle.redolog.specs.declared.Csn.{Csn}
use Rattle.store.specs.declared.Failure.{Failure}
use Rattle.store.specs.declared.Failure.TheVariants.{Cut, Refused}
use Rattle.store.specs.declared.State.{State}
use Rattle.store.specs.declared.call.Returned.{Returned}
use Rattle.store.specs.declared.stored.Stored.{Stored}

-- done; "cut"; refused, by a number of the list
pub data Word : Type 0 where
  done : Word
  cut : Word
  refused : ℕ → Word

-- what each case of a result says: of a call in memory alone
abbrev pub says : {A : Type 0} → Result A Refusal → Word
says (Ok a) = done
says (Err r) = refused (number_of r)

-- and of one that stores on the disk
abbrev pub says_stored : {A : Type 0} → Result A Failure → Word
says_stored (Ok a) = done
says_stored (Err Cut) = cut
says_stored (Err (Refused r)) = refused (number_of r)

-- All that a call tells: its word; a value (begin's id, precommit's commit number, restart's count of transactions undone, else 0); the stores
-- made; the state that it gives back.
pub record Told : Type 0 where
  pub says : Word
  pub value : ℕ
  pub stores : ℕ
  pub state : State

abbrev pub tells : Word → ℕ → ℕ → State → Told
tells w value stores s = record { says = w; value = value; stores = stores; state = s }

-- ---- of each struct that a call answers with; each of its fields is in what it tells

-- a refusal has no value: 0
abbrev pub id_of : Result TxId Refusal → ℕ
id_of (Ok id) = id.0
id_of (Err r) = 0

abbrev pub csn_of : Result Csn Refusal → ℕ
csn_of (Ok csn) = csn.0
csn_of (Err r) = 0

abbrev pub of_begun : Returned TxId → Told
of_begun r = tells (says r.result) (id_of r.result) 0 r.state

abbrev pub of_precommitted : Returned Csn → Told
of_precommitted r = tells (says r.result) (csn_of r.result) 0 r.state

abbrev pub of_returned : Returned Unit → Told
of_returned r = tells (says r.result) 0 0 r.state

abbrev pub of_stored : Stored → Told
of_stored r = tells (says_stored r.result) 0 r.stores r.state
