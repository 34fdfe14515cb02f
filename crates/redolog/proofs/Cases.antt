-- Document 01's M1 at the log: what is written, what is read of it, and what is read if its last byte is missing; why each log ends where it does. Logs
-- whose first commit number is taken as found.
use Prim.Native.Nat.{ℕ}
use mathlib.Core.List.{List, [], ◌∷◌, ◌++◌}
use mathlib.Core.Option.{none, some}
use mathlib.Core.Path.{◌≡◌, refl}
use lib.ListN.{take, replicate}
use Rattle.recovery.specs.Group.{Group, committed, aborted}
use Rattle.redolog.specs.Record.{read_record, read_redo, read_commit, read_abort}
use Rattle.redolog.specs.Reader.{run, whole}
use Rattle.redolog.specs.Group.{read_body, group_with, encode_group}
use Rattle.redolog.specs.Log.{read_log_with, read_log, log_stop}
use Rattle.redolog.specs.Found.{found_number, read_found}
use Rattle.redolog.specs.Stop.{stop_of}
use Rattle.redolog.specs.declared.stop.Stop.TheVariants.{Full, Zero, Torn}

abbrev m1 : List ℕ
m1 = 0x01 ∷ 0x00 ∷ 0x01 ∷ 0x00 ∷ 0x0A ∷ 0x02 ∷ 0x41 ∷ 0x42 ∷ 0x01 ∷ 0x02 ∷ 0x00 ∷ 0x01 ∷ 0x00 ∷ 0x00 ∷ 0x00 ∷ 0x01 ∷ 0x02 ∷ []

abbrev group : Group
group = committed 1 1 (record { addr = 10; bytes = 0x41 ∷ 0x42 ∷ [] } ∷ [])

m1_written : encode_group group ≡ m1
m1_written = refl

m1_read : read_log 0 (m1 ++ replicate 16367 0) ≡ group ∷ []
unfolding read_log read_log_with group_with read_body read_record read_redo read_commit read_abort run whole
m1_read = refl

m1_cut : read_log 0 (take 16 m1 ++ replicate 16368 0) ≡ []
unfolding read_log read_log_with group_with read_body read_record read_redo read_commit read_abort run whole
m1_cut = refl

m1_zero : log_stop 0 (m1 ++ replicate 16367 0) ≡ Zero
unfolding log_stop stop_of read_log read_log_with group_with read_body read_record read_redo read_commit read_abort run whole
m1_zero = refl

m1_full : log_stop 0 m1 ≡ Full
unfolding log_stop stop_of read_log read_log_with group_with read_body read_record read_redo read_commit read_abort run whole
m1_full = refl

m1_torn : log_stop 0 (take 16 m1 ++ replicate 16368 0) ≡ Torn
unfolding log_stop stop_of read_log read_log_with group_with read_body read_record read_redo read_commit read_abort run whole
m1_torn = refl

-- its redo record is whole, and its group breaks off: before zeros, or with the log's last byte
redo_torn : log_stop 0 (take 9 m1 ++ replicate 16375 0) ≡ Torn
unfolding log_stop stop_of read_log read_log_with group_with read_body read_record read_redo read_commit read_abort run whole
redo_torn = refl

redo_last : log_stop 0 (take 9 m1) ≡ Torn
unfolding log_stop stop_of read_log read_log_with group_with read_body read_record read_redo read_commit read_abort run whole
redo_last = refl

-- ---- the first commit number as found

abbrev commit_of : ℕ → ℕ → List ℕ
commit_of id n = 2 ∷ 0 ∷ id ∷ 0 ∷ 0 ∷ 0 ∷ n ∷ 2 ∷ []

abbrev abort_of : ℕ → List ℕ
abort_of id = 3 ∷ 0 ∷ id ∷ 3 ∷ []

m1_found : read_found (m1 ++ replicate 16367 0) ≡ group ∷ []
unfolding read_found found_number read_log_with group_with read_body read_record read_redo read_commit read_abort run whole
m1_found = refl

-- 0 is found too, and the next number is 1
zero_found : read_found (commit_of 5 0 ++ (commit_of 6 1 ++ replicate 16368 0)) ≡ committed 5 0 [] ∷ committed 6 1 [] ∷ []
unfolding read_found found_number read_log_with group_with read_body read_record read_redo read_commit read_abort run whole
zero_found = refl

-- behind an abort; a number that does not follow ends the log
abort_found : read_found (abort_of 4 ++ (commit_of 5 7 ++ (commit_of 6 9 ++ replicate 16364 0))) ≡ aborted 4 ∷ committed 5 7 [] ∷ []
unfolding read_found found_number read_log_with group_with read_body read_record read_redo read_commit read_abort run whole
abort_found = refl

-- a redo record of id 1 and a commit of id 2: a number is found, and no group stands there
torn_found : (found_number (take 9 m1 ++ commit_of 2 7) ≡ some 7) × (read_found (take 9 m1 ++ commit_of 2 7) ≡ [])
unfolding read_found found_number read_log_with group_with read_body read_record read_redo read_commit read_abort run whole
torn_found = (refl, refl)

-- no commit
none_found : (found_number (abort_of 4 ++ replicate 16380 0) ≡ none) × (read_found (abort_of 4 ++ replicate 16380 0) ≡ aborted 4 ∷ [])
unfolding read_found found_number read_log_with group_with read_body read_record read_redo read_commit read_abort run whole
none_found = (refl, refl)
