-- Numbers 1 and 2 as the code goes about them: what it measures on the way is handed on to the call, and to what decides of the call's own
-- numbers.
use Rattle.std.specs.Prelude.{ℕ, ◌≤◌, Bool, true, false, cond, ◌&&◌, List, [], ◌∷◌, ◌≡◌, eqb, Option, Some, None, Result, Ok, Err}
use Rattle.layout.specs.{log_len, disk_len}
use Rattle.layout.specs.declared.refusal.Refusal.{Refusal}
use Rattle.layout.specs.Refusal.{number_of}
use Rattle.transaction.specs.Lists.{every, sum_of}
use Rattle.transaction.specs.Rules.{state_ok, room_of}
use Rattle.store.specs.declared.State.{State}
use Rattle.store.specs.declared.judged.Admitted.{Admitted}
use Rattle.store.specs.declared.judged.Chosen.{Chosen}
use Rattle.store.specs.State.{txs_of, outlines_of, slot_of}
use Rattle.image.specs.Rules.{bounds_ok, outlines_ok}
use Rattle.store.specs.Rules.{keeps_image_rules, tail_length, tail_ok, room_used}
use Rattle.store.specs.Numbers.{Check, first_number, shared_checks, check6}

-- recovered, and the image rules of the counters
unfoldable pub counters_ok : Bool → ℕ → ℕ → ℕ → ℕ → Bool
counters_ok recovered logend ondisk assigned count = recovered && bounds_ok logend ondisk assigned count

-- the log room of what keeps its rules
abbrev pub measured_if : Bool → ℕ → Option ℕ
measured_if true n = Some n
measured_if false n = None

unfoldable pub measured_txs : State → Option ℕ
measured_txs s = measured_if (outlines_ok s.lastid.0 s.assigned.0 (outlines_of s) && every state_ok (txs_of s)) (sum_of room_of (txs_of s))

unfoldable pub measured_tail : ℕ → ℕ → List ℕ → Option ℕ
measured_tail ondisk assigned tail = measured_if (tail_ok ondisk assigned tail) (tail_length ondisk tail)

-- the number that refuses, 0 for none; if none, where the tail's groups end and the log room used
pub record Admission : Type 0 where
  pub number : ℕ
  pub end : ℕ
  pub room : ℕ

abbrev pub not_admitted : ℕ → Admission
not_admitted n = record { number = n; end = 0; room = 0 }

-- lent: the length of the lent memory
unfoldable pub admission : State → ℕ → List ℕ → Admission
admission s lent tail =
    let n = first_number (shared_checks s lent tail) in
    record { number = n; end = cond (eqb n 0) (tail_length s.ondisk.0 tail) 0; room = cond (eqb n 0) (room_used s tail) 0 }

-- with a disk lent, its length first (disk: that length)
unfoldable pub disk_admission : State → ℕ → ℕ → List ℕ → Admission
disk_admission s disk lent tail = cond (eqb disk disk_len) (admission s lent tail) (not_admitted 1)

-- what the code answers
abbrev pub of_admitted : Result Admitted Refusal → Admission
of_admitted (Ok x) = record { number = 0; end = x.end; room = x.room }
of_admitted (Err r) = not_admitted (number_of r)

-- ---- what is decided of a call about the transaction of an id

-- the first of its own numbers, before any other is looked at
abbrev pub listed_checks : State → ℕ → List Check
listed_checks s id = check6 s id ∷ []

-- numbers 1 and 2 come before the call's own
abbrev pub number_after : Admission → List Check → ℕ
number_after x cs = cond (eqb x.number 0) (first_number cs) x.number

-- the number that refuses, 0 for none; if none, the transaction's slot, where the tail's groups end and the log room used
pub record Choice : Type 0 where
  pub number : ℕ
  pub slot : ℕ
  pub end : ℕ
  pub room : ℕ

abbrev pub refusal : ℕ → Choice
refusal n = record { number = n; slot = 0; end = 0; room = 0 }

-- if nothing refuses: the transaction's slot, and what admission measured
abbrev pub chosen : State → Admission → ℕ → Choice
chosen s x id = record { number = 0; slot = slot_of s id; end = x.end; room = x.room }

unfoldable pub choice : State → Admission → ℕ → List Check → Choice
choice s x id cs = cond (eqb (number_after x cs) 0) (chosen s x id) (refusal (number_after x cs))

-- what the code answers
abbrev pub of_choice : Result Chosen Refusal → Choice
of_choice (Ok c) = record { number = 0; slot = c.slot; end = c.admitted.end; room = c.admitted.room }
of_choice (Err r) = refusal (number_of r)

-- ---- a call from its admission on: its own checks, cs, may look at the room used (lent: the length of the lent memory)

abbrev pub judged_number : State → ℕ → List ℕ → (ℕ → List Check) → ℕ
judged_number s lent tail cs = let x = admission s lent tail in number_after x (cs x.room)

abbrev pub judged_choice : State → ℕ → List ℕ → ℕ → (ℕ → List Check) → Choice
judged_choice s lent tail id cs = let x = admission s lent tail in choice s x id (cs x.room)

-- what deciding rests on: an admission that does not refuse has seen number 2's rules of the transactions kept, and room used that lies within the log
abbrev pub Seen : Admission → State → Type 0
Seen x s = x.number ≡ 0 → (keeps_image_rules s ≡ true) × (every state_ok (txs_of s) ≡ true) × (x.room ≤ log_len)
