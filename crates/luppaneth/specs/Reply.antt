-- A call's answer as numbers, for hosts in other languages.
use Rattle.std.specs.Prelude.{ℕ, cond, eqb, Option, Some, None, Result, Ok, Err}
use Rattle.store.specs.declared.Failure.{Failure}
use Rattle.store.specs.Answer.{Word, done, cut, refused, Told, tells}
use Rattle.redolog.specs.declared.stop.Stop.{Stop}
use Rattle.redolog.specs.declared.stop.Stop.TheVariants.{Full, Zero, Torn}
use Rattle.luppaneth.specs.declared.Reply.{Reply}

-- which word: 0 done, 1 cut, 2 refused
abbrev pub answer_of : Word → ℕ
answer_of done = 0
answer_of cut = 1
answer_of (refused n) = 2

-- document 01's number where refused, else 0
abbrev pub number_of : Word → ℕ
number_of done = 0
number_of cut = 0
number_of (refused n) = n

-- the value of a call that is done, else 0
abbrev pub value_by : Result ℕ Failure → ℕ
value_by (Ok n) = n
value_by (Err f) = 0

-- why the log ended: 0 untold, 1 full, 2 zero, 3 torn
abbrev pub stop_number : Option Stop → ℕ
stop_number None = 0
stop_number (Some Full) = 1
stop_number (Some Zero) = 2
stop_number (Some Torn) = 3

-- all that restart tells, each field of it
abbrev pub restart_reply : Told → Option Stop → Reply
restart_reply t stopped =
    record {
      answer = answer_of t.says;
      number = number_of t.says;
      stop = stop_number stopped;
      value = t.value;
      stores = t.stores;
      state = t.state;
    }

-- any other call tells no stop
abbrev pub reply_of : Told → Reply
reply_of t = restart_reply t None

-- ---- back: what a host reads in a reply. That it is what the call told: `told_back`, `stop_back` (proofs/Replies.antt)

abbrev pub word_of : ℕ → ℕ → Word
word_of answer number = cond (eqb answer 0) done (cond (eqb answer 1) cut (refused number))

abbrev pub of_reply : Reply → Told
of_reply r = tells (word_of r.answer r.number) r.value r.stores r.state

abbrev pub stopped_by : ℕ → Option Stop
stopped_by n = cond (eqb n 1) (Some Full) (cond (eqb n 2) (Some Zero) (cond (eqb n 3) (Some Torn) None))
