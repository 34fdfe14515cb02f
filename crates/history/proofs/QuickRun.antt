-- Lists of calls, the quick way, are right.
use Prim.Native.Nat.{ℕ}
use mathlib.Core.List.{List, [], ◌∷◌}
use mathlib.Core.Option.{Option, none, some}
use mathlib.Core.Path.{◌≡◌, refl, ap, ◌∙◌}
use Rattle.store.specs.declared.State.{State}
use Rattle.history.specs.Calls.{Call, begin, write, read, read_answer, savepoint, go_back, precommit, abort, flush, settle, checkpoint, restart}
use Rattle.history.specs.Calls.{Reply, Stepped, step_of, Ran, and_ran, run_of}
use Rattle.history.proofs.Quick.{Short, widened, Lengths, LengthsOf, Went, here, begin_quick, write_quick, read_quick, answer_quick}
use Rattle.history.proofs.Quick.{savepoint_quick, go_back_quick, precommit_quick, abort_quick, flush_quick, settle_quick, checkpoint_quick, restart_quick}
use Rattle.history.proofs.QuickRight.{Right}
use Rattle.history.proofs.QuickMemory.{begin_right, write_right, read_right, answer_right, savepoint_right, go_back_right, precommit_right, abort_right, settle_right}
use Rattle.history.proofs.QuickStores.{flush_right, checkpoint_right}
use Rattle.history.proofs.QuickRestart.{restart_right}

-- a call's quick way, and that it is right where it answers
record Quickly (c : Call) : Type 0 where
  go : List ℕ → List ℕ → List ℕ → State → Option Went
  right : (d m bs : List ℕ) (s : State) → Lengths d m bs → Right (step_of c (widened (here d m bs s))) (go d m bs s)

-- A call that the table M1 to M10 does not have needs none: record { go = λ d m bs s. none; right = λ d m bs s l. tt }.
abbrev quickly : (c : Call) → Quickly c
quickly begin = record { go = begin_quick; right = begin_right }
quickly (write id a new) = record { go = λ d m bs s. write_quick d m bs s id a new; right = λ d m bs s l. write_right d m bs s l id a new }
quickly (read id a k) = record { go = λ d m bs s. read_quick d m bs s id a k; right = λ d m bs s l. read_right d m bs s l id a k }
quickly (read_answer id a k) = record { go = λ d m bs s. answer_quick d m bs s id a k; right = λ d m bs s l. answer_right d m bs s l id a k }
quickly (savepoint id name) = record { go = λ d m bs s. savepoint_quick d m bs s id name; right = λ d m bs s l. savepoint_right d m bs s l id name }
quickly (go_back id name) = record { go = λ d m bs s. go_back_quick d m bs s id name; right = λ d m bs s l. go_back_right d m bs s l id name }
quickly (precommit id) = record { go = λ d m bs s. precommit_quick d m bs s id; right = λ d m bs s l. precommit_right d m bs s l id }
quickly (abort id) = record { go = λ d m bs s. abort_quick d m bs s id; right = λ d m bs s l. abort_right d m bs s l id }
quickly (flush k a) = record { go = λ d m bs s. flush_quick d m bs s k a; right = λ d m bs s l. flush_right d m bs s l k a }
quickly (settle id) = record { go = λ d m bs s. settle_quick d m bs s id; right = λ d m bs s l. settle_right d m bs s l id }
quickly (checkpoint a) = record { go = λ d m bs s. checkpoint_quick d m bs s a; right = λ d m bs s l. checkpoint_right d m bs s l a }
quickly (restart a) = record { go = λ d m bs s. restart_quick d m bs s a; right = λ d m bs s l. restart_right d m bs s l a }

abbrev quick : Call → Short → Option Went
quick c q = (quickly c).go q.disk q.memory q.tail q.state

-- ---- lists of calls

pub record QuickRan : Type 0 where
  pub replies : List Reply
  pub left : Short

abbrev and_went : Reply → Option QuickRan → Option QuickRan
and_went x none = none
and_went x (some r) = some (record { replies = x ∷ r.replies; left = r.left })

abbrev on_went : (Short → Option QuickRan) → Option Went → Option QuickRan
on_went rest none = none
on_went rest (some w) = and_went w.reply (rest w.left)

abbrev pub quick_run : List Call → Short → Option QuickRan
quick_run [] q = some (record { replies = []; left = q })
quick_run (c ∷ cs) q = on_went (quick_run cs) (quick c q)

abbrev pub RightRun : Ran → Option QuickRan → Type 0
RightRun x none = Unit {0}
RightRun x (some r) = x ≡ record { replies = r.replies; world = widened r.left }

pub right_run : (cs : List Call) (q : Short) → LengthsOf q → RightRun (run_of cs (widened q)) (quick_run cs q)
right_run [] q l = refl
right_run (c ∷ cs) q l = first (quick c q) ((quickly c).right q.disk q.memory q.tail q.state l) (λ q' l'. right_run cs q' l')
  where
    later : (x : Reply) (q' : Short) (o : Option QuickRan) → step_of c (widened q) ≡ record { reply = x; world = widened q' }
        → RightRun (run_of cs (widened q')) o
        → RightRun (run_of (c ∷ cs) (widened q)) (and_went x o)
    later x q' none e r = tt
    later x q' (some y) e r = ap (λ (z : Stepped). and_ran z.reply (run_of cs z.world)) e ∙ ap (and_ran x) r

    first : (o : Option Went) → Right (step_of c (widened q)) o → ((q' : Short) → LengthsOf q' → RightRun (run_of cs (widened q')) (quick_run cs q'))
        → RightRun (run_of (c ∷ cs) (widened q)) (on_went (quick_run cs) o)
    first none r rest = tt
    first (some w) r rest = later w.reply w.left (quick_run cs w.left) r.0 (rest w.left r.1)
