-- Laws of replies.
use Prim.Native.Nat.{ℕ, ◌≤◌}
use native.Mathlib.Omega.{arith}
use mathlib.Core.Bool.{Bool, true, false, cond}
use mathlib.Core.List.{List}
use mathlib.Core.Path.{◌≡◌, refl, ap}
use lib.ListN.{length}
use lib.Dec.{eqb, ltb}
use Rattle.std.specs.Prelude.{Option, Some, None}
use Rattle.redolog.specs.declared.stop.Stop.{Stop}
use Rattle.redolog.specs.declared.stop.Stop.TheVariants.{Full, Zero, Torn}
use Rattle.store.specs.Answer.{Word, done, cut, refused, Told, tells}
use Rattle.store.specs.Stored.{DiskOutcome, cut_short, made_whole, carried_out}
use Rattle.disk.specs.Layout.{lengths_ok}
use Rattle.disk.specs.Examine.{examine_of}
use Rattle.disk.specs.Restart.{restart_plan, refused_with, of_meaning, restart_of}
use Rattle.disk.proofs.Examining.{roomy}
use Rattle.luppaneth.specs.Reply.{answer_of, number_of, restart_reply, word_of, of_reply, stopped_by}

pub word_back : (w : Word) → word_of (answer_of w) (number_of w) ≡ w
word_back done = refl
word_back cut = refl
word_back (refused n) = refl

-- nothing that a call tells is lost in a reply
pub told_back : (t : Told) (stopped : Option Stop) → of_reply (restart_reply t stopped) ≡ t
told_back t stopped = ap (λ (w : Word). tells w t.value t.stores t.state) (word_back t.says)

pub stop_back : (t : Told) (stopped : Option Stop) → stopped_by (restart_reply t stopped).stop ≡ stopped
stop_back t None = refl
stop_back t (Some Full) = refl
stop_back t (Some Zero) = refl
stop_back t (Some Torn) = refl

-- ---- restart's count of transactions undone fits its field

abbrev Few : DiskOutcome → Type 0
Few o = o.result.value ≤ 4096

either : (b : Bool) (x y : DiskOutcome) → Few x → Few y → Few (cond b x y)
either true x y p q = p
either false x y p q = q

-- by log room, since each takes 4 bytes
pub few_undone : (disk memory tail : List ℕ) (allowed : ℕ) → Few (restart_of disk memory tail allowed)
unfolding restart_of carried_out
few_undone disk memory tail allowed =
    let m = examine_of disk in
    let p = restart_plan m in
    either (lengths_ok disk memory tail) (of_meaning m disk allowed) (refused_with 1 disk memory tail)
    (either (eqb m.result.number 0) (carried_out p allowed disk) (refused_with m.result.number disk m.memory m.tail)
    (either (ltb allowed (length p.stores)) (cut_short p allowed disk) (made_whole p allowed disk) (omega arith) (omega (arith, roomy disk)))
    (omega arith))
    (omega arith)
