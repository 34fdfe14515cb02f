use Rattle.std.proofs.Common.{rules, ◌≡◌, Bool, true, false, List, ℕ, ◌+◌, ◌&&◌, drop, ◌∙◌, ap, sym, arith}
use Rattle.std.proofs.lemmas.List.Sorted.{answers_always}
use lib.Dec.{ltb}
use Rattle.redolog.proofs.Basics.{from}
use Rattle.inspect.specs.Outcomes.{rising}
use Rattle.inspect.proofs.Walking.{rising_answer, rising_past}
use Rattle.inspect.proofs.outcomes.is_rising.Goals.{After-part_rises}
use Rattle.inspect.proofs.outcomes.is_rising.Goals as goal

-- the list, by what was answered of a part
by_part : (c : After-part_rises) (b : Bool) → c.part_rises.result ≡ b → rising c.args.ids.now ≡ (b && rising (drop (c.loop-at.at + 64) c.args.ids.now))
by_part c b e =
    let s = c.args.ids.now in
    let at = c.loop-at.at in
    c.loop-at.invariant.same
    ∙ rising_past at 64 _ s c.loop-at-test.true (omega arith)
    ∙ ap (λ (b : Bool). b && rising (drop (at + 64) s)) (sym c.part_rises.ensures ∙ e)

pub returns-then-not-part_rises : goal.returns-then-not-part_rises
returns-then-not-part_rises c = sym (by_part (goal.at.returns-then-not-part_rises c).After-part_rises false c.if-not-part_rises.true)

pub loop-at-preserved : goal.loop-at-preserved
loop-at-preserved c =
    record {
      within = omega (arith, c.loop-at-test.true);
      same = by_part (goal.at.loop-at-preserved c).After-part_rises true c.if-not-part_rises.false;
    }

pub returns : goal.returns
returns c =
    rising_answer _ _ (c.is_sorted_by.ensures.cases ltb (answers_always _ _ _ (λ f a r q k. search rules)))
    ∙ ap (λ (s : List ℕ). rising s) (from c.args.ids.now c.loop-at.at)
    ∙ sym c.loop-at.invariant.same
