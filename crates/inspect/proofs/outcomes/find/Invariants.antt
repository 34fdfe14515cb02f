use Prim.Native.Nat.{ℕ, ◌-◌, ◌≤◌, ◌<◌}
use lib.ListN.{length, get_or}
use Rattle.inspect.proofs.outcomes.find.Given as goal

-- below low each is less than the id, from high on each is more
abbrev pub invariant-loop-low : goal.invariant-loop-low
invariant-loop-low l =
    (l.low ≤ l.high)
    × (l.high ≤ length l.ids)
    × ((j : ℕ) → j < l.low → get_or l.ids j 0 < l.id)
    × ((j : ℕ) → l.high ≤ j → j < length l.ids → l.id < get_or l.ids j 0)

abbrev pub decreases-loop-low : goal.decreases-loop-low
decreases-loop-low l = l.high - l.low
