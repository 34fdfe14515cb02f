-- What the contracts of the inner functions cite: a search in the list of ids, an outcome noted, and single turns of the walk. `outcomes_of` has none of it.
use Rattle.std.specs.Prelude.{ℕ, ◌+◌, ◌<◌, ◌≡◌, cond, List, [], ◌∷◌, length, get_or, drop, eqb, Option as Maybe, Some, None}
use Rattle.std.proofs.Math.Option.{Option, none, some}
use Rattle.recovery.specs.Group.{Group, group_size}
use Rattle.recovery.specs.Restart.{group_id}
use Rattle.redolog.specs.Group.{group_with}
use Rattle.redolog.specs.Log.{next_after}
use Rattle.inspect.specs.declared.outcomes.Walk.{Walk}
use Rattle.inspect.specs.declared.outcomes.Passed.{Passed}
use Rattle.inspect.specs.Outcomes.{outcome_of}

-- the id stands there, or nowhere
abbrev pub FoundAs : List ℕ → ℕ → Maybe ℕ → Type 0
FoundAs ids id (Some i) = (i < length ids) × (get_or ids i 0 ≡ id)
FoundAs ids id None = (i : ℕ) → i < length ids → get_or ids i 0 ≡ id → ⊥

-- f of each id and what stands in its place
abbrev pub beside : (ℕ → ℕ → ℕ) → List ℕ → List ℕ → List ℕ
beside f [] out = []
beside f (i ∷ ids) [] = []
beside f (i ∷ ids) (x ∷ out) = f i x ∷ beside f ids out

abbrev pub noted_at : ℕ → ℕ → ℕ → ℕ → ℕ
noted_at id outcome i x = cond (eqb i id) outcome x

-- an outcome in the place of its id, if the list has it
unfoldable pub noted_in : List ℕ → ℕ → ℕ → List ℕ → List ℕ
noted_in ids id outcome out = beside (noted_at id outcome) ids out

-- ---- one group

abbrev pub group_at : List ℕ → Walk → Option Group
group_at log w = group_with w.next (drop w.at log)

abbrev pub past_group : Group → Walk → Walk
past_group g w = record { at = w.at + group_size g; next = next_after w.next g; groups = w.groups + 1 }

-- the group, as the code hands it on
abbrev pub passed_by : Option Group → Walk → Maybe Passed
passed_by none w = None
passed_by (some g) w = Some (record { id = record { 0 = group_id g }; outcome = outcome_of g; walk = past_group g w })

-- ---- all groups, one after the other

abbrev pub walked_over : List ℕ → List Group → List ℕ → List ℕ
walked_over ids [] out = out
walked_over ids (g ∷ gs) out = walked_over ids gs (noted_in ids (group_id g) (outcome_of g) out)
