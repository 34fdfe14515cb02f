-- What document 02's A.8 comes to on demand 3's lists: what a restart keeps and what the office is told agree. The walk is done for every rising list of
-- ids, and of each it tells 1 exactly if the last group of that id is the commit of a durable transaction; and of every durable one it tells 1.
use Rattle.std.specs.Prelude.{ℕ, ◌<◌, true, ◌≡◌, length, get_or}
use mathlib.Core.List.{List, Memᴰ}
use Rattle.std.proofs.Math.Option.{some}
use Rattle.recovery.specs.Group.{committed}
use Rattle.recovery.specs.Ledger.{Commit}
use Rattle.store.specs.Answer.{done}
use Rattle.inspect.specs.Outcomes.{last_group, rising, OutcomesLeft, groups_on, outcomes_of}
use Rattle.history.specs.Demand.{Happening, Watched, happen_all, opening}

-- the last group of an id is the commit of a transaction of that id which the ledger has as durable (document 01: kept)
pub record DurableLast (id : ℕ) (k : Watched) : Type 0 where
  pub commit : Commit
  pub own : commit.id ≡ id
  pub last : last_group (groups_on k.world.disk) id ≡ some (committed commit.id commit.csn commit.writes)
  pub durable : Memᴰ commit k.ledger.durable

-- what is told of a list of ids, and left of a list of outcomes, on the disk of a store
abbrev pub left_on : Watched → List ℕ → List ℕ → OutcomesLeft
left_on k ids out = outcomes_of k.world.disk ids out

-- in the place i of the list of outcomes
abbrev pub outcome_at : Watched → List ℕ → List ℕ → ℕ → ℕ
outcome_at k ids out i = get_or (left_on k ids out).outcomes i 0

-- of a store and its ledger
pub record Agree (k : Watched) (ids out : List ℕ) : Type 0 where
  -- it isn't refused; all groups of the log are walked, and each id has its place
  pub walked : (left_on k ids out).result.says ≡ done
  pub counted : (left_on k ids out).result.groups ≡ length (groups_on k.world.disk)
  pub places : length (left_on k ids out).outcomes ≡ length ids
  -- 1 exactly if the last group of the id is a durable transaction's commit
  pub sound : (i : ℕ) → i < length ids → outcome_at k ids out i ≡ 1 → DurableLast (get_or ids i 0) k
  pub complete : (i : ℕ) → i < length ids → DurableLast (get_or ids i 0) k → outcome_at k ids out i ≡ 1
  -- and 1 of every durable transaction: no group of its id comes after its commit
  pub durable : (i : ℕ) → i < length ids → (c : Commit) → Memᴰ c k.ledger.durable → c.id ≡ get_or ids i 0 → outcome_at k ids out i ≡ 1

-- after every list of calls and failures of the current, for every rising list of ids and every list of outcomes of its length
abbrev pub OutcomesAgree : Type 0
OutcomesAgree =
    (memory tail : List ℕ) → length memory ≡ 4096 → length tail ≡ 16384 → (hs : List Happening) (ids out : List ℕ)
    → rising ids ≡ true → length out ≡ length ids → Agree (happen_all hs (opening memory tail)) ids out
