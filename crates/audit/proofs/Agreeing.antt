-- A commit in the log is a durable transaction's, and the last group of its id.
use Prim.Native.Nat.{ℕ, ◌<◌}
use native.Mathlib.Omega.{arith}
use mathlib.Core.Bool.{Bool, true, false, cond}
use mathlib.Core.List.{List, [], ◌∷◌, Memᴰ}
use mathlib.Core.Option.{Option, none, some}
use mathlib.Core.Path.{◌≡◌, refl, sym, ap, ◌∙◌, subst}
use mathlib.Core.Logic.{◌≢◌}
use lib.ListN.{length, get_or, length-map}
use lib.Dec.{eqb}
use borrow.Author.Tests.{eqb-true, eq-eqb, ne_eqb}
use Rattle.recovery.specs.Group.{Group, committed, aborted, Write}
use Rattle.recovery.specs.Lists.{All, nil, cons, or_else}
use Rattle.recovery.specs.Restart.{group_id}
use Rattle.recovery.specs.Ledger.{Commit}
use Rattle.recovery.specs.Machine.{down, disk_of, opening_disk, opened}
use Rattle.recovery.specs.Claim.{commits}
use Rattle.recovery.proofs.Distinct.{Distinct, more, distinct_right}
use Rattle.recovery.proofs.Log.{standing_last}
use Rattle.recovery.proofs.Once.{groups_once}
use Rattle.redolog.proofs.Basics.{clash}
use Rattle.image.proofs.Lists.{map_at}
use Rattle.inspect.specs.Outcomes.{last_group, outcome_by, last_outcome, rising, OutcomesLeft, groups_on, walked_log}
use Rattle.inspect.proofs.Walking.{outcomes_done}
use Rattle.history.specs.Demand.{Watched, happen_all, opening}
use Rattle.history.proofs.OnDisk.{opens, fresh, fresh_shows}
use Rattle.history.proofs.Shows.{rests}
use Rattle.history.proofs.Theorem.{Reached, all_happen, log_shown, claimed}
use Rattle.audit.specs.{DurableLast, left_on, outcome_at, Agree, OutcomesAgree}

-- ---- a commit that is the last group of its id is among the log's commits

abbrev commit_of : ℕ → ℕ → List Write → Commit
commit_of i n ws = record { id = i; csn = n; writes = ws }

-- one group more in front
in_front : (g : Group) (gs : List Group) (c : Commit) → Memᴰ c (commits gs) → Memᴰ c (commits (g ∷ gs))
in_front (committed i n ws) gs c m = Memᴰ.tail m
in_front (aborted i) gs c m = m

last_in : (id : ℕ) (gs : List Group) (i n : ℕ) (ws : List Write) → last_group gs id ≡ some (committed i n ws)
    → (i ≡ id) × Memᴰ (commit_of i n ws) (commits gs)
last_in id [] i n ws e = clash (cc)
last_in id (g ∷ gs) i n ws e = go (last_group gs id) refl (eqb id (group_id g)) refl e (λ q. last_in id gs i n ws q)
  where
    front : (g : Group) → id ≡ group_id g → g ≡ committed i n ws → (i ≡ id) × Memᴰ (commit_of i n ws) (commits (g ∷ gs))
    front g own q =
        subst (λ (h : Group). id ≡ group_id h → (i ≡ id) × Memᴰ (commit_of i n ws) (commits (h ∷ gs))) (sym q) (λ e. (sym e, Memᴰ.head refl)) own

    go : (x : Option Group) → last_group gs id ≡ x → (b : Bool) → eqb id (group_id g) ≡ b → or_else x (cond b (some g) none) ≡ some (committed i n ws)
        → (last_group gs id ≡ some (committed i n ws) → (i ≡ id) × Memᴰ (commit_of i n ws) (commits gs))
        → (i ≡ id) × Memᴰ (commit_of i n ws) (commits (g ∷ gs))
    go (some h) p b t q f = let r = f (p ∙ q) in (r.0, in_front g gs _ r.1)
    go none p true t q f = front g (eqb-true id (group_id g) t) (cc)
    go none p false t q f = clash (cc)

-- ---- and where no id has two groups, every commit in the log is the last group of its id

none_last : (id : ℕ) {gs : List Group} → All (λ g. group_id g ≢ id) gs → last_group gs id ≡ none
none_last id nil = refl
none_last id (cons {x = g} n ns) = rw (none_last id ns, ne_eqb id (group_id g) (λ e. n (sym e)))

commit_last : (gs : List Group) → Distinct group_id gs → (c : Commit) → Memᴰ c (commits gs) → last_group gs c.id ≡ some (committed c.id c.csn c.writes)
commit_last [] d c m = elim m [ ]
commit_last (committed i n ws ∷ gs) (more h d) c (Memᴰ.head e) =
    subst (λ (x : Commit). last_group (committed i n ws ∷ gs) x.id ≡ some (committed x.id x.csn x.writes)) (sym e)
    (rw (none_last i h, eq-eqb i i refl))
commit_last (committed i n ws ∷ gs) (more h d) c (Memᴰ.tail m) = rw (commit_last gs d c m)
commit_last (aborted i ∷ gs) (more h d) c m = rw (commit_last gs d c m)

-- ---- on a store that demand 3's lists have reached

module _ (k : Watched) (r : Reached fresh k) where
  abbrev log : List Group
  log = groups_on k.world.disk

  logged : commits log ≡ k.ledger.durable
  logged = (claimed fresh k r).logged

  -- what stands in the log is a part of the history
  once : Distinct group_id log
  once =
      let (gone, whole) = standing_last (disk_of r.system) in
      subst (Distinct group_id) (sym (log_shown fresh k r)) (distinct_right gone (subst (Distinct group_id) whole (groups_once (opens fresh) r.run)))

  durable_last : (id : ℕ) → last_outcome log id ≡ 1 → DurableLast id k
  durable_last id e = go (last_group log id) refl
    where
      told : (x : Option Group) → last_group log id ≡ x → outcome_by x ≡ 1
      told x p = sym (ap outcome_by p) ∙ e

      go : (x : Option Group) → last_group log id ≡ x → DurableLast id k
      go none p = absurd (omega (arith, told none p))
      go (some (aborted i)) p = absurd (omega (arith, told (some (aborted i)) p))
      go (some (committed i n ws)) p =
          let m = last_in id log i n ws p in
          record { commit = commit_of i n ws; own = m.0; last = p; durable = subst (Memᴰ (commit_of i n ws)) logged m.1 }

  last_told : (id : ℕ) → DurableLast id k → last_outcome log id ≡ 1
  last_told id d = ap outcome_by d.last

  -- a durable transaction has its commit in the log, and no group after it
  durable_told : (c : Commit) → Memᴰ c k.ledger.durable → last_outcome log c.id ≡ 1
  durable_told c m = ap outcome_by (commit_last log once c (subst (Memᴰ c) (sym logged) m))

  module _ (ids out : List ℕ) (rises : rising ids ≡ true) (long : length out ≡ length ids) where
    walks : left_on k ids out ≡ walked_log log ids
    walks = outcomes_done k.world.disk ids out r.shows.0.long (sym long) rises

    at : (i : ℕ) → i < length ids → outcome_at k ids out i ≡ last_outcome log (get_or ids i 0)
    at i h = ap (λ (x : OutcomesLeft). get_or x.outcomes i 0) walks ∙ map_at (last_outcome log) ids i 0 0 h

    agrees : Agree k ids out
    agrees = record {
      walked = ap (λ (x : OutcomesLeft). x.result.says) walks;
      counted = ap (λ (x : OutcomesLeft). x.result.groups) walks;
      places = ap (λ (x : OutcomesLeft). length x.outcomes) walks ∙ length-map ids (last_outcome log);
      sound = λ i h e. durable_last (get_or ids i 0) (sym (at i h) ∙ e);
      complete = λ i h d. at i h ∙ last_told (get_or ids i 0) d;
      durable = λ i h c m e. at i h ∙ ap (last_outcome log) (sym e) ∙ durable_told c m;
    }

pub outcomes_agree : OutcomesAgree
outcomes_agree memory tail lm lt hs ids out rises long =
    agrees (happen_all hs (opening memory tail))
    (all_happen fresh hs (opening memory tail)
    (record { system = down (opening_disk (opens fresh)); run = opened; shows = (fresh_shows, rests (record { memory = lm; tail = lt; state = refl })) }))
    ids out rises long
