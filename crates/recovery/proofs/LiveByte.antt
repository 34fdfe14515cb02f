-- The live store at one byte: no two running transactions hold it, and what undoing, committing or aborting one of them does to it.
use mathlib.Core.Path.{◌≡◌, refl, ap, ◌∙◌}
use mathlib.Core.Logic.{◌≢◌, ◌⊎◌, inl, inr}
use mathlib.Core.Option.{Option, none, some}
use mathlib.Core.List.{List, [], ◌∷◌, ◌++◌}
use Prim.Native.Nat.{ℕ}
use Rattle.recovery.specs.Group.{Write}
use Rattle.recovery.specs.Lists.{All, nil, cons, or_else}
use Rattle.recovery.specs.Transaction.{Tx}
use Rattle.recovery.specs.Replay.{undo_all, undo_each}
use Rattle.recovery.specs.Machine.{with_write, with_savepoint}
use Rattle.recovery.proofs.Bool.{some_none}
use Rattle.recovery.proofs.Lists.{all_map, all_here, all_less, all_more, all_edit}
use Rattle.recovery.proofs.Byte.{act, seen, lay_byte, oldest, newest, undo_oldest, oldest_append, newest_append}

-- the transaction has no undo record over the byte
abbrev pub Still : ℕ → Tx → Type 0
Still a t = oldest a t.undo ≡ none

pub undo_still : (a : ℕ) {ts : List Tx} (v : ℕ) → All (Still a) ts → undo_each (lay_byte a) ts v ≡ v
undo_still a v nil = refl
undo_still a v (cons {x = t} q qs) = undo_still a (undo_all (lay_byte a) t.undo v) qs ∙ (undo_oldest a t.undo v ∙ ap (λ (o : Option ℕ). act o v) q)

-- it has no record over the byte
abbrev pub Quiet : ℕ → Tx → Type 0
Quiet a r = (oldest a r.undo ≡ none) × (newest a r.redo ≡ none)

-- The running transactions at the byte a, whose value is x by the commits and mem in memory: none has a record over it, and it is x; or
-- one has, whose oldest undo value is x and whose newest redo value is mem, and no other has.
pub data RunningAt (a x mem : ℕ) : List Tx → Type 0 where
  nobody : mem ≡ x → RunningAt a x mem []
  passes : {r : Tx} {rs : List Tx} → Quiet a r → RunningAt a x mem rs → RunningAt a x mem (r ∷ rs)
  holds : {r : Tx} {rs : List Tx} → oldest a r.undo ≡ some x → newest a r.redo ≡ some mem → All (Quiet a) rs → RunningAt a x mem (r ∷ rs)

-- the same of one transaction and the others
pub data Side (a x mem : ℕ) (r : Tx) (others : List Tx) : Type 0 where
  off : Quiet a r → RunningAt a x mem others → Side a x mem r others
  on : oldest a r.undo ≡ some x → newest a r.redo ≡ some mem → All (Quiet a) others → Side a x mem r others

module _ (a x mem : ℕ) where
  quiet_running : {rs : List Tx} → mem ≡ x → All (Quiet a) rs → RunningAt a x mem rs
  quiet_running e nil = nobody e
  quiet_running e (cons q qs) = passes q (quiet_running e qs)

  quiet_memory : {rs : List Tx} → All (Quiet a) rs → RunningAt a x mem rs → mem ≡ x
  quiet_memory nil (nobody e) = e
  quiet_memory (cons q qs) (passes k h) = quiet_memory qs h
  quiet_memory (cons q qs) (holds o n k) = absurd (some_none o q.0)

  pub put_off : (xs : List Tx) (r : Tx) (ys : List Tx) → Quiet a r → RunningAt a x mem (xs ++ ys) → RunningAt a x mem (xs ++ r ∷ ys)
  put_off [] r ys q h = passes q h
  put_off (t ∷ xs) r ys q (passes k h) = passes k (put_off xs r ys q h)
  put_off (t ∷ xs) r ys q (holds o n k) = holds o n (all_more xs r ys q k)

  -- savepoints are no records
  pub savepoint_byte : (name : ℕ) (xs : List Tx) (r : Tx) (ys : List Tx) → RunningAt a x mem (xs ++ r ∷ ys)
      → RunningAt a x mem (xs ++ with_savepoint name r ∷ ys)
  savepoint_byte name [] r ys (passes k h) = passes k h
  savepoint_byte name [] r ys (holds o n k) = holds o n k
  savepoint_byte name (t ∷ xs) r ys (passes k h) = passes k (savepoint_byte name xs r ys h)
  savepoint_byte name (t ∷ xs) r ys (holds o n k) = holds o n (all_edit xs r (with_savepoint name r) ys (λ q. q) k)

  put_on : (xs : List Tx) (r : Tx) (ys : List Tx) → oldest a r.undo ≡ some x → newest a r.redo ≡ some mem → All (Quiet a) (xs ++ ys)
      → RunningAt a x mem (xs ++ r ∷ ys)
  put_on [] r ys o n q = holds o n q
  put_on (t ∷ xs) r ys o n (cons q qs) = passes q (put_on xs r ys o n qs)

  pub side : (xs : List Tx) (r : Tx) (ys : List Tx) → RunningAt a x mem (xs ++ r ∷ ys) → Side a x mem r (xs ++ ys)
  side [] r ys (passes k h) = off k h
  side [] r ys (holds o n k) = on o n k
  side (t ∷ xs) r ys (passes k h) = further (side xs r ys h)
    where
      further : Side a x mem r (xs ++ ys) → Side a x mem r (t ∷ xs ++ ys)
      further (off q h') = off q (passes k h')
      further (on o n q) = on o n (cons k q)
  side (t ∷ xs) r ys (holds o n k) = off (all_here xs r ys k) (holds o n (all_less xs r ys k))

  -- where no other has a record over the byte, memory has the newest value of r, or that of the commits
  pub own_byte : (xs : List Tx) (r : Tx) (ys : List Tx) → RunningAt a x mem (xs ++ r ∷ ys) → All (Quiet a) (xs ++ ys) → mem ≡ act (newest a r.redo) x
  own_byte xs r ys h q = go (side xs r ys h)
    where
      go : Side a x mem r (xs ++ ys) → mem ≡ act (newest a r.redo) x
      go (off k h') = rw k.1 (quiet_memory q h')
      go (on o n k) = rw n refl

  -- where r has an undo record over the byte, no other has one
  pub own_alone : (xs : List Tx) (r : Tx) (ys : List Tx) → RunningAt a x mem (xs ++ r ∷ ys) → oldest a r.undo ≢ none → All (Quiet a) (xs ++ ys)
  own_alone xs r ys h s = go (side xs r ys h)
    where
      go : Side a x mem r (xs ++ ys) → All (Quiet a) (xs ++ ys)
      go (off k h') = absurd (s k.0)
      go (on o n k) = k

  -- where another has a redo record over the byte, r has none
  pub others_alone : (xs : List Tx) (r : Tx) (ys : List Tx) → RunningAt a x mem (xs ++ r ∷ ys)
      → All (λ t. newest a t.redo ≢ none → newest a r.redo ≡ none) (xs ++ ys)
  others_alone xs r ys h = go (side xs r ys h)
    where
      each : (ts : List Tx) → newest a r.redo ≡ none → All (λ t. newest a t.redo ≢ none → newest a r.redo ≡ none) ts
      each [] e = nil
      each (t ∷ ts) e = cons {x = t} (λ _. e) (each ts e)

      go : Side a x mem r (xs ++ ys) → All (λ t. newest a t.redo ≢ none → newest a r.redo ≡ none) (xs ++ ys)
      go (off k h') = each (xs ++ ys) k.1
      go (on o n k) = all_map (λ t q s. absurd (s q.1)) k

  -- a transaction without an undo record over the byte has no redo record there either
  pub quiet_by_undo : {rs : List Tx} → RunningAt a x mem rs → All (λ r. oldest a r.undo ≡ none → Quiet a r) rs
  quiet_by_undo (nobody e) = nil
  quiet_by_undo (passes k h) = cons (λ _. k) (quiet_by_undo h)
  quiet_by_undo (holds o n k) = cons (λ e. absurd (some_none o e)) (all_map (λ r q _. q) k)

  -- undoing them all gives x; or none has a record over the byte, which is x
  pub undo_running : {rs : List Tx} → RunningAt a x mem rs → ((v : ℕ) → undo_each (lay_byte a) rs v ≡ x) ⊎ (((v : ℕ) → undo_each (lay_byte a) rs v ≡ v) × (mem ≡ x))
  undo_running (nobody e) = inr (λ v. refl, e)
  undo_running (passes {r} {rs} k h) = further (undo_running h)
    where
      further : ((v : ℕ) → undo_each (lay_byte a) rs v ≡ x) ⊎ (((v : ℕ) → undo_each (lay_byte a) rs v ≡ v) × (mem ≡ x))
          → ((v : ℕ) → undo_each (lay_byte a) (r ∷ rs) v ≡ x) ⊎ (((v : ℕ) → undo_each (lay_byte a) (r ∷ rs) v ≡ v) × (mem ≡ x))
      further (inl f) = inl (λ v. f (undo_all (lay_byte a) r.undo v))
      further (inr p) = inr (λ v. p.0 (undo_all (lay_byte a) r.undo v) ∙ undo_still _ v (cons {x = r} k.0 nil), p.1)
  undo_running (holds {r} o n k) =
      inl (λ v. undo_still a (undo_all (lay_byte a) r.undo v) (all_map (λ t q. q.0) k) ∙ (undo_oldest a r.undo v ∙ ap (λ (q : Option ℕ). act q v) o))

-- A redo and an undo value at a byte, whose value before was x: both leave it, or the undo puts x back.
pub data Restores (x : ℕ) : Option ℕ → Option ℕ → Type 0 where
  neither : Restores x none none
  both : {b : ℕ} → Restores x (some x) (some b)

-- precommit: the commit becomes part of what the byte should be, and undoing it would put the old value back
pub precommit_byte : (a x mem : ℕ) (xs : List Tx) (r : Tx) (ys : List Tx) → RunningAt a x mem (xs ++ r ∷ ys)
    → RunningAt a (act (newest a r.redo) x) mem (xs ++ ys) × Restores x (oldest a r.undo) (newest a r.redo)
precommit_byte a x mem xs r ys h = go (side a x mem xs r ys h)
  where
    go : Side a x mem r (xs ++ ys) → RunningAt a (act (newest a r.redo) x) mem (xs ++ ys) × Restores x (oldest a r.undo) (newest a r.redo)
    go (off q k) = (rw q.1 k, rw (q.0, q.1) neither)
    go (on o n q) = (rw n (quiet_running a mem mem refl q), rw (o, n) both)

-- abort: the byte goes back
pub abort_byte : (a x mem : ℕ) (xs : List Tx) (r : Tx) (ys : List Tx) → RunningAt a x mem (xs ++ r ∷ ys)
    → RunningAt a x (undo_all (lay_byte a) r.undo mem) (xs ++ ys)
abort_byte a x mem xs r ys h = rw (undo_oldest a r.undo mem) (go (side a x mem xs r ys h))
  where
    go : Side a x mem r (xs ++ ys) → RunningAt a x (act (oldest a r.undo) mem) (xs ++ ys)
    go (off q k) = rw q.0 k
    go (on o n q) = rw o (quiet_running a x x refl q)

-- what a write of the old bytes u and the new ones w says at a byte: nothing, or it keeps the old value and lays the new one where no other
-- transaction has a record
pub data Touch (a mem mem' : ℕ) (u w : Write) (others : List Tx) : Type 0 where
  miss : seen a u ≡ none → seen a w ≡ none → mem' ≡ mem → Touch a mem mem' u w others
  hit : seen a u ≡ some mem → seen a w ≡ some mem' → All (Quiet a) others → Touch a mem mem' u w others

pub write_byte : (a x mem mem' : ℕ) (xs : List Tx) (r : Tx) (ys : List Tx) (u w : Write) → RunningAt a x mem (xs ++ r ∷ ys)
    → Touch a mem mem' u w (xs ++ ys) → RunningAt a x mem' (xs ++ with_write u w r ∷ ys)
write_byte a x mem mem' xs r ys u w h t = go (side a x mem xs r ys h) t
  where
    undo' : oldest a (r.undo ++ (u ∷ [])) ≡ or_else (oldest a r.undo) (or_else (seen a u) none)
    undo' = oldest_append a r.undo (u ∷ [])

    redo' : newest a (r.redo ++ (w ∷ [])) ≡ or_else (seen a w) (newest a r.redo)
    redo' = newest_append a r.redo (w ∷ [])

    go : Side a x mem r (xs ++ ys) → Touch a mem mem' u w (xs ++ ys) → RunningAt a x mem' (xs ++ with_write u w r ∷ ys)
    go (off q k) (miss p p' e) = put_off a x mem' xs (with_write u w r) ys (undo' ∙ rw (q.0, p), redo' ∙ rw (p', q.1)) (rw e k)
    go (off q k) (hit p p' z) =
        let e : mem ≡ x = quiet_memory a x mem z k in
        put_on a x mem' xs (with_write u w r) ys (undo' ∙ rw (q.0, p) (ap some e)) (redo' ∙ rw p') z
    go (on o n q) (miss p p' e) = put_on a x mem' xs (with_write u w r) ys (undo' ∙ rw o) (redo' ∙ rw (p', n, e)) q
    go (on o n q) (hit p p' z) = put_on a x mem' xs (with_write u w r) ys (undo' ∙ rw o) (redo' ∙ rw p') z
