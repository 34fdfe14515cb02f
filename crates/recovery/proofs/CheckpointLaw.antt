-- The checkpoint law: an image taken at any moment, with any first part of the groups that were in the tail then, recovers to the
-- replay of the commits among them. At one byte.
use mathlib.Core.Path.{◌≡◌, refl, sym, ap, ◌∙◌, subst}
use mathlib.Core.Logic.{◌⊎◌, inl, inr}
use mathlib.Core.Bool.{Bool, true, false, cond}
use mathlib.Core.Option.{Option, none, some}
use mathlib.Core.List.{List, [], ◌∷◌, ◌++◌, reverse, reverse-cons}
use Prim.Native.Nat.{ℕ}
use Rattle.recovery.specs.Group.{Write, Group, committed, aborted}
use Rattle.recovery.specs.Lists.{All, cons, has, or_else}
use Rattle.recovery.specs.Transaction.{Tx, running}
use Rattle.recovery.specs.Replay.{redo_all, undo_all, undo_each, replay}
use Rattle.recovery.specs.Restart.{forward, recover}
use Rattle.recovery.proofs.Lists.{all_left}
use Rattle.recovery.proofs.Transactions.{lookup_none}
use Rattle.recovery.proofs.Groups.{replay_append, undo_each_append}
use Rattle.recovery.proofs.Byte.{act, act_else, oldest, newest, undo_oldest, redo_newest, lay_byte}
use Rattle.recovery.proofs.LiveByte.{Restores, neither, both, RunningAt, undo_running}
use Rattle.recovery.proofs.TailFit.{Foreign, Fit, late, undone_late}

-- The commits of the groups are those of the transactions, each of which would undo its commit at the byte a, whose value before is x.
pub data Undoes (a : ℕ) : ℕ → List Group → List Tx → Type 0 where
  undoes_nil : {x : ℕ} → Undoes a x [] []
  undoes_abort : {x i : ℕ} {gs : List Group} {cs : List Tx} → Undoes a x gs cs → Undoes a x (aborted i ∷ gs) cs
  undoes_commit : {x i n : ℕ} {ws : List Write} {gs : List Group} {c : Tx} {cs : List Tx} → Restores x (oldest a c.undo) (newest a ws)
      → Undoes a (act (newest a ws) x) gs cs → Undoes a x (committed i n ws ∷ gs) (c ∷ cs)

pub undoes_late : {a : ℕ} (P : List Group) {x : ℕ} {U : List Group} {cs : List Tx} → Undoes a x (P ++ U) cs → Undoes a (replay (lay_byte a) P x) U (late P cs)
undoes_late [] u = u
undoes_late (aborted i ∷ P) (undoes_abort u) = undoes_late P u
undoes_late {a} (committed i n ws ∷ P) {x} (undoes_commit r u) = rw (redo_newest a ws x) (undoes_late P u)

-- one more group

pub undoes_one_commit : {a x : ℕ} {T : List Group} {cs : List Tx} (i n : ℕ) (ws : List Write) (c : Tx) → Undoes a x T cs
    → Restores (replay (lay_byte a) T x) (oldest a c.undo) (newest a ws) → Undoes a x (T ++ (committed i n ws ∷ [])) (cs ++ (c ∷ []))
undoes_one_commit i n ws c undoes_nil r = undoes_commit r undoes_nil
undoes_one_commit i n ws c (undoes_abort u) r = undoes_abort (undoes_one_commit i n ws c u r)
undoes_one_commit {a} {x} i n ws c (undoes_commit {ws = vs} {gs} r' u) r =
    undoes_commit r' (undoes_one_commit i n ws c u
    (subst (λ (v : ℕ). Restores (replay (lay_byte a) gs v) (oldest a c.undo) (newest a ws)) (redo_newest a vs x) r))

pub undoes_one_abort : {a x : ℕ} {T : List Group} {cs : List Tx} (i : ℕ) → Undoes a x T cs → Undoes a x (T ++ (aborted i ∷ [])) cs
undoes_one_abort i undoes_nil = undoes_abort undoes_nil
undoes_one_abort i (undoes_abort u) = undoes_abort (undoes_one_abort i u)
undoes_one_abort i (undoes_commit r u) = undoes_commit r (undoes_one_abort i u)

-- undoing commits, the last first

undo_last_first : {M : Type 0} (lay : Write → M → M) (c : Tx) (cs : List Tx) (m : M)
    → undo_each lay (reverse (c ∷ cs)) m ≡ undo_all lay c.undo (undo_each lay (reverse cs) m)
undo_last_first lay c cs m = rw (reverse-cons, undo_each_append lay (reverse cs) (c ∷ []) m)

-- from the replayed value it goes back
undo_back : {a x : ℕ} {gs : List Group} {cs : List Tx} → Undoes a x gs cs → undo_each (lay_byte a) (reverse cs) (replay (lay_byte a) gs x) ≡ x
undo_back undoes_nil = refl
undo_back (undoes_abort u) = undo_back u
undo_back {a} {x} (undoes_commit {ws} {gs} {c} {cs} r u) =
    undo_last_first (lay_byte a) c cs (replay (lay_byte a) gs (redo_all (lay_byte a) ws x))
    ∙ rw (redo_newest a ws x, undo_back u, undo_oldest a c.undo) (back r)
  where
    back : {o n : Option ℕ} → Restores x o n → act o (act n x) ≡ x
    back neither = refl
    back both = refl

-- from the old value it stays there
undo_stay : {a x : ℕ} {gs : List Group} {cs : List Tx} → Undoes a x gs cs → undo_each (lay_byte a) (reverse cs) x ≡ x
undo_stay undoes_nil = refl
undo_stay (undoes_abort u) = undo_stay u
undo_stay {a} {x} (undoes_commit {c} {cs} r u) =
    undo_last_first (lay_byte a) c cs x ∙ (undo_oldest a c.undo (undo_each (lay_byte a) (reverse cs) x) ∙ stay r (undo_stay u))
  where
    stay : {o n : Option ℕ} → Restores x o n → undo_each (lay_byte a) (reverse cs) (act n x) ≡ act n x → act o (undo_each (lay_byte a) (reverse cs) x) ≡ x
    stay neither e = e
    stay both e = refl

-- what the commits among the groups say at the byte
abbrev redone : ℕ → List Group → Option ℕ
redone a [] = none
redone a (committed i n ws ∷ gs) = or_else (redone a gs) (newest a ws)
redone a (aborted i ∷ gs) = redone a gs

replay_redone : (a : ℕ) (gs : List Group) (v : ℕ) → replay (lay_byte a) gs v ≡ act (redone a gs) v
replay_redone a [] v = refl
replay_redone a (committed i n ws ∷ gs) v = rw (redo_newest a ws v, replay_redone a gs, act_else)
replay_redone a (aborted i ∷ gs) v = replay_redone a gs v

-- P replayed over the image's byte, then the running ones undone, then the commits that are not in P
undo_both : (a base mem : ℕ) (P U : List Group) (rs cs : List Tx) → Undoes a (replay (lay_byte a) P base) U cs
    → RunningAt a (replay (lay_byte a) U (replay (lay_byte a) P base)) mem rs
    → undo_each (lay_byte a) (reverse cs) (undo_each (lay_byte a) rs (replay (lay_byte a) P mem)) ≡ replay (lay_byte a) P base
undo_both a base mem P U rs cs u h = go (undo_running a (replay (lay_byte a) U x) mem h)
  where
    x : ℕ
    x = replay (lay_byte a) P base

    last : ℕ → ℕ
    last v = undo_each (lay_byte a) (reverse cs) v

    free : (o : Option ℕ) → redone a P ≡ o → mem ≡ replay (lay_byte a) U x → last (replay (lay_byte a) P mem) ≡ x
    free none e m =
        let same : replay (lay_byte a) P mem ≡ replay (lay_byte a) U x = replay_redone a P mem ∙ rw e m in
        ap last same ∙ undo_back u
    free (some b) e m =
        let both-b : act (redone a P) mem ≡ act (redone a P) base = rw e in
        let same : replay (lay_byte a) P mem ≡ x = replay_redone a P mem ∙ (both-b ∙ sym (replay_redone a P base)) in
        ap last same ∙ undo_stay u

    go : ((v : ℕ) → undo_each (lay_byte a) rs v ≡ replay (lay_byte a) U x) ⊎ (((v : ℕ) → undo_each (lay_byte a) rs v ≡ v) × (mem ≡ replay (lay_byte a) U x))
        → last (undo_each (lay_byte a) rs (replay (lay_byte a) P mem)) ≡ x
    go (inl k) = ap last (k (replay (lay_byte a) P mem)) ∙ undo_back u
    go (inr k) = ap last (k.0 (replay (lay_byte a) P mem)) ∙ free (redone a P) refl k.1

-- going forward over groups whose aborts are of no transaction of the image is replaying them
forward_replay : {M : Type 0} (lay : Write → M → M) (txs : List Tx) (P : List Group) (f : List ℕ) (m : M) → All (Foreign txs) P
    → forward lay txs P f m ≡ replay lay P m
forward_replay lay txs [] f m s = refl
forward_replay lay txs (committed i n ws ∷ gs) f m (cons h hs) = forward_replay lay txs gs (i ∷ f) (redo_all lay ws m) hs
forward_replay {M = M} lay txs (aborted i ∷ gs) f m (cons h hs) =
    ap (λ (x : M). forward lay txs gs (i ∷ f) x) (rw (lookup_none h) (either (has i f))) ∙ forward_replay lay txs gs (i ∷ f) m hs
  where
    either : (b : Bool) → cond b m m ≡ m
    either true = refl
    either false = refl

pub checkpoint_law : (a base mem : ℕ) (txs : List Tx) (d : ℕ) (P U : List Group) (cs : List Tx) → Fit txs d (P ++ U) cs → Undoes a base (P ++ U) cs
    → RunningAt a (replay (lay_byte a) (P ++ U) base) mem (running txs) → recover (lay_byte a) txs d P mem ≡ replay (lay_byte a) P base
checkpoint_law a base mem txs d P U cs fit u h =
    let step3 : forward (lay_byte a) txs P [] mem ≡ replay (lay_byte a) P mem = forward_replay (lay_byte a) txs P [] mem (all_left P U fit.foreign) in
    rw (undone_late txs d P U cs fit, step3, undo_each_append (lay_byte a) (running txs) (reverse (late P cs)) (replay (lay_byte a) P mem))
    (undo_both a base mem P U (running txs) (late P cs) (undoes_late P u) (rw (replay_append (lay_byte a) P U base) at h))
