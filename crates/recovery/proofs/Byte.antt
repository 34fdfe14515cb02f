-- One byte at a time. At a fixed address a write sets the byte or leaves it. Undoing newest first gives a byte the old value of the
-- oldest record over it; redoing in order gives it the newest value. What holds at every byte holds of the lists.
use mathlib.Core.Path.{◌≡◌, refl, sym, ap, ◌∙◌}
use mathlib.Core.Logic.{◌⊎◌, inl, inr}
use mathlib.Core.Bool.{Bool, true, false, cond}
use mathlib.Core.Option.{Option, none, some}
use mathlib.Core.List.{List, [], ◌∷◌, ◌++◌}
use Prim.Native.Nat.{ℕ, suc, ◌+◌, ◌≤◌, ◌<◌}
use native.Mathlib.Omega.{arith}
use lib.Dec.{eqb}
use lib.ListN.{length, get_or, set}
use lib.Seq.{sets, length-sets, lt-length-set, get_or-set_same, get_or-set_other, ext_get_or}
use borrow.Author.Tests.{eqb-true, ne_eqb, eqb-false}
use Rattle.recovery.specs.Group.{Write, Group, committed, aborted}
use Rattle.recovery.specs.Lists.{has, or_else}
use Rattle.recovery.specs.Transaction.{Tx}
use Rattle.recovery.specs.Replay.{redo_all, undo_all, undo_each, replay, lay_bytes}
use Rattle.recovery.specs.Restart.{undo_of, undone, forward, recover}
use Rattle.recovery.proofs.Lists.{else_none, else_assoc}

-- a value to set, or nothing
abbrev pub act : Option ℕ → ℕ → ℕ
act none v = v
act (some b) v = b

pub act_else : (x y : Option ℕ) (v : ℕ) → act (or_else x y) v ≡ act x (act y v)
act_else none y v = refl
act_else (some b) y v = refl

-- what bytes from address i on, and a write, say at the address a
abbrev pub seen_at : ℕ → ℕ → List ℕ → Option ℕ
seen_at a i [] = none
seen_at a i (b ∷ bs) = cond (eqb a i) (some b) (seen_at a (suc i) bs)

abbrev pub seen : ℕ → Write → Option ℕ
seen a w = seen_at a w.addr w.bytes

abbrev pub lay_byte : ℕ → Write → ℕ → ℕ
lay_byte a w v = act (seen a w) v

abbrev pub oldest : ℕ → List Write → Option ℕ
oldest a [] = none
oldest a (w ∷ ws) = or_else (seen a w) (oldest a ws)

abbrev pub newest : ℕ → List Write → Option ℕ
newest a [] = none
newest a (w ∷ ws) = or_else (newest a ws) (seen a w)

pub undo_oldest : (a : ℕ) (ws : List Write) (v : ℕ) → undo_all (lay_byte a) ws v ≡ act (oldest a ws) v
undo_oldest a [] v = refl
undo_oldest a (w ∷ ws) v = ap (λ (x : ℕ). act (seen a w) x) (undo_oldest a ws v) ∙ sym (act_else (seen a w) (oldest a ws) v)

pub redo_newest : (a : ℕ) (ws : List Write) (v : ℕ) → redo_all (lay_byte a) ws v ≡ act (newest a ws) v
redo_newest a [] v = refl
redo_newest a (w ∷ ws) v = redo_newest a ws (act (seen a w) v) ∙ sym (act_else (newest a ws) (seen a w) v)

pub oldest_append : (a : ℕ) (us vs : List Write) → oldest a (us ++ vs) ≡ or_else (oldest a us) (oldest a vs)
oldest_append a [] vs = refl
oldest_append a (w ∷ us) vs = ap (or_else (seen a w)) (oldest_append a us vs) ∙ sym (else_assoc (seen a w) (oldest a us) (oldest a vs))

pub newest_append : (a : ℕ) (us vs : List Write) → newest a (us ++ vs) ≡ or_else (newest a vs) (newest a us)
newest_append a [] vs = else_none (newest a vs)
newest_append a (w ∷ us) vs = rw (newest_append a us vs) (else_assoc (newest a vs) (newest a us) (seen a w))

-- bytes say nothing outside their addresses
pub seen_out : (a i : ℕ) (bs : List ℕ) → (a < i) ⊎ (i + length bs ≤ a) → seen_at a i bs ≡ none
seen_out a i [] h = refl
seen_out a i (b ∷ bs) (inl h) = rw (ne_eqb a i (λ e. omega arith)) (seen_out a (suc i) bs (inl (omega arith)))
seen_out a i (b ∷ bs) (inr h) = rw (ne_eqb a i (λ e. omega arith)) (seen_out a (suc i) bs (inr (omega arith)))

-- a byte of a memory after a write

sets_at : (a : ℕ) (bs m : List ℕ) (i : ℕ) → a < length m → get_or (sets m i bs) a 0 ≡ act (seen_at a i bs) (get_or m a 0)
sets_at a [] m i h = refl
sets_at a (b ∷ bs) m i h = go (eqb a i) refl (sets_at a bs (set m i b) (suc i) (lt-length-set m i b h))
  where
    go : (c : Bool) → eqb a i ≡ c → get_or (sets (set m i b) (suc i) bs) a 0 ≡ act (seen_at a (suc i) bs) (get_or (set m i b) a 0)
        → get_or (sets m i (b ∷ bs)) a 0 ≡ act (seen_at a i (b ∷ bs)) (get_or m a 0)
    go true e ih =
        let p : a ≡ i = eqb-true a i e in
        let low : seen_at a (suc i) bs ≡ none = seen_out a (suc i) bs (inl (omega arith)) in
        let same : get_or (set m i b) a 0 ≡ b = rw p (get_or-set_same m i b 0 (rw p at h)) in
        ih ∙ rw (low, same, e)
    go false e ih = ih ∙ rw (e, get_or-set_other m i a b 0 (eqb-false a i e))

pub laid_byte : (a : ℕ) (w : Write) (m : List ℕ) → a < length m → get_or (lay_bytes w m) a 0 ≡ lay_byte a w (get_or m a 0)
laid_byte a w m h = sets_at a w.bytes m w.addr h

-- a relation between two memories that each single write keeps is kept by all of it
module _ {M N : Type 0} (layM : Write → M → M) (layN : Write → N → N) (Rel : M → N → Type 0)
    (step : (w : Write) (m : M) (n : N) → Rel m n → Rel (layM w m) (layN w n)) where
  pub rel_redo : (ws : List Write) (m : M) (n : N) → Rel m n → Rel (redo_all layM ws m) (redo_all layN ws n)
  rel_redo [] m n r = r
  rel_redo (w ∷ ws) m n r = rel_redo ws (layM w m) (layN w n) (step w m n r)

  pub rel_undo : (ws : List Write) (m : M) (n : N) → Rel m n → Rel (undo_all layM ws m) (undo_all layN ws n)
  rel_undo [] m n r = r
  rel_undo (w ∷ ws) m n r = step w (undo_all layM ws m) (undo_all layN ws n) (rel_undo ws m n r)

  rel_each : (ts : List Tx) (m : M) (n : N) → Rel m n → Rel (undo_each layM ts m) (undo_each layN ts n)
  rel_each [] m n r = r
  rel_each (t ∷ ts) m n r = rel_each ts (undo_all layM t.undo m) (undo_all layN t.undo n) (rel_undo t.undo m n r)

  pub rel_replay : (gs : List Group) (m : M) (n : N) → Rel m n → Rel (replay layM gs m) (replay layN gs n)
  rel_replay [] m n r = r
  rel_replay (committed i k ws ∷ gs) m n r = rel_replay gs (redo_all layM ws m) (redo_all layN ws n) (rel_redo ws m n r)
  rel_replay (aborted i ∷ gs) m n r = rel_replay gs m n r

  rel_cond : (b : Bool) (m m' : M) (n n' : N) → Rel m n → Rel m' n' → Rel (cond b m m') (cond b n n')
  rel_cond true m m' n n' r s = r
  rel_cond false m m' n n' r s = s

  rel_forward : (txs : List Tx) (gs : List Group) (f : List ℕ) (m : M) (n : N) → Rel m n → Rel (forward layM txs gs f m) (forward layN txs gs f n)
  rel_forward txs [] f m n r = r
  rel_forward txs (committed i k ws ∷ gs) f m n r = rel_forward txs gs (i ∷ f) (redo_all layM ws m) (redo_all layN ws n) (rel_redo ws m n r)
  rel_forward txs (aborted i ∷ gs) f m n r =
      let u : List Write = undo_of i txs in
      rel_forward txs gs (i ∷ f) (cond (has i f) m (undo_all layM u m)) (cond (has i f) n (undo_all layN u n))
      (rel_cond (has i f) m (undo_all layM u m) n (undo_all layN u n) r (rel_undo u m n r))

  pub rel_recover : (txs : List Tx) (d : ℕ) (gs : List Group) (m : M) (n : N) → Rel m n → Rel (recover layM txs d gs m) (recover layN txs d gs n)
  rel_recover txs d gs m n r = rel_each (undone txs d gs) (forward layM txs gs [] m) (forward layN txs gs [] n) (rel_forward txs gs [] m n r)

-- a memory of length k, and its byte at a
abbrev pub Shows : ℕ → ℕ → List ℕ → ℕ → Type 0
Shows k a m v = (length m ≡ k) × (a < k) × (get_or m a 0 ≡ v)

shows_step : (k a : ℕ) (w : Write) (m : List ℕ) (v : ℕ) → Shows k a m v → Shows k a (lay_bytes w m) (lay_byte a w v)
shows_step k a w m v r =
    (length-sets m w.addr w.bytes ∙ r.0, r.1, laid_byte a w m (rw r.0 r.1) ∙ ap (λ (x : ℕ). act (seen a w) x) r.2)

module _ (k : ℕ) (m : List ℕ) (lm : length m ≡ k) where
  abbrev Long : List ℕ → ℕ → Type 0
  Long l n = length l ≡ k

  long_step : (w : Write) (l : List ℕ) (n : ℕ) → Long l n → Long (lay_bytes w l) n
  long_step w l n e = length-sets l w.addr w.bytes ∙ e

  pub undo_length : (ws : List Write) → length (undo_all lay_bytes ws m) ≡ k
  undo_length ws = rel_undo lay_bytes (λ w n. n) Long long_step ws m k lm

  pub redo_length : (ws : List Write) → length (redo_all lay_bytes ws m) ≡ k
  redo_length ws = rel_redo lay_bytes (λ w n. n) Long long_step ws m k lm

  pub replay_length : (gs : List Group) → length (replay lay_bytes gs m) ≡ k
  replay_length gs = rel_replay lay_bytes (λ w n. n) Long long_step gs m k lm

  pub recover_length : (txs : List Tx) (d : ℕ) (gs : List Group) → length (recover lay_bytes txs d gs m) ≡ k
  recover_length txs d gs = rel_recover lay_bytes (λ w n. n) Long long_step txs d gs m k lm

  module _ (a : ℕ) (h : a < k) where
    pub undo_byte : (ws : List Write) → get_or (undo_all lay_bytes ws m) a 0 ≡ undo_all (lay_byte a) ws (get_or m a 0)
    undo_byte ws = (rel_undo lay_bytes (lay_byte a) (Shows k a) (shows_step k a) ws m (get_or m a 0) (lm, h, refl)).2

    pub redo_byte : (ws : List Write) → get_or (redo_all lay_bytes ws m) a 0 ≡ redo_all (lay_byte a) ws (get_or m a 0)
    redo_byte ws = (rel_redo lay_bytes (lay_byte a) (Shows k a) (shows_step k a) ws m (get_or m a 0) (lm, h, refl)).2

    pub replay_byte : (gs : List Group) → get_or (replay lay_bytes gs m) a 0 ≡ replay (lay_byte a) gs (get_or m a 0)
    replay_byte gs = (rel_replay lay_bytes (lay_byte a) (Shows k a) (shows_step k a) gs m (get_or m a 0) (lm, h, refl)).2

    pub recover_byte : (txs : List Tx) (d : ℕ) (gs : List Group) → get_or (recover lay_bytes txs d gs m) a 0 ≡ recover (lay_byte a) txs d gs (get_or m a 0)
    recover_byte txs d gs = (rel_recover lay_bytes (lay_byte a) (Shows k a) (shows_step k a) txs d gs m (get_or m a 0) (lm, h, refl)).2

-- what holds byte by byte holds of the lists
pub by_bytes : (k : ℕ) (txs : List Tx) (d : ℕ) (gs hs : List Group) (m base : List ℕ) → length m ≡ k → length base ≡ k
    → ((a : ℕ) → a < k → recover (lay_byte a) txs d gs (get_or m a 0) ≡ replay (lay_byte a) hs (get_or base a 0))
    → recover lay_bytes txs d gs m ≡ replay lay_bytes hs base
by_bytes k txs d gs hs m base lm lb h =
    let lr : length (recover lay_bytes txs d gs m) ≡ k = recover_length k m lm txs d gs in
    ext_get_or 0 (recover lay_bytes txs d gs m) (replay lay_bytes hs base) (lr ∙ sym (replay_length k base lb hs))
    (λ a l. let h' : a < k = rw lr at l in recover_byte k m lm a h' txs d gs ∙ (h a h' ∙ sym (replay_byte k base lb a h' hs)))
