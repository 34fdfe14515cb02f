-- The old bytes of writes, one after the other: where two memories agree, and what going back to a place takes back.
use mathlib.Core.Path.{◌≡◌, refl, sym, ap, ◌∙◌}
use mathlib.Core.Logic.{◌≢◌}
use mathlib.Core.Bool.{Bool, true, false}
use mathlib.Core.Option.{Option, none}
use mathlib.Core.List.{List, [], ◌∷◌, ◌++◌}
use Prim.Native.Nat.{ℕ, zero, suc, ◌+◌, ◌≤◌, ◌<◌}
use native.Mathlib.Omega.{arith}
use lib.Dec.{eqb}
use lib.ListN.{length, get_or, take, drop, length-drop}
use lib.Seq.{length-sets, get_or-take, get_or-drop, length-take-le, ext_get_or}
use borrow.Author.Tests.{eqb-false}
use Rattle.recovery.specs.Group.{Write}
use Rattle.recovery.specs.Lists.{All, nil, cons}
use Rattle.recovery.specs.Transaction.{Tx}
use Rattle.recovery.specs.Replay.{redo_all, lay_bytes, old_bytes, olds_of}
use Rattle.recovery.proofs.Bool.{some_none}
use Rattle.recovery.proofs.Lists.{else_some, else_next, all_map}
use Rattle.recovery.proofs.Byte.{act, seen, seen_at, oldest, newest, oldest_append, redo_newest, laid_byte, redo_length, redo_byte}

-- number 8: the range lies in a memory of k bytes
abbrev pub Within : ℕ → Write → Type 0
Within k w = w.addr + length w.bytes ≤ k

-- there is a record over each byte of the range
abbrev pub Covers : List Write → Write → Type 0
Covers us w = (a : ℕ) → seen a w ≢ none → oldest a us ≢ none

pub covers_more : (us vs : List Write) (w : Write) → Covers us w → Covers (us ++ vs) w
covers_more us vs w c a s e = else_some (oldest a us) (oldest a vs) (c a s) (sym (oldest_append a us vs) ∙ e)

-- records cover their own ranges
pub covers_own : (us : List Write) → All (Covers us) us
covers_own [] = nil
covers_own (u ∷ us) =
    cons {x = u} (λ a s. else_some (seen a u) (oldest a us) s) (all_map (λ w c a s. else_next (seen a u) (oldest a us) (c a s)) (covers_own us))

pub seen_inside : (a i : ℕ) (bs : List ℕ) → i ≤ a → a < i + length bs → seen_at a i bs ≢ none
seen_inside a i [] l h e = omega arith
seen_inside a i (b ∷ bs) l h e = go (eqb a i) refl (λ p. seen_inside a (suc i) bs (omega arith) (omega arith))
  where
    go : (c : Bool) → eqb a i ≡ c → (a ≢ i → seen_at a (suc i) bs ≢ none) → ⊥
    go true p f = some_none {x = b} refl (rw p at e)
    go false p f = f (eqb-false a i p) (rw p at e)

module _ (k : ℕ) where
  -- old bytes are as many as the new ones
  pub old_length : (w : Write) (m : List ℕ) → length m ≡ k → Within k w → length (old_bytes w m).bytes ≡ length w.bytes
  old_length w m l h = length-take-le (length w.bytes) (drop w.addr m) (rw (length-drop w.addr m, l) (omega arith))

  -- two memories that agree on the range have the same old bytes there
  pub old_same : (w : Write) (m m' : List ℕ) → length m ≡ k → length m' ≡ k → Within k w
      → ((a : ℕ) → a < k → seen a w ≢ none → get_or m a 0 ≡ get_or m' a 0) → old_bytes w m ≡ old_bytes w m'
  old_same w m m' l l' h f =
      ap (λ (bs : List ℕ). record { addr = w.addr; bytes = bs })
      (ext_get_or 0 (old_bytes w m).bytes (old_bytes w m').bytes (old_length w m l h ∙ sym (old_length w m' l' h)) each)
    where
      each : (j : ℕ) → j < length (old_bytes w m).bytes → get_or (old_bytes w m).bytes j 0 ≡ get_or (old_bytes w m').bytes j 0
      each j b =
          let c : j < length w.bytes = rw (old_length w m l h) at b in
          let a : ℕ = w.addr + j in
          get_or-take (length w.bytes) (drop w.addr m) j 0 c ∙ (get_or-drop w.addr m j 0
          ∙ (f a (omega arith) (seen_inside a w.addr w.bytes (omega arith) (omega arith))
          ∙ sym (get_or-take (length w.bytes) (drop w.addr m') j 0 c ∙ get_or-drop w.addr m' j 0)))

  -- two memories that agree on all ranges of the writes have the same old bytes under them
  pub olds_same : (ws : List Write) (m m' : List ℕ) → length m ≡ k → length m' ≡ k → All (Within k) ws
      → ((a : ℕ) → a < k → newest a ws ≢ none → get_or m a 0 ≡ get_or m' a 0) → olds_of m ws ≡ olds_of m' ws
  olds_same [] m m' l l' nil f = refl
  olds_same (w ∷ ws) m m' l l' (cons h hs) f =
      let one : old_bytes w m ≡ old_bytes w m' = old_same w m m' l l' h (λ a b s. f a b (else_next (newest a ws) (seen a w) s)) in
      let rest : olds_of (lay_bytes w m) ws ≡ olds_of (lay_bytes w m') ws =
      olds_same ws (lay_bytes w m) (lay_bytes w m') (length-sets m w.addr w.bytes ∙ l) (length-sets m' w.addr w.bytes ∙ l') hs
      (λ a b s. laid_byte a w m (rw l b) ∙ (ap (λ (x : ℕ). act (seen a w) x) (f a b (else_some (newest a ws) (seen a w) s)) ∙ sym (laid_byte a w m' (rw l' b)))) in
      rw (one, rest)

  -- the ranges of the old bytes are those of the writes
  pub olds_within : (ws : List Write) (m : List ℕ) → length m ≡ k → All (Within k) ws → All (Within k) (olds_of m ws)
  olds_within [] m l nil = nil
  olds_within (w ∷ ws) m l (cons h hs) =
      cons {x = old_bytes w m} (omega (arith, old_length w m l h))
      (olds_within ws (lay_bytes w m) (length-sets m w.addr w.bytes ∙ l) hs)

  -- writes that leave these ranges alone leave the old bytes under them
  pub olds_beside : (ws vs : List Write) (m : List ℕ) → length m ≡ k → All (Within k) ws
      → ((a : ℕ) → a < k → newest a ws ≢ none → newest a vs ≡ none) → olds_of m ws ≡ olds_of (redo_all lay_bytes vs m) ws
  olds_beside ws vs m l h f =
      olds_same ws m (redo_all lay_bytes vs m) l (redo_length k m l vs) h
      (λ a b s. sym (redo_byte k m l a b vs ∙ (redo_newest a vs (get_or m a 0) ∙ ap (λ (o : Option ℕ). act o (get_or m a 0)) (f a b s))))

-- A running transaction, record by record. m is what the commits leave: an undo record has the bytes that they and its own earlier writes leave on
-- the range, which lies in memory.
pub record Recorded (k : ℕ) (m : List ℕ) (r : Tx) : Type 0 where
  pub olds : r.undo ≡ olds_of m r.redo
  pub within : All (Within k) r.redo

-- one after the other

pub redo_append : {M : Type 0} (lay : Write → M → M) (us vs : List Write) (m : M) → redo_all lay (us ++ vs) m ≡ redo_all lay vs (redo_all lay us m)
redo_append lay [] vs m = refl
redo_append lay (u ∷ us) vs m = redo_append lay us vs (lay u m)

pub olds_append : (us vs : List Write) (m : List ℕ) → olds_of m (us ++ vs) ≡ olds_of m us ++ olds_of (redo_all lay_bytes us m) vs
olds_append [] vs m = refl
olds_append (u ∷ us) vs m = ap (λ (ws : List Write). old_bytes u m ∷ ws) (olds_append us vs (lay_bytes u m))

pub olds_length : (ws : List Write) (m : List ℕ) → length (olds_of m ws) ≡ length ws
olds_length [] m = refl
olds_length (w ∷ ws) m = ap suc (olds_length ws (lay_bytes w m))

-- those after the first n
pub olds_drop : (n : ℕ) (ws : List Write) (m : List ℕ) → drop n (olds_of m ws) ≡ olds_of (redo_all lay_bytes (take n ws) m) (drop n ws)
olds_drop zero ws m = refl
olds_drop (suc n) [] m = refl
olds_drop (suc n) (w ∷ ws) m = olds_drop n ws (lay_bytes w m)
