-- Laws of the readers of undo records: a turn of each loop, and what a reading that succeeds says.
use Prim.Native.Nat.{ℕ, zero, suc, ◌+◌, ◌-◌, ◌≤◌, ◌<◌}
use native.Mathlib.Numerals.{add-one}
use native.Mathlib.Omega.{arith}
use mathlib.Core.Bool.{Bool, true, false, cond}
use mathlib.Core.List.{List, [], ◌∷◌, map}
use mathlib.Core.Option.{Option, none, some}
use mathlib.Core.Path.{◌≡◌, refl, sym, ap, ap₂, ◌∙◌, subst}
use lib.ListN.{length, get_or, set, take, drop, length-drop}
use lib.Seq.{sets, drop-drop, length-take-le}
use borrow.Author.Tests.{le-leb, leb-true}
use Rattle.std.specs.Prelude.{Option as Maybe, Some, None}
use Rattle.std.proofs.lemmas.Option.{cond_some}
use Rattle.recovery.specs.Group.{Write}
use Rattle.recovery.specs.Replay.{undo_all, lay_bytes}
use Rattle.redolog.specs.Number.{be16}
use Rattle.redolog.specs.Record.{in_range}
use Rattle.redolog.specs.Group.{and_then}
use Rattle.redolog.proofs.Basics.{clash, and_left, and_right, and_both}
use Rattle.transaction.specs.Lists.{every}
use Rattle.transaction.specs.Rules.{range_ok}
use Rattle.transaction.specs.View.{range_of}
use Rattle.image.specs.Format.{undos_size}
use Rattle.image.specs.Reading.{undo_here, first_undo, read_undos}
use Rattle.image.specs.Heads.{undo_size, undos_end, undo_starts}
use Rattle.image.proofs.Lists.{byte_at}

abbrev pub no_write : Write
no_write = record { addr = 0; bytes = [] }

-- ---- one undo record

module _ (t : List ℕ) where
  pub here_yes : in_range (be16 t 0) (get_or t 2 0) ≡ true → 3 + get_or t 2 0 ≤ length t → undo_here t ≡ true
  unfolding undo_here
  here_yes e h = and_both _ _ e (le-leb _ _ h)

  pub here_within : undo_here t ≡ true → 3 + get_or t 2 0 ≤ length t
  unfolding undo_here
  here_within e = leb-true _ _ (and_right (in_range (be16 t 0) (get_or t 2 0)) _ e)

  pub here_ranged : undo_here t ≡ true → in_range (be16 t 0) (get_or t 2 0) ≡ true
  unfolding undo_here
  here_ranged e = and_left (in_range (be16 t 0) (get_or t 2 0)) _ e

  pub first_length : undo_here t ≡ true → length (first_undo t).bytes ≡ get_or t 2 0
  first_length e = let w = here_within e in length-take-le (get_or t 2 0) (drop 3 t) (simp length-drop (omega arith))

-- its size, if one stands there
module _ (t : List ℕ) where
  pub size_yes : undo_here t ≡ true → undo_size t ≡ Some (3 + get_or t 2 0)
  unfolding undo_size
  size_yes e = rw e

  size_some : (z : ℕ) → undo_size t ≡ Some z → (undo_here t ≡ true) × (3 + get_or t 2 0 ≡ z)
  unfolding undo_size
  size_some z e = cond_some _ _ _ e

  size_none : undo_size t ≡ None → undo_here t ≡ false
  size_none e = go (undo_here t) refl
    where
      go : (b : Bool) → undo_here t ≡ b → undo_here t ≡ false
      go true q = let f = sym (size_yes q) ∙ e in clash (cc)
      go false q = q

-- ---- a turn of the loop

undos_turn : (t : List ℕ) (n k : ℕ) → k < n
    → read_undos (n - k) t ≡ cond (undo_here t) (and_then (first_undo t) (read_undos (n - (k + 1)) (drop (3 + get_or t 2 0) t))) none
undos_turn t n k h = let e : n - k ≡ suc (n - (k + 1)) = omega arith in ap (λ (j : ℕ). read_undos j t) e

-- where records that begin at this place end
abbrev pub end_from : ℕ → Option (List Write) → Maybe ℕ
end_from at none = None
end_from at (some us) = Some (at + undos_size us)

-- from a transaction's first record on, the same as without a place
pub end_start : (x : Option (List Write)) → undos_end x ≡ end_from 8 x
end_start none = refl
end_start (some us) = refl

end_next : (at n : ℕ) (u : Write) (x : Option (List Write)) → length u.bytes ≡ n → end_from at (and_then u x) ≡ end_from (at + (3 + n)) x
end_next at n u none l = refl
end_next at n u (some us) l = let e : at + (3 + length u.bytes + undos_size us) ≡ at + (3 + n) + undos_size us = omega arith in ap (λ (m : ℕ). Some m) e

module _ (s : List ℕ) (at n k : ℕ) (h : k < n) where
  -- a turn that finds no record answers for the whole
  pub undos_stop : undo_size (drop at s) ≡ None → None ≡ end_from at (read_undos (n - k) (drop at s))
  undos_stop e =
      let w : read_undos (n - k) (drop at s) ≡ none = undos_turn (drop at s) n k h ∙ rw (size_none (drop at s) e) in
      ap (end_from at) (sym w)

  module _ (z : ℕ) (e : undo_size (drop at s) ≡ Some z) where
    here : (undo_here (drop at s) ≡ true) × (3 + get_or (drop at s) 2 0 ≡ z)
    here = size_some (drop at s) z e

    pub undos_within : at ≤ length s → at + z ≤ length s
    undos_within b =
        let w : 3 + get_or (drop at s) 2 0 ≤ length s - at = rw length-drop at (here_within (drop at s) here.0) in
        omega (arith, here.1, w)

    pub undos_go : end_from at (read_undos (n - k) (drop at s)) ≡ end_from (at + z) (read_undos (n - (k + 1)) (drop (at + z) s))
    undos_go =
        let t = drop at s in
        let g = here.0 in
        let rest = read_undos (n - (k + 1)) (drop (3 + get_or t 2 0) t) in
        let w : read_undos (n - k) t ≡ and_then (first_undo t) rest = undos_turn t n k h ∙ rw g in
        ap (end_from at) w
        ∙ end_next at (get_or t 2 0) (first_undo t) rest (first_length t g)
        ∙ ap (λ (l : List ℕ). end_from (at + (3 + get_or t 2 0)) (read_undos (n - (k + 1)) l)) (drop-drop (3 + get_or t 2 0) at s)
        ∙ ap (λ (m : ℕ). end_from (at + m) (read_undos (n - (k + 1)) (drop (at + m) s))) here.1

-- ---- a reading, a record at a time

abbrev pub UndosAt : List ℕ → List Write → Type 0
UndosAt s [] = Unit
UndosAt s (u ∷ us) = (undo_here s ≡ true) × (u ≡ first_undo s) × UndosAt (drop (3 + get_or s 2 0) s) us

pub and_then_inv : {A : Type 0} (u : A) (x : Option (List A)) (us : List A) → and_then u x ≡ some us → (vs : List A) × (x ≡ some vs) × (us ≡ u ∷ vs)
and_then_inv u none us e = clash (cc)
and_then_inv u (some vs) us e = (vs, refl, cc)

pub undos_inv : (k : ℕ) (s : List ℕ) (us : List Write) → read_undos k s ≡ some us → (length us ≡ k) × UndosAt s us
undos_inv zero s [] e = (refl, tt)
undos_inv zero s (u ∷ us) e = clash (cc)
undos_inv (suc k) s us e = go (undo_here s) refl (undos_inv k (drop (3 + get_or s 2 0) s))
  where
    found : ((vs : List Write) → read_undos k (drop (3 + get_or s 2 0) s) ≡ some vs → (length vs ≡ k) × UndosAt (drop (3 + get_or s 2 0) s) vs)
        → undo_here s ≡ true → (vs : List Write) × (read_undos k (drop (3 + get_or s 2 0) s) ≡ some vs) × (us ≡ first_undo s ∷ vs)
        → (length us ≡ suc k) × UndosAt s us
    found ih b w =
        let i = ih w.0 w.1 in
        subst (λ (l : List Write). (length l ≡ suc k) × UndosAt s l) (sym w.2) (ap suc i.0, (b, refl, i.1))

    go : (b : Bool) → undo_here s ≡ b
        → ((vs : List Write) → read_undos k (drop (3 + get_or s 2 0) s) ≡ some vs → (length vs ≡ k) × UndosAt (drop (3 + get_or s 2 0) s) vs)
        → (length us ≡ suc k) × UndosAt s us
    go true b ih =
        let f : and_then (first_undo s) (read_undos k (drop (3 + get_or s 2 0) s)) ≡ some us = rw b at e in
        found ih b (and_then_inv _ _ us f)
    go false b ih = let f : ◌≡◌ {A = Option (List Write)} none (some us) = rw b at e in clash (cc)

-- it lies within the list, and its records keep the range rule
pub undos_kept : (s : List ℕ) (us : List Write) → UndosAt s us → (undos_size us ≤ length s) × (every range_ok (map range_of us) ≡ true)
undos_kept s [] a = (omega arith, refl)
undos_kept s (u ∷ us) a =
    let w = here_within s a.0 in
    let i = undos_kept (drop (3 + get_or s 2 0) s) us a.2 in
    let d : undos_size us ≤ length s - (3 + get_or s 2 0) = rw length-drop at i.0 in
    let l : length u.bytes ≡ get_or s 2 0 = ap (λ (v : Write). length v.bytes) a.1 ∙ first_length s a.0 in
    let r : in_range u.addr (length u.bytes) ≡ true =
    ap (λ (v : Write). in_range v.addr (length v.bytes)) a.1 ∙ ap (in_range (be16 s 0)) (first_length s a.0) ∙ here_ranged s a.0 in
    (omega (arith, d, l, w), and_both (in_range u.addr (length u.bytes)) (every range_ok (map range_of us)) r i.1)

-- ---- where they begin

module _ (s : List ℕ) (at : ℕ) (u : Write) (us : List Write) (a : UndosAt (drop at s) (u ∷ us)) where
  long : length u.bytes ≡ get_or s (at + 2) 0
  long = ap (λ (v : Write). length v.bytes) a.1 ∙ first_length (drop at s) a.0 ∙ byte_at s at 2 (at + 2) refl

  pub place_within : at + (3 + length u.bytes) ≤ length s
  place_within =
      let w : 3 + get_or (drop at s) 2 0 ≤ length s - at = rw length-drop at (here_within (drop at s) a.0) in
      omega (arith, w, long, byte_at s at 2 (at + 2) refl)

  place_next : UndosAt (drop (at + (3 + length u.bytes)) s) us
  place_next =
      let e : 3 + get_or (drop at s) 2 0 ≡ 3 + length u.bytes = omega (arith, long, byte_at s at 2 (at + 2) refl) in
      subst (λ (l : List ℕ). UndosAt l us) (drop-drop (3 + get_or (drop at s) 2 0) at s ∙ ap (λ (n : ℕ). drop (at + n) s) e) a.2

-- a turn of the loop that lists them
pub record PlaceTurn (s places : List ℕ) (at k n : ℕ) (us : List Write) : Type 0 where
  pub within : at + (3 + get_or s (at + 2) 0) ≤ length s
  pub rest : List Write
  pub count : length rest ≡ n - (k + 1)
  pub there : UndosAt (drop (at + (3 + get_or s (at + 2) 0)) s) rest
  pub same : sets places k (undo_starts at us) ≡ sets (set places k at) (k + 1) (undo_starts (at + (3 + get_or s (at + 2) 0)) rest)

pub place_turn : (s places : List ℕ) (at k n : ℕ) (us : List Write) → k < n → length us ≡ n - k → UndosAt (drop at s) us → PlaceTurn s places at k n us
place_turn s places at k n [] h l a = absurd (omega (arith, h, l))
place_turn s places at k n (u ∷ us) h l a =
    let e : at + (3 + length u.bytes) ≡ at + (3 + get_or s (at + 2) 0) = omega (arith, long s at u us a) in
    record {
      within = omega (arith, e, place_within s at u us a);
      rest = us;
      count = omega (arith, l);
      there = subst (λ (n : ℕ). UndosAt (drop n s) us) e (place_next s at u us a);
      same = ap₂ (λ (j m : ℕ). sets (set places k at) j (undo_starts m us)) (sym (add-one k)) e;
    }

pub place_done : (places : List ℕ) (at k : ℕ) (us : List Write) → length us ≡ 0 → sets places k (undo_starts at us) ≡ places
place_done places at k [] l = refl
place_done places at k (u ∷ us) l = absurd (omega (arith, l))

-- what stands where the k-th begins
pub place_of : (s : List ℕ) (at : ℕ) (us : List Write) (k : ℕ) → UndosAt (drop at s) us → k < length us
    → let at = get_or (undo_starts at us) k 0 in (undo_here (drop at s) ≡ true) × (first_undo (drop at s) ≡ get_or us k no_write)
place_of s at [] k a h = absurd (omega (arith, h))
place_of s at (u ∷ us) zero a h = (a.0, sym a.1)
place_of s at (u ∷ us) (suc k) a h = place_of s (at + (3 + length u.bytes)) us k (place_next s at u us a) (omega (arith, h))

pub starts_length : (at : ℕ) (us : List Write) → length (undo_starts at us) ≡ length us
starts_length at [] = refl
starts_length at (u ∷ us) = ap suc (starts_length (at + (3 + length u.bytes)) us)

-- the newest of those left is laid first
pub undo_take : (us : List Write) (k : ℕ) (m : List ℕ) → k < length us
    → undo_all lay_bytes (take (suc k) us) m ≡ undo_all lay_bytes (take k us) (lay_bytes (get_or us k no_write) m)
undo_take [] k m h = absurd (omega (arith, h))
undo_take (u ∷ us) zero m h = refl
undo_take (u ∷ us) (suc k) m h = ap (lay_bytes u) (undo_take us k m (omega (arith, h)))
