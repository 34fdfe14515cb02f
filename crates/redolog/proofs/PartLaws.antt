-- Stores and the parts of a disk: those inside a part act on that part, and those outside leave it.
use Prim.Native.Nat.{ℕ, zero, suc, ◌+◌, ◌-◌, ◌≤◌, ◌<◌}
use native.Mathlib.Nat.{add_assoc}
use native.Mathlib.Decide.{dec_le}
use native.Mathlib.Omega.{arith}
use mathlib.Core.List.{List, [], ◌∷◌, ◌++◌}
use mathlib.Core.Path.{◌≡◌, refl, sym, ap, ap₂, ◌∙◌}
use lib.ListN.{length, get_or, take, drop, set, length-take, take-append-drop}
use lib.Seq.{sets, set_out, take-set-le, take-set-lt, drop-set-lt, drop-set-add, get_or-take, get_or-drop}
use Rattle.layout.specs.Parts.{part}
use Rattle.redolog.specs.Stores.{Store, store, apply, copies, clears}
use Rattle.redolog.proofs.StoreLaws.{copies_cut}

-- ---- inside

-- stores into a part, as stores into the whole
abbrev pub moved : ℕ → List Store → List Store
moved at [] = []
moved at (store i v ∷ ss) = store (at + i) v ∷ moved at ss

pub copies_moved : (at i : ℕ) (vs : List ℕ) → copies (at + i) vs ≡ moved at (copies i vs)
copies_moved at i [] = refl
copies_moved at i (v ∷ vs) =
    let e : suc (at + i) ≡ at + suc i = omega arith in
    ap (λ (ss : List Store). store (at + i) v ∷ ss) (ap (λ (j : ℕ). copies j vs) e ∙ copies_moved at (suc i) vs)

pub clears_moved : (at low k : ℕ) → clears (at + low) k ≡ moved at (clears low k)
clears_moved at low zero = refl
clears_moved at low (suc k) = ap₂ (λ (i : ℕ) (ss : List Store). store i 0 ∷ ss) (add_assoc at low k) (clears_moved at low k)

take_moved : (k at : ℕ) (ss : List Store) → take k (moved at ss) ≡ moved at (take k ss)
take_moved zero at ss = refl
take_moved (suc k) at [] = refl
take_moved (suc k) at (store i v ∷ ss) = ap (λ (rs : List Store). store (at + i) v ∷ rs) (take_moved k at ss)

set_taken : (n : ℕ) (l : List ℕ) (i v : ℕ) → set (take n l) i v ≡ take n (set l i v)
set_taken n l i v =
    elim (dec_le n i) [
      | yes h ↦ set_out (take n l) i v (omega (arith, length-take n l, h)) ∙ sym (take-set-le n l i v h)
      | no h ↦ sym (take-set-lt n l i v (omega (arith, h)))
    ]

-- the part afterwards is the part before with the stores made in it
pub part_inside : (at n : ℕ) (ss : List Store) (d : List ℕ) → part at n (apply (moved at ss) d) ≡ apply ss (part at n d)
part_inside at n [] d = refl
part_inside at n (store i v ∷ ss) d =
    part_inside at n ss (set d (at + i) v)
    ∙ ap (apply ss) (ap (take n) (drop-set-add at d i v) ∙ sym (set_taken n (drop at d) i v))

-- of so many stores the first k
pub part_first : (at n k : ℕ) (ss : List Store) (d : List ℕ) → part at n (apply (take k (moved at ss)) d) ≡ apply (take k ss) (part at n d)
part_first at n k ss d = ap (λ (rs : List Store). part at n (apply rs d)) (take_moved k at ss) ∙ part_inside at n (take k ss) d

-- bytes one after the other
pub part_copied : (at n k i : ℕ) (vs d : List ℕ) → part at n (apply (take k (copies (at + i) vs)) d) ≡ sets (part at n d) i (take k vs)
part_copied at n k i vs d =
    ap (λ (ss : List Store). part at n (apply (take k ss) d)) (copies_moved at i vs) ∙ part_first at n k (copies i vs) d ∙ copies_cut k i vs (part at n d)

-- ---- inside a part that is lent

-- each lies within the first n bytes
abbrev pub Within : ℕ → List Store → Type 0
Within n [] = Unit {0}
Within n (store i v ∷ ss) = (i < n) × Within n ss

within_take : (n k : ℕ) (ss : List Store) → Within n ss → Within n (take k ss)
within_take n zero ss h = tt
within_take n (suc k) [] h = tt
within_take n (suc k) (store i v ∷ ss) h = (h.0, within_take n k ss h.1)

pub within_copies : (n at : ℕ) (vs : List ℕ) → at + length vs ≤ n → Within n (copies at vs)
within_copies n at [] h = tt
within_copies n at (v ∷ vs) h = (omega (arith, h), within_copies n (suc at) vs (omega (arith, h)))

pub within_clears : (n low k : ℕ) → low + k ≤ n → Within n (clears low k)
within_clears n low zero h = tt
within_clears n low (suc k) h = (omega (arith, h), within_clears n low k (omega (arith, h)))

apply_front : (n : ℕ) (ss : List Store) (l : List ℕ) → Within n ss → apply ss (take n l) ++ drop n l ≡ apply ss l
apply_front n [] l h = take-append-drop n l
apply_front n (store i v ∷ ss) l h =
    ap₂ (λ (x y : List ℕ). apply ss x ++ y) (set_taken n l i v) (sym (drop-set-lt n l i v h.0)) ∙ apply_front n ss (set l i v) h.1

apply_moved : (at : ℕ) (ss : List Store) (d : List ℕ) → apply (moved at ss) d ≡ take at d ++ apply ss (drop at d)
apply_moved at [] d = sym (take-append-drop at d)
apply_moved at (store i v ∷ ss) d =
    apply_moved at ss (set d (at + i) v)
    ∙ ap₂ (λ (x y : List ℕ). x ++ apply ss y) (take-set-le at d (at + i) v (omega arith)) (drop-set-add at d i v)

-- what a call leaves that was lent the part and made the first k of these stores in it, in terms of the whole disk
pub part_lent : (at n k : ℕ) (ss : List Store) (d ys : List ℕ) → Within n ss → ys ≡ apply (take k ss) (part at n d)
    → take at d ++ (ys ++ drop n (drop at d)) ≡ apply (take k (moved at ss)) d
part_lent at n k ss d ys h e =
    ap (λ (x : List ℕ). take at d ++ x)
    (ap (λ (x : List ℕ). x ++ drop n (drop at d)) e ∙ apply_front n (take k ss) (drop at d) (within_take n k ss h))
    ∙ sym (ap (λ (rs : List Store). apply rs d) (take_moved k at ss) ∙ apply_moved at (take k ss) d)

-- ---- outside

-- each lies before a part or behind it
abbrev pub Outside : ℕ → ℕ → List Store → Type 0
Outside at n [] = Unit {0}
Outside at n (store i v ∷ ss) = (at ≤ i → at + n ≤ i) × Outside at n ss

pub outside_take : (at n k : ℕ) (ss : List Store) → Outside at n ss → Outside at n (take k ss)
outside_take at n zero ss h = tt
outside_take at n (suc k) [] h = tt
outside_take at n (suc k) (store i v ∷ ss) h = (h.0, outside_take at n k ss h.1)

pub outside_append : (at n : ℕ) (ss rs : List Store) → Outside at n ss → Outside at n rs → Outside at n (ss ++ rs)
outside_append at n [] rs h g = g
outside_append at n (store i v ∷ ss) rs h g = (h.0, outside_append at n ss rs h.1 g)

pub outside_copies : (at n i : ℕ) (vs : List ℕ) → (at < i + length vs → at + n ≤ i) → Outside at n (copies i vs)
outside_copies at n i [] h = tt
outside_copies at n i (v ∷ vs) h = (
  λ l. h (omega (arith, l)),
  outside_copies at n (suc i) vs (λ l. let g = h (omega (arith, l)) in omega (arith, g)),
)

-- stores inside a part lie outside each other part that it does not meet
pub outside_within : (at n from k : ℕ) (ss : List Store) → Within k ss → (at < from + k → at + n ≤ from) → Outside at n (moved from ss)
outside_within at n from k [] w h = tt
outside_within at n from k (store i v ∷ ss) w h = (
  λ l. let g = h (omega (arith, l, w.0)) in omega (arith, g),
  outside_within at n from k ss w.1 h,
)

set_outside : (at n : ℕ) (d : List ℕ) (i v : ℕ) → (at ≤ i → at + n ≤ i) → part at n (set d i v) ≡ part at n d
set_outside at n d i v h =
    elim (dec_le at i) [
      | yes l ↦
          let g = h l in
          let e : i ≡ at + (i - at) = omega (arith, l) in
          ap (λ (j : ℕ). part at n (set d j v)) e
          ∙ ap (take n) (drop-set-add at d (i - at) v)
          ∙ take-set-le n (drop at d) (i - at) v (omega (arith, g))
      | no l ↦ ap (take n) (drop-set-lt at d i v (omega (arith, l)))
    ]

pub part_outside : (at n : ℕ) (ss : List Store) (d : List ℕ) → Outside at n ss → part at n (apply ss d) ≡ part at n d
part_outside at n [] d h = refl
part_outside at n (store i v ∷ ss) d h = part_outside at n ss (set d i v) h.1 ∙ set_outside at n d i v h.0

-- a byte of a part that is the same
pub byte_same : (at n : ℕ) (x y : List ℕ) → 0 < n → part at n x ≡ part at n y → get_or x at 0 ≡ get_or y at 0
byte_same at n x y h e = sym (byte x) ∙ ap (λ (l : List ℕ). get_or l 0 0) e ∙ byte y
  where
    byte : (z : List ℕ) → get_or (part at n z) 0 0 ≡ get_or z at 0
    byte z = let i : at + 0 ≡ at = omega arith in get_or-take n (drop at z) 0 0 h ∙ get_or-drop at z 0 0 ∙ ap (λ (j : ℕ). get_or z j 0) i
