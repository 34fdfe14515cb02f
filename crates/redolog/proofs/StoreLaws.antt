-- Laws of stores: runs of stores (`sets l i vs`, l with vs stored from i on), and the first so many stores of a list.
use Prim.Native.Nat.{ℕ, zero, suc, ◌+◌, ◌-◌, ◌≤◌, ◌<◌, min}
use native.Mathlib.Nat.{add-zero, suc-add}
use native.Mathlib.Numerals.{add-one, towards_suc}
use native.Mathlib.Decide.{dec_le}
use native.Mathlib.Omega.{arith}
use mathlib.Core.List.{List, [], ◌∷◌, ◌++◌, append-nil, append_assoc}
use mathlib.Core.Path.{◌≡◌, refl, sym, ap, ap₂, ◌∙◌}
use lib.ListN.{length, take, drop, get_or, set, replicate, length-set, length-append, length-drop, length-replicate, take-append-drop, replicate-append-replicate}
use lib.ListN.{drop_of_length-le}
use Rattle.std.specs.List.{copy_within}
use borrow.Rule.Slice.PartMut.{put_mid}
use lib.Seq.{sets, sets-eq, drop-drop, take-suc, take_all, take-length, take_at, length-take-le, take-set-le, drop-set-lt, drop-cons, drop-append-le}
use lib.Seq.{get_or-drop, get_or-set_same, get_or-set_other}
use Rattle.redolog.specs.Number.{bytes16}
use Rattle.redolog.specs.Record.{redo, encode}
use Rattle.redolog.specs.Stores.{Store, store, apply, copies, clears, shifted}

pub sets_append : (l : List ℕ) (i : ℕ) (xs ys : List ℕ) → sets l i (xs ++ ys) ≡ sets (sets l i xs) (i + length xs) ys
sets_append l i [] ys = ap (λ (k : ℕ). sets l k ys) (omega arith)
sets_append l i (x ∷ xs) ys =
    sets_append (set l i x) (suc i) xs ys ∙ ap (λ (k : ℕ). sets (sets (set l i x) (suc i) xs) k ys) (omega arith)

-- a part written over in one piece
pub sets_part : (b : List ℕ) (at : ℕ) (src ys : List ℕ) → at + length src ≤ length b → ys ≡ src → put_mid at (at + length src - at) b ys ≡ sets b at src
sets_part b at src ys h e =
    let n : at + length src - at ≡ length src = omega arith in
    rw (e, n, drop-drop (length src) at b) (sym (sets-eq src b at h ∙ append_assoc (take at b) src (drop (at + length src) b)))

-- one more byte of a copy
pub sets_more : (l : List ℕ) (at : ℕ) (src : List ℕ) (i : ℕ) → i < length src
    → set (sets l at (take i src)) (at + i) (get_or src i 0) ≡ sets l at (take (i + 1) src)
sets_more l at src i h =
    let n : length (take i src) ≡ i = length-take-le i src (omega arith) in
    sym
    (ap (λ (k : ℕ). sets l at (take k src)) (add-one i)
    ∙ ap (sets l at) (take-suc src i 0 h)
    ∙ sets_append l at (take i src) (get_or src i 0 ∷ [])
    ∙ ap (λ (k : ℕ). set (sets l at (take i src)) (at + k) (get_or src i 0)) n)

-- the stores of a redo record: its head, its bytes by a copy, and its last byte
pub redo_stores : (l : List ℕ) (at id addr : ℕ) (src m₁ m₂ m₃ : List ℕ) → m₁ ≡ sets (set l at 1) (at + 1) (bytes16 id) → m₂ ≡ sets m₁ (at + 3) (bytes16 addr)
    → m₃ ≡ sets (set m₂ (at + 5) (length src)) (at + 6) src
    → set m₃ (at + 6 + length src) 1 ≡ sets l at (encode (redo id (record { addr = addr; bytes = src })))
redo_stores l at id addr src m₁ m₂ m₃ e₁ e₂ e₃ =
    rw (e₃, e₂, e₁)
    (sym (sets_append (set (sets (sets (set l at 1) (at + 1) (bytes16 id)) (at + 3) (bytes16 addr)) (at + 5) (length src)) (at + 6) src (1 ∷ []))
    ∙ simp towards_suc)

-- ---- the first so many stores

pub length_apply : (ss : List Store) (b : List ℕ) → length (apply ss b) ≡ length b
length_apply [] b = refl
length_apply (store i v ∷ ss) b = length_apply ss (set b i v) ∙ length-set b i v

pub length_copies : (at : ℕ) (vs : List ℕ) → length (copies at vs) ≡ length vs
length_copies at [] = refl
length_copies at (v ∷ vs) = ap suc (length_copies (suc at) vs)

pub length_clears : (low n : ℕ) → length (clears low n) ≡ n
length_clears low zero = refl
length_clears low (suc n) = ap suc (length_clears low n)

apply_copies : (at : ℕ) (vs b : List ℕ) → apply (copies at vs) b ≡ sets b at vs
apply_copies at [] b = refl
apply_copies at (v ∷ vs) b = apply_copies (suc at) vs (set b at v)

take_copies : (k at : ℕ) (vs : List ℕ) → take k (copies at vs) ≡ copies at (take k vs)
take_copies zero at vs = refl
take_copies (suc k) at [] = refl
take_copies (suc k) at (v ∷ vs) = ap (λ (ss : List Store). store at v ∷ ss) (take_copies k (suc at) vs)

-- upward: the first k stores of a copy are a copy of the first k bytes
pub copies_cut : (k at : ℕ) (vs b : List ℕ) → apply (take k (copies at vs)) b ≡ sets b at (take k vs)
copies_cut k at vs b = ap (λ (ss : List Store). apply ss b) (take_copies k at vs) ∙ apply_copies at (take k vs) b

-- no more than there are
pub take_min : (k : ℕ) (vs : List ℕ) → take (min k (length vs)) vs ≡ take k vs
take_min k vs =
    elim (dec_le k (length vs)) [
      | yes h ↦ let e : min k (length vs) ≡ k = omega (arith, h) in ap (λ (j : ℕ). take j vs) e
      | no h ↦
          let e : min k (length vs) ≡ length vs = omega (arith, h) in
          ap (λ (j : ℕ). take j vs) e ∙ take-length vs ∙ sym (take_all k vs (omega (arith, h)))
    ]

-- the first j of so many stores downward are the stores at the highest j offsets
pub take_clears : (j low n : ℕ) → take j (clears low (j + n)) ≡ clears (low + n) j
take_clears zero low n = refl
take_clears (suc j) low n =
    ap (λ (x : ℕ). take (suc j) (clears low x)) (suc-add j n)
    ∙ ap (λ (x : ℕ). store x 0 ∷ take j (clears low (j + n))) (omega arith)
    ∙ ap (λ (ss : List Store). store (low + n + j) 0 ∷ ss) (take_clears j low n)

-- what they leave, in one piece
pub apply_clears : (low n : ℕ) (b : List ℕ) → low + n ≤ length b → apply (clears low n) b ≡ take low b ++ (replicate n 0 ++ drop (low + n) b)
apply_clears low zero b h = sym (ap (λ (x : ℕ). take low b ++ drop x b) (add-zero low) ∙ take-append-drop low b)
apply_clears low (suc n) b h =
    apply_clears low n (set b (low + n) 0) (rw (length-set b (low + n) 0) (omega arith))
    ∙ ap (λ (l : List ℕ). l ++ (replicate n 0 ++ drop (low + n) (set b (low + n) 0))) (take-set-le low b (low + n) 0 (omega arith))
    ∙ ap (λ (l : List ℕ). take low b ++ l) (ap (λ (l : List ℕ). replicate n 0 ++ l) seam ∙ roll n (drop (low + suc n) b))
  where
    seam : drop (low + n) (set b (low + n) 0) ≡ 0 ∷ drop (low + suc n) b
    seam =
        let e : suc (low + n) ≡ low + suc n = omega arith in
        drop-cons (set b (low + n) 0) (low + n) 0 (rw (length-set b (low + n) 0) (omega arith))
        ∙ ap (λ (x : ℕ). x ∷ drop (suc (low + n)) (set b (low + n) 0)) (get_or-set_same b (low + n) 0 0 (omega arith))
        ∙ ap (λ (l : List ℕ). 0 ∷ l) (drop-set-lt (suc (low + n)) b (low + n) 0 (omega arith) ∙ ap (λ (x : ℕ). drop x b) e)

    roll : (k : ℕ) (l : List ℕ) → replicate k 0 ++ 0 ∷ l ≡ 0 ∷ (replicate k 0 ++ l)
    roll zero l = refl
    roll (suc k) l = ap (λ (x : List ℕ). 0 ∷ x) (roll k l)

-- those of a clearing that are allowed are the stores at its highest offsets
pub first_clears : (n low k : ℕ) → take n (clears low k) ≡ clears (low + (k - n)) (k - (k - n))
first_clears n low k =
    elim (dec_le n k) [
      | yes h ↦
          let e : k ≡ n + (k - n) = omega (arith, h) in
          let f : n ≡ k - (k - n) = omega (arith, h) in
          ap (λ (x : ℕ). take n (clears low x)) e ∙ take_clears n low (k - n) ∙ ap (clears (low + (k - n))) f
      | no h ↦
          let e : low ≡ low + (k - n) = omega (arith, h) in
          let f : k ≡ k - (k - n) = omega (arith, h) in
          take_all n (clears low k) (omega (arith, h, length_clears low k)) ∙ ap₂ clears e f
    ]

-- a buffer cleared downward as far as allowed: zeros ys in the place of its last n bytes
pub clears_cut : (allowed low from n m : ℕ) (b ys : List ℕ) → low ≤ length b → n ≡ min allowed (length b - low) → from + n ≡ length b → m ≡ n
    → ys ≡ replicate (length (take m (drop from b))) 0
    → take from b ++ (ys ++ drop m (drop from b)) ≡ apply (take allowed (clears low (length b - low))) b
clears_cut allowed low from n m b ys q e h p z =
    let k = length b - low in
    let d : length (drop from b) ≡ m = length-drop from b ∙ omega arith in
    let l : length (take m (drop from b)) ≡ n = length-take-le m (drop from b) (omega arith) ∙ p in
    let f : low + (k - allowed) ≡ from = omega arith in
    let g : k - (k - allowed) ≡ n = omega arith in
    let zeros : ys ≡ replicate n 0 = z ∙ ap (λ (i : ℕ). replicate i 0) l in
    let rest : drop m (drop from b) ≡ drop (from + n) b =
    drop_of_length-le (drop from b) {i = m} (omega arith) ∙ sym (drop_of_length-le b {i = from + n} (omega arith)) in
    ap₂ (λ (xs zs : List ℕ). take from b ++ (xs ++ zs)) zeros rest
    ∙ sym (apply_clears from n b (omega arith))
    ∙ sym (ap (λ (ss : List Store). apply ss b) (first_clears allowed low k ∙ ap₂ clears f g))

-- ---- a whole buffer: written over, or moved to its front

pub sets_all : (vs l : List ℕ) → length vs ≡ length l → sets l 0 vs ≡ vs
sets_all vs l e =
    sets-eq vs l 0 (omega arith)
    ∙ ap (λ (r : List ℕ). vs ++ r) (drop_of_length-le l {i = 0 + length vs} (omega arith))
    ∙ append-nil vs

sets_past : (vs l : List ℕ) (i j : ℕ) → i + length vs ≤ j → get_or (sets l i vs) j 0 ≡ get_or l j 0
sets_past [] l i j h = refl
sets_past (v ∷ vs) l i j h = sets_past vs (set l i v) (suc i) j (omega arith) ∙ get_or-set_other l i j v 0 (λ e. omega arith)

-- one more byte of those from n on
pub shift_more : (b : List ℕ) (n i : ℕ) → i + n < length b
    → set (sets b 0 (take i (drop n b))) i (get_or (sets b 0 (take i (drop n b))) (i + n) 0) ≡ sets b 0 (take (i + 1) (drop n b))
shift_more b n i h =
    let d : i < length (drop n b) = rw (length-drop n b) (omega arith) in
    let t : length (take i (drop n b)) ≡ i = length-take-le i (drop n b) (omega arith) in
    let s : n + i ≡ i + n = omega arith in
    let v : get_or (drop n b) i 0 ≡ get_or (sets b 0 (take i (drop n b))) (i + n) 0 =
    get_or-drop n b i 0 ∙ ap (λ (j : ℕ). get_or b j 0) s ∙ sym (sets_past (take i (drop n b)) b 0 (i + n) (omega arith)) in
    let e : 0 + i ≡ i = omega arith in
    ap₂ (λ (j x : ℕ). set (sets b 0 (take i (drop n b))) j x) (sym e) (sym v) ∙ sets_more b 0 (drop n b) i d

-- what the moves leave in front of the rest
pub shift_front : (b : List ℕ) (n : ℕ) → n ≤ length b → take (length b - n) (sets b 0 (take (length b - n) (drop n b))) ≡ drop n b
shift_front b n h =
    let d : length (drop n b) ≡ length b - n = length-drop n b in
    ap (λ (vs : List ℕ). take (length b - n) (sets b 0 vs)) (take_all (length b - n) (drop n b) (omega arith))
    ∙ ap (take (length b - n)) (sets-eq (drop n b) b 0 (omega arith))
    ∙ take_at (drop n b) (drop (0 + length (drop n b)) b) (length b - n) d

-- what stands from n on, or nothing
drop_min : (n : ℕ) (b : List ℕ) → drop (min n (length b)) b ≡ drop n b
drop_min n b =
    elim (dec_le n (length b)) [
      | yes h ↦ let e : min n (length b) ≡ n = omega (arith, h) in ap (λ (x : ℕ). drop x b) e
      | no h ↦ drop_of_length-le b {i = min n (length b)} (omega (arith, h)) ∙ sym (drop_of_length-le b {i = n} (omega (arith, h)))
    ]

-- m with what stood in b from k on in front, and zeros ys behind it
pub shift_done : (n k : ℕ) (b m ys : List ℕ) → k ≡ min n (length b) → m ≡ copy_within b k (length b) 0
    → ys ≡ replicate (length (take (length m - (length b - k)) (drop (length b - k) m))) 0
    → put_mid (length b - k) (length m - (length b - k)) m ys ≡ shifted n b
unfolding shifted
shift_done n k b m ys q e z =
    let keep = length b - k in
    let d : length (drop k b) ≡ keep = length-drop k b in
    let f : m ≡ drop k b ++ drop (0 + keep) b = e ∙ ap (λ (l : List ℕ). l ++ drop (0 + keep) b) (take_all keep (drop k b) (omega arith)) in
    let l : length m ≡ length b = ap length f ∙ simp (length-append, length-drop) (omega arith) in
    let front : take keep m ≡ drop n b = ap (take keep) f ∙ take_at (drop k b) (drop (0 + keep) b) keep d ∙ ap (λ (x : ℕ). drop x b) q ∙ drop_min n b in
    let c : length (take (length m - keep) (drop keep m)) ≡ min n (length b) = length-take-le (length m - keep) (drop keep m) (omega (arith, length-drop keep m)) ∙ omega arith in
    let none : drop (length m - keep) (drop keep m) ≡ [] = drop_of_length-le (drop keep m) {i = length m - keep} (omega (arith, length-drop keep m)) in
    let zeros : ys ≡ replicate (min n (length b)) 0 = z ∙ ap (λ (j : ℕ). replicate j 0) c in
    let rest : ys ++ drop (length m - keep) (drop keep m) ≡ replicate (min n (length b)) 0 =
    rw (zeros, none) (append-nil (replicate (min n (length b)) 0)) in
    rw (front, rest)

-- nothing is left of a buffer that is not longer than n
pub shift_all : (b : List ℕ) (n : ℕ) → length b ≤ n → replicate (length b) 0 ≡ shifted n b
unfolding shifted
shift_all b n h =
    let e : length b ≡ min n (length b) = omega arith in
    sym (ap₂ ◌++◌ (drop_of_length-le b {i = n} h) (ap (λ (j : ℕ). replicate j 0) (sym e)))

pub shift_none : (b : List ℕ) → b ≡ shifted 0 b
unfolding shifted
shift_none b =
    let e : min 0 (length b) ≡ 0 = omega arith in
    sym (ap (λ (k : ℕ). b ++ replicate k 0) e ∙ append-nil b)

pub length_shifted : (n : ℕ) (b : List ℕ) → length (shifted n b) ≡ length b
unfolding shifted
length_shifted n b = simp (length-append, length-drop, length-replicate) (omega arith)

-- where zeros stand from an end on, what comes before it is all that moves
pub shifted_part : (n end : ℕ) (b : List ℕ) → n ≤ end → end ≤ length b → drop end b ≡ replicate (length b - end) 0
    → shifted n (take end b) ++ drop end b ≡ shifted n b
unfolding shifted
shifted_part n end b h l z =
    let k = length b - end in
    let m = min n (length b) in
    let front = drop n (take end b) in
    let e : length (take end b) ≡ end = length-take-le end b l in
    let i : min n (length (take end b)) ≡ n = omega arith in
    let j : n + k ≡ k + m = omega arith in
    let swap : ◌≡◌ {A = List ℕ} (replicate n 0 ++ replicate k 0) (replicate k 0 ++ replicate m 0) =
    replicate-append-replicate n k 0 ∙ ap (λ (x : ℕ). replicate x 0) j ∙ sym (replicate-append-replicate k m 0) in
    let rest : front ++ replicate k 0 ≡ drop n b =
    ap (λ (x : List ℕ). front ++ x) (sym z) ∙ sym (drop-append-le n (take end b) (drop end b) (omega arith)) ∙ ap (drop n) (take-append-drop end b) in
    ap₂ (λ (x : ℕ) (y : List ℕ). (front ++ replicate x 0) ++ y) i z
    ∙ append_assoc front (replicate n 0) (replicate k 0)
    ∙ ap (λ (x : List ℕ). front ++ x) swap
    ∙ sym (append_assoc front (replicate k 0) (replicate m 0))
    ∙ ap (λ (x : List ℕ). x ++ replicate m 0) rest

-- fewer zeros
pub drop_zeros : (n k : ℕ) → ◌≡◌ {A = List ℕ} (drop n (replicate k 0)) (replicate (k - n) 0)
drop_zeros zero k = let e : k ≡ k - 0 = omega arith in ap (λ (j : ℕ). replicate j 0) e
drop_zeros (suc n) zero = let e : 0 ≡ 0 - suc n = omega arith in ap (λ (j : ℕ). replicate j 0) e
drop_zeros (suc n) (suc k) = let e : k - n ≡ suc k - suc n = omega arith in drop_zeros n k ∙ ap (λ (j : ℕ). replicate j 0) e
