-- Laws of `read_log_with` and `read_log`: a group at a time.
use Prim.Native.Nat.{ℕ, suc, ◌+◌, ◌≤◌}
use native.Mathlib.Omega.{arith}
use mathlib.Core.List.{List, [], ◌∷◌}
use mathlib.Core.Option.{Option, none, some}
use mathlib.Core.Path.{◌≡◌, refl, sym, ap, ◌∙◌, subst}
use lib.ListN.{length, take, drop, length-drop}
use lib.Seq.{drop-drop, take_all, take-nil}
use Rattle.recovery.specs.Group.{Group, committed, aborted, group_size, groups_size, csn_after, last_csn}
use Rattle.redolog.specs.Group.{group_with, read_group}
use Rattle.redolog.specs.Log.{next_after, on_group, log_step, read_log_with, read_log, reached_of}
use Rattle.redolog.specs.declared.scan.Reached.{Reached}
use Rattle.redolog.proofs.Basics.{clash, Turned}
use Rattle.redolog.proofs.Reader.{Shrinks, step}
use Rattle.redolog.proofs.GroupLaws.{group_with_within, group_next, group_within}

log_shrinks : Shrinks log_step
log_shrinks k l next s h = go (group_with next s) refl
  where
    go : (x : Option Group) → group_with next s ≡ x → on_group k next s x ≡ on_group l next s x
    go none e = refl
    go (some g) e =
        let w = group_with_within next s g e in
        ap (λ (gs : List Group). g ∷ gs) (h (next_after next g) (drop (group_size g) s) (simp length-drop (omega arith)))

log_with_step : (next : ℕ) (s : List ℕ) → read_log_with next s ≡ on_group read_log_with next s (group_with next s)
unfolding read_log_with
log_with_step next s = step log_step [] log_shrinks next s

pub log_with_none : (next : ℕ) (s : List ℕ) → group_with next s ≡ none → read_log_with next s ≡ []
log_with_none next s e = log_with_step next s ∙ ap (on_group read_log_with next s) e

pub log_with_more : (next : ℕ) (s : List ℕ) (g : Group) → group_with next s ≡ some g
    → read_log_with next s ≡ g ∷ read_log_with (next_after next g) (drop (group_size g) s)
log_with_more next s g e = log_with_step next s ∙ ap (on_group read_log_with next s) e

-- ---- after a commit number

pub log_next : (prev : ℕ) (s : List ℕ) → read_log prev s ≡ read_log_with (prev + 1) s
unfolding read_log
log_next prev s = refl

next_after_lem : (prev : ℕ) (g : Group) → next_after (prev + 1) g ≡ csn_after prev g + 1
next_after_lem prev (committed id n ws) = refl
next_after_lem prev (aborted id) = refl

pub log_none : (prev : ℕ) (s : List ℕ) → read_group prev s ≡ none → read_log prev s ≡ []
log_none prev s e = log_next prev s ∙ log_with_none (prev + 1) s (sym (group_next prev s) ∙ e)

pub log_more : (prev : ℕ) (s : List ℕ) (g : Group) → read_group prev s ≡ some g → read_log prev s ≡ g ∷ read_log (csn_after prev g) (drop (group_size g) s)
log_more prev s g e =
    let t = drop (group_size g) s in
    log_next prev s
    ∙ log_with_more (prev + 1) s g (sym (group_next prev s) ∙ e)
    ∙ ap (λ (gs : List Group). g ∷ gs) (ap (λ (n : ℕ). read_log_with n t) (next_after_lem prev g) ∙ sym (log_next (csn_after prev g) t))

-- ---- what the code answers of the first m groups of a log, at a place of a list

abbrev end_from : ℕ → ℕ → List Group → Reached
end_from at prev gs = record { end = at + groups_size gs; csn = record { 0 = last_csn prev gs } }

-- from place 0 on, the same as without a place
pub first_start : (prev : ℕ) (gs : List Group) → reached_of prev gs ≡ end_from 0 prev gs
first_start prev gs = ap (λ (k : ℕ). record { end = k; csn = record { 0 = last_csn prev gs } }) (omega arith)

abbrev pub first_end : ℕ → ℕ → ℕ → List ℕ → Reached
first_end at prev m s = end_from at prev (take m (read_log prev s))

first_nil : (at prev : ℕ) → end_from at prev [] ≡ record { end = at; csn = record { 0 = prev } }
first_nil at prev = ap (λ (k : ℕ). record { end = k; csn = record { 0 = prev } }) (omega arith)

-- none is there
pub first_none : (at prev m : ℕ) (s : List ℕ) → read_group prev s ≡ none → first_end at prev m s ≡ record { end = at; csn = record { 0 = prev } }
first_none at prev m s e =
    ap (λ (gs : List Group). end_from at prev (take m gs)) (log_none prev s e) ∙ ap (end_from at prev) (take-nil m) ∙ first_nil at prev

-- over a group, at a place of a list
pub first_turn : (prev at : ℕ) (s : List ℕ) (k n m r : ℕ) (g : Group) → at ≤ length s → read_group prev (drop at s) ≡ some g → k ≡ group_size g
    → n ≡ csn_after prev g → m ≡ suc r
    → Turned s at (at + k) (first_end at prev m (drop at s)) (first_end (at + k) n r (drop (at + k) s))
first_turn prev at s k n m r g l e h q z =
    let i = group_within prev (drop at s) g e in
    let d = length-drop at s in
    record {
      within = omega arith;
      less = omega arith;
      same = ap (λ (j : ℕ). first_end at prev j (drop at s)) z
          ∙ ap (λ (gs : List Group). end_from at prev (take (suc r) gs)) (log_more prev (drop at s) g e)
          ∙ rw (h, q, drop-drop (group_size g) at s) (over (take r (read_log (csn_after prev g) (drop (at + group_size g) s))));
    }
  where
    over : (gs : List Group) → end_from at prev (g ∷ gs) ≡ end_from (at + group_size g) (csn_after prev g) gs
    over gs = ap (λ (j : ℕ). record { end = j; csn = record { 0 = last_csn (csn_after prev g) gs } }) (omega arith)

-- ---- a log taken apart

pub log_with_inv_none : (next : ℕ) (s : List ℕ) → read_log_with next s ≡ [] → group_with next s ≡ none
log_with_inv_none next s e = go (group_with next s) refl
  where
    go : (x : Option Group) → group_with next s ≡ x → x ≡ none
    go none p = refl
    go (some g) p = clash (cc (log_with_more next s g p))

pub log_with_inv : (next : ℕ) (s : List ℕ) (g : Group) (gs : List Group) → read_log_with next s ≡ g ∷ gs
    → (group_with next s ≡ some g) × (read_log_with (next_after next g) (drop (group_size g) s) ≡ gs)
log_with_inv next s g gs e = go (group_with next s) refl
  where
    go : (x : Option Group) → group_with next s ≡ x → (x ≡ some g) × (read_log_with (next_after next g) (drop (group_size g) s) ≡ gs)
    go none p = clash (cc (log_with_none next s p))
    go (some h) p =
        let m : h ∷ read_log_with (next_after next h) (drop (group_size h) s) ≡ g ∷ gs = sym (log_with_more next s h p) ∙ e in
        let q : h ≡ g = cc in
        (ap some q, subst (λ (k : Group). read_log_with (next_after next k) (drop (group_size k) s) ≡ gs) q (cc))

pub log_inv : (prev : ℕ) (s : List ℕ) (g : Group) (gs : List Group) → read_log prev s ≡ g ∷ gs
    → (read_group prev s ≡ some g) × (read_log (csn_after prev g) (drop (group_size g) s) ≡ gs)
log_inv prev s g gs e =
    let i = log_with_inv (prev + 1) s g gs (sym (log_next prev s) ∙ e) in
    let t = drop (group_size g) s in
    (group_next prev s ∙ i.0, log_next (csn_after prev g) t ∙ ap (λ (n : ℕ). read_log_with n t) (sym (next_after_lem prev g)) ∙ i.1)

-- the groups lie within the list, so there are no more of them than bytes
pub log_with_within : (next : ℕ) (gs : List Group) (s : List ℕ) → read_log_with next s ≡ gs → groups_size gs ≤ length s
log_with_within next [] s e = omega arith
log_with_within next (g ∷ gs) s e =
    let i = log_with_inv next s g gs e in
    let w = group_with_within next s g i.0 in
    omega (arith, length-drop (group_size g) s, log_with_within (next_after next g) gs (drop (group_size g) s) i.1)

pub log_within : (prev : ℕ) (gs : List Group) (s : List ℕ) → read_log prev s ≡ gs → groups_size gs ≤ length s
log_within prev gs s e = log_with_within (prev + 1) gs s (sym (log_next prev s) ∙ e)

group_some : (g : Group) → 1 ≤ group_size g
group_some (committed id n ws) = omega arith
group_some (aborted id) = omega arith

groups_many : (gs : List Group) → length gs ≤ groups_size gs
groups_many [] = omega arith
groups_many (g ∷ gs) = omega (arith, group_some g, groups_many gs)

pub log_whole : (prev : ℕ) (s : List ℕ) → take (length s) (read_log prev s) ≡ read_log prev s
log_whole prev s = take_all (length s) (read_log prev s) (omega (arith, groups_many (read_log prev s), log_within prev (read_log prev s) s refl))
