-- Laws of `read_body`, `group_with` and `read_group`: a record at a time, what was read taken apart (-inv) and put together (-intro), and that it lies
-- within the list.
use Prim.Native.Nat.{ℕ, zero, suc, ◌+◌, ◌-◌, ◌≤◌, ◌<◌}
use native.Mathlib.Omega.{arith}
use mathlib.Core.Bool.{Bool, true, false, cond, ◌&&◌}
use mathlib.Core.List.{List, [], ◌∷◌}
use mathlib.Core.Option.{Option, none, some}
use mathlib.Core.Path.{◌≡◌, refl, sym, ap, ap₂, ◌∙◌, subst}
use lib.ListN.{length, get_or, drop, length-drop}
use lib.Seq.{drop-drop}
use lib.Dec.{eqb}
use borrow.Author.Tests.{eq-eqb, ne_eqb, eqb-true}
use Rattle.std.specs.Prelude.{Result, Ok, Err}
use Rattle.recovery.specs.Group.{Write, Group, committed, aborted, redo_size, group_size}
use Rattle.redolog.specs.Number.{be16, be32}
use Rattle.redolog.specs.Record.{Record, redo, commit, abort, read_record}
use Rattle.redolog.specs.Group.{group_by, turn_of, more, last, stop, and_then, on_turn, body_step, read_body, committed_if, group_with, read_group, end_of}
use Rattle.redolog.specs.Stop.{stop_of}
use Rattle.redolog.specs.declared.group.GroupEnd.{GroupEnd}
use Rattle.redolog.specs.declared.group.GroupEnd.TheVariants.{Aborted, Committed}
use Rattle.redolog.specs.declared.stop.Stop.{Stop}
use Rattle.redolog.specs.declared.stop.Stop.TheVariants.{Torn}
use Rattle.redolog.proofs.Basics.{clash, and_left, and_right, Turned}
use Rattle.redolog.proofs.Reader.{Shrinks, step}
use Rattle.redolog.proofs.RecordLaws.{record_front, record_within, record_none, record_short, record_abort, record_unclosed, record_commit, record_commit_short, record_commit_unclosed}
use Rattle.redolog.proofs.StopLaws.{stop_torn, record_torn}

body_shrinks : (next : ℕ) → Shrinks (body_step next)
body_shrinks next k l id s h = go (read_record s) refl
  where
    of_redo : (t : Bool) (w : Write) → 7 + length w.bytes ≤ length s → on_turn k id s (cond t (more w) stop) ≡ on_turn l id s (cond t (more w) stop)
    of_redo true w p = ap (and_then w) (h id (drop (7 + length w.bytes) s) (simp length-drop (omega arith)))
    of_redo false w p = refl

    of_commit : (t : Bool) → on_turn k id s (cond t last stop) ≡ on_turn l id s (cond t last stop)
    of_commit true = refl
    of_commit false = refl

    go : (x : Option Record) → read_record s ≡ x → on_turn k id s (turn_of next id x) ≡ on_turn l id s (turn_of next id x)
    go none e = refl
    go (some (redo i w)) e = of_redo (eqb i id) w (record_within s _ e)
    go (some (commit i n)) e = of_commit (eqb i id && eqb n next)
    go (some (abort i)) e = refl

pub body_step_lem : (next id : ℕ) (s : List ℕ) → read_body next id s ≡ on_turn (read_body next) id s (turn_of next id (read_record s))
unfolding read_body
body_step_lem next id s = step (body_step next) none (body_shrinks next) id s

-- ---- what the code answers of a body, by its first record

-- of a group that starts at a place
abbrev end_from : Stop → ℕ → Option Group → Result GroupEnd Stop
end_from why at none = Err why
end_from why at (some (committed id csn ws)) = Ok (Committed (record { 0 = id }) (record { 0 = csn }) (at + (redo_size ws + 8)))
end_from why at (some (aborted id)) = Ok (Aborted (record { 0 = id }) (at + 4))

-- why none goes on at a place of a group, with t left there: at its front t decides; after whole records it is torn, whatever follows
unfoldable pub stop_from : ℕ → List ℕ → Stop
stop_from zero t = stop_of t
stop_from (suc at) t = Torn

pub stop_front : (at : ℕ) (t : List ℕ) → at ≡ 0 → stop_from at t ≡ stop_of t
unfolding stop_from
stop_front at t e = ap (λ (i : ℕ). stop_from i t) e

pub stop_inside : (at : ℕ) (t : List ℕ) → 0 < at → stop_from at t ≡ Torn
unfolding stop_from
stop_inside zero t h = absurd (omega arith)
stop_inside (suc at) t h = refl

stop_record : (at : ℕ) (t : List ℕ) (r : Record) → read_record t ≡ some r → stop_from at t ≡ Torn
unfolding stop_from
stop_record zero t r e = record_torn t r e
stop_record (suc at) t r e = refl

pub body_start : (t : List ℕ) (x : Option Group) → end_of (stop_of t) x ≡ end_from (stop_from 0 t) 0 x
unfolding stop_from
body_start t none = refl
body_start t (some (committed id csn ws)) = ap (λ (k : ℕ). Ok (Committed (record { 0 = id }) (record { 0 = csn }) k)) (omega arith)
body_start t (some (aborted id)) = refl

abbrev pub body_end : ℕ → ℕ → ℕ → List ℕ → Result GroupEnd Stop
body_end next id at t = end_from (stop_from at t) at (committed_if id next (read_body next id t))

module _ (next id at : ℕ) (t : List ℕ) where
  body_stop : turn_of next id (read_record t) ≡ stop → body_end next id at t ≡ Err (stop_from at t)
  body_stop e = rw (body_step_lem, e)

  pub body_none : read_record t ≡ none → body_end next id at t ≡ Err (stop_from at t)
  body_none e = body_stop (ap (turn_of next id) e)

  -- a record that is none of the group's own
  body_other : (r : Record) → read_record t ≡ some r → turn_of next id (some r) ≡ stop → body_end next id at t ≡ Err Torn
  body_other r e h = body_stop (ap (turn_of next id) e ∙ h) ∙ ap Err (stop_record at t r e)

  pub body_abort : (i : ℕ) → read_record t ≡ some (abort i) → body_end next id at t ≡ Err Torn
  body_abort i e = body_other (abort i) e refl

  pub body_other_redo : (i : ℕ) (w : Write) → read_record t ≡ some (redo i w) → (i ≡ id → ⊥) → body_end next id at t ≡ Err Torn
  body_other_redo i w e h = body_other (redo i w) e (simp (ne_eqb i id h))

  pub body_other_commit : (i n : ℕ) → read_record t ≡ some (commit i n) → (i ≡ id → ⊥) → body_end next id at t ≡ Err Torn
  body_other_commit i n e h = body_other (commit i n) e (simp (ne_eqb i id h))

  pub body_other_csn : (i n : ℕ) → read_record t ≡ some (commit i n) → i ≡ id → (n ≡ next → ⊥) → body_end next id at t ≡ Err Torn
  body_other_csn i n e p h = body_other (commit i n) e (simp (eq-eqb i id p, ne_eqb n next h))

  pub body_last : (i n : ℕ) → read_record t ≡ some (commit i n) → i ≡ id → n ≡ next
      → body_end next id at t ≡ Ok (Committed (record { 0 = id }) (record { 0 = n }) (at + 8))
  body_last i n e p q = rw (body_step_lem, e, p, q) (simp (eq-eqb id id refl, eq-eqb next next refl))

  body_more : (w : Write) → read_record t ≡ some (redo id w)
      → body_end next id at t ≡ body_end next id (at + (7 + length w.bytes)) (drop (7 + length w.bytes) t)
  body_more w e = rw (body_step_lem next id t, e) (simp (eq-eqb id id refl) (go (read_body next id (drop (7 + length w.bytes) t))))
    where
      to : ℕ
      to = at + (7 + length w.bytes)

      go : (x : Option (List Write))
          → end_from (stop_from at t) at (committed_if id next (and_then w x))
          ≡ end_from (stop_from to (drop (7 + length w.bytes) t)) to (committed_if id next x)
      go none = ap Err (stop_record at t (redo id w) e ∙ sym (stop_inside to (drop (7 + length w.bytes) t) (omega arith)))
      go (some ws) = ap (λ (k : ℕ). Ok (Committed (record { 0 = id }) (record { 0 = next }) k)) (omega arith)

-- over a redo record, at a place of a list
pub body_turn : (next id at i : ℕ) (w : Write) (s : List ℕ) (to : ℕ) → at ≤ length s → read_record (drop at s) ≡ some (redo i w) → i ≡ id
    → to ≡ at + (7 + length w.bytes) → Turned s at to (body_end next id at (drop at s)) (body_end next id to (drop to s))
body_turn next id at i w s to l e p h =
    let n : 7 + length w.bytes ≤ length s - at = rw length-drop at (record_within (drop at s) _ e) in
    record {
      within = omega arith;
      less = omega arith;
      same = body_more next id at (drop at s) w (e ∙ ap (λ (x : ℕ). some (redo x w)) p)
          ∙ ap₂ (λ (j : ℕ) (t : List ℕ). body_end next id j t) (sym h) (drop-drop (7 + length w.bytes) at s ∙ ap (λ (j : ℕ). drop j s) (sym h));
    }

-- ---- a body taken apart: its first record, and the rest of it

abbrev pub BodyAt : ℕ → ℕ → List ℕ → List Write → Type 0
BodyAt next id s [] = read_record s ≡ some (commit id next)
BodyAt next id s (w ∷ ws) = (read_record s ≡ some (redo id w)) × (read_body next id (drop (7 + length w.bytes) s) ≡ some ws)

pub body_inv : (next id : ℕ) (s : List ℕ) (ws : List Write) → read_body next id s ≡ some ws → BodyAt next id s ws
body_inv next id s ws e = go (read_record s) refl ws (sym (body_step_lem next id s) ∙ e)
  where
    rest : (w : Write) (y : Option (List Write)) → read_record s ≡ some (redo id w) → read_body next id (drop (7 + length w.bytes) s) ≡ y
        → (ws : List Write) → and_then w y ≡ some ws → BodyAt next id s ws
    rest w none p q ws h = clash (cc)
    rest w (some vs) p q [] h = clash (cc)
    rest w (some vs) p q (v ∷ ws) h = let k : v ≡ w = cc in rw k (p, q ∙ cc)

    of_redo : (t : Bool) (i : ℕ) (w : Write) → eqb i id ≡ t → read_record s ≡ some (redo i w)
        → (ws : List Write) → on_turn (read_body next) id s (cond t (more w) stop) ≡ some ws → BodyAt next id s ws
    of_redo true i w t p ws h = rest w _ (p ∙ ap (λ (x : ℕ). some (redo x w)) (eqb-true i id t)) refl ws h
    of_redo false i w t p ws h = clash (cc)

    of_commit : (t : Bool) (i n : ℕ) → (eqb i id && eqb n next) ≡ t → read_record s ≡ some (commit i n)
        → (ws : List Write) → on_turn (read_body next) id s (cond t last stop) ≡ some ws → BodyAt next id s ws
    of_commit true i n t p [] h =
        p
        ∙ ap₂ (λ (x y : ℕ). some (commit x y)) (eqb-true i id (and_left (eqb i id) (eqb n next) t))
        (eqb-true n next (and_right (eqb i id) (eqb n next) t))
    of_commit true i n t p (w ∷ ws) h = clash (cc)
    of_commit false i n t p ws h = clash (cc)

    go : (x : Option Record) → read_record s ≡ x → (ws : List Write) → on_turn (read_body next) id s (turn_of next id x) ≡ some ws → BodyAt next id s ws
    go none p ws h = clash (cc)
    go (some (redo i w)) p ws h = of_redo (eqb i id) i w refl p ws h
    go (some (commit i n)) p ws h = of_commit (eqb i id && eqb n next) i n refl p ws h
    go (some (abort i)) p ws h = clash (cc)

pub body_intro : (next id : ℕ) (s : List ℕ) (ws : List Write) → BodyAt next id s ws → read_body next id s ≡ some ws
body_intro next id s [] e = body_step_lem next id s ∙ rw e (simp (eq-eqb id id refl, eq-eqb next next refl))
body_intro next id s (w ∷ ws) e = body_step_lem next id s ∙ rw e.0 (simp (eq-eqb id id refl, e.1))

pub body_within : (next id : ℕ) (ws : List Write) (s : List ℕ) → read_body next id s ≡ some ws → redo_size ws + 8 ≤ length s
body_within next id [] s e = record_within s _ (body_inv next id s [] e)
body_within next id (w ∷ ws) s e =
    let i = body_inv next id s (w ∷ ws) e in
    let l = record_within s _ i.0 in
    omega (arith, l, length-drop (7 + length w.bytes) s, body_within next id ws (drop (7 + length w.bytes) s) i.1)

-- ---- a group by its first record, taken apart, and put together

module _ (next : ℕ) (s : List ℕ) where
  pub group_with_redo : (id : ℕ) (w : Write) → read_record s ≡ some (redo id w) → group_with next s ≡ committed_if id next (read_body next id s)
  unfolding group_with
  group_with_redo id w e = ap (group_by next s) e

  pub group_with_commit : (id n : ℕ) → read_record s ≡ some (commit id n) → group_with next s ≡ committed_if id next (read_body next id s)
  unfolding group_with
  group_with_commit id n e = ap (group_by next s) e

  pub group_with_abort : (id : ℕ) → read_record s ≡ some (abort id) → group_with next s ≡ some (aborted id)
  unfolding group_with
  group_with_abort id e = ap (group_by next s) e

  pub group_with_none : read_record s ≡ none → group_with next s ≡ none
  unfolding group_with
  group_with_none e = ap (group_by next s) e

-- what does not begin as an abort is a body of the id after its first byte, or nothing
pub group_with_other : (next id : ℕ) (s : List ℕ) → (get_or s 0 0 ≡ 3 → ⊥) → be16 s 1 ≡ id → group_with next s ≡ committed_if id next (read_body next id s)
group_with_other next id s h k = go (read_record s) refl
  where
    go : (x : Option Record) → read_record s ≡ x → group_with next s ≡ committed_if id next (read_body next id s)
    go none e =
        group_with_none next s e
        ∙ sym (ap (committed_if id next) (body_step_lem next id s ∙ ap (λ (x : Option Record). on_turn (read_body next) id s (turn_of next id x)) e))
    go (some (redo i w)) e =
        group_with_redo next s i w e ∙ ap (λ (j : ℕ). committed_if j next (read_body next j s)) ((record_front s (redo i w) e).1 ∙ k)
    go (some (commit i n)) e =
        group_with_commit next s i n e ∙ ap (λ (j : ℕ). committed_if j next (read_body next j s)) ((record_front s (commit i n) e).1 ∙ k)
    go (some (abort i)) e = absurd (h (sym (record_front s (abort i) e).0))

-- what begins as a commit is a group alone if its number is the one expected
pub lone_commit : (next id n : ℕ) (s : List ℕ) → get_or s 0 0 ≡ 2 → be16 s 1 ≡ id → (id ≡ 0 → ⊥) → get_or s 7 0 ≡ 2 → be32 s 3 ≡ n → n ≡ next
    → group_with next s ≡ some (committed id n [])
lone_commit next id n s k i z c m e =
    let r = record_commit s id n k i z c m in
    group_with_commit next s id n r
    ∙ ap (committed_if id next) (body_intro next id s [] (r ∙ ap (λ (x : ℕ). some (commit id x)) e))
    ∙ ap (λ (x : ℕ). some (committed id x [])) (sym e)

pub lone_other : (next id n : ℕ) (s : List ℕ) → get_or s 0 0 ≡ 2 → be16 s 1 ≡ id → (id ≡ 0 → ⊥) → get_or s 7 0 ≡ 2 → be32 s 3 ≡ n → (n ≡ next → ⊥)
    → group_with next s ≡ none
lone_other next id n s k i z c m h =
    let r = record_commit s id n k i z c m in
    let b : read_body next id s ≡ none = rw (body_step_lem next id s, r) (simp (eq-eqb id id refl, ne_eqb n next h)) in
    group_with_commit next s id n r ∙ ap (committed_if id next) b

-- what the first bytes say of a group
pub ruleset lone_fronts = (record_none, record_commit_short, record_commit_unclosed, stop_torn, lone_commit, lone_other, group_with_none)

pub ruleset group_fronts = (record_none, record_short, record_abort, record_unclosed, stop_torn, group_with_other, group_with_abort, group_with_none)

abbrev pub GroupAt : ℕ → List ℕ → Group → Type 0
GroupAt next s (committed id n ws) = (n ≡ next) × (read_body next id s ≡ some ws)
GroupAt next s (aborted id) = read_record s ≡ some (abort id)

pub group_with_inv : (next : ℕ) (s : List ℕ) (g : Group) → group_with next s ≡ some g → GroupAt next s g
unfolding group_with
group_with_inv next s = go (read_record s) refl
  where
    of_body : (id : ℕ) (y : Option (List Write)) → read_body next id s ≡ y → (g : Group) → committed_if id next y ≡ some g → GroupAt next s g
    of_body id none p g h = clash (cc)
    of_body id (some ws) p (aborted j) h = clash (cc)
    of_body id (some ws) p (committed j n vs) h =
        let k : j ≡ id = cc in
        let m : n ≡ next = cc in
        (m, rw k (cc))

    go : (x : Option Record) → read_record s ≡ x → (g : Group) → group_by next s x ≡ some g → GroupAt next s g
    go none p g h = clash (cc)
    go (some (redo id w)) p g h = of_body id _ refl g h
    go (some (commit id n)) p g h = of_body id _ refl g h
    go (some (abort id)) p (aborted j) h = let k : j ≡ id = cc in rw k p
    go (some (abort id)) p (committed j n ws) h = clash (cc)

pub group_with_intro : (next : ℕ) (s : List ℕ) (g : Group) → GroupAt next s g → group_with next s ≡ some g
group_with_intro next s (aborted id) e = group_with_abort next s id e
group_with_intro next s (committed id n ws) e =
    go ws (body_inv next id s ws e.1) ∙ ap (committed_if id next) e.1 ∙ ap (λ (k : ℕ). some (committed id k ws)) (sym e.0)
  where
    go : (ws : List Write) → BodyAt next id s ws → group_with next s ≡ committed_if id next (read_body next id s)
    go [] b = group_with_commit next s id next b
    go (w ∷ ws) b = group_with_redo next s id w b.0

pub group_with_within : (next : ℕ) (s : List ℕ) (g : Group) → group_with next s ≡ some g → (4 ≤ group_size g) × (group_size g ≤ length s)
group_with_within next s (aborted id) e = (omega arith, record_within s _ (group_with_inv next s (aborted id) e))
group_with_within next s (committed id n ws) e = (omega arith, body_within next id ws s (group_with_inv next s (committed id n ws) e).1)

-- ---- whatever number is expected, the same group is read, or none

body_any_same : (m n i j : ℕ) (ws vs : List Write) (s : List ℕ) → read_body m i s ≡ some ws → read_body n j s ≡ some vs → committed i m ws ≡ committed j n vs
body_any_same m n i j [] [] s e f = let c : some (commit i m) ≡ some (commit j n) = sym (body_inv m i s [] e) ∙ body_inv n j s [] f in cc
body_any_same m n i j [] (v ∷ vs) s e f = clash (cc (body_inv m i s [] e, (body_inv n j s (v ∷ vs) f).0))
body_any_same m n i j (w ∷ ws) [] s e f = clash (cc ((body_inv m i s (w ∷ ws) e).0, body_inv n j s [] f))
body_any_same m n i j (w ∷ ws) (v ∷ vs) s e f =
    let a = body_inv m i s (w ∷ ws) e in
    let b = body_inv n j s (v ∷ vs) f in
    let c : some (redo i w) ≡ some (redo j v) = sym a.0 ∙ b.0 in
    let k : v ≡ w = cc in
    let rest = body_any_same m n i j ws vs (drop (7 + length w.bytes) s) a.1 (subst (λ (x : Write). read_body n j (drop (7 + length x.bytes) s) ≡ some vs) k b.1) in
    cc

pub any_same : (m n : ℕ) (s : List ℕ) (g h : Group) → group_with m s ≡ some g → group_with n s ≡ some h → g ≡ h
any_same m n s g h e f = go g h (group_with_inv m s g e) (group_with_inv n s h f)
  where
    other : (k i j : ℕ) (ws : List Write) → read_record s ≡ some (abort i) → BodyAt k j s ws → aborted i ≡ committed j k ws
    other k i j [] a b = clash (cc)
    other k i j (w ∷ ws) a b = clash (cc b.0)

    go : (g h : Group) → GroupAt m s g → GroupAt n s h → g ≡ h
    go (aborted i) (aborted j) a b = let c : some (abort i) ≡ some (abort j) = sym a ∙ b in cc
    go (aborted i) (committed j k vs) a b = other n i j vs a (body_inv n j s vs b.1) ∙ ap (λ (x : ℕ). committed j x vs) (sym b.0)
    go (committed i k ws) (aborted j) a b = sym (other m j i ws b (body_inv m i s ws a.1) ∙ ap (λ (x : ℕ). committed i x ws) (sym a.0))
    go (committed i k ws) (committed j l vs) a b =
        let c = body_any_same m n i j ws vs s a.1 b.1 in
        let p = a.0 in
        let q = b.0 in
        cc

-- ---- after a commit number

pub group_next : (prev : ℕ) (s : List ℕ) → read_group prev s ≡ group_with (prev + 1) s
unfolding read_group
group_next prev s = refl

module _ (prev : ℕ) (s : List ℕ) where
  pub group_none : read_record s ≡ none → read_group prev s ≡ none
  group_none e = group_next prev s ∙ group_with_none (prev + 1) s e

  pub group_inv : (g : Group) → read_group prev s ≡ some g → GroupAt (prev + 1) s g
  group_inv g e = group_with_inv (prev + 1) s g (sym (group_next prev s) ∙ e)

  pub group_intro : (g : Group) → GroupAt (prev + 1) s g → read_group prev s ≡ some g
  group_intro g e = group_next prev s ∙ group_with_intro (prev + 1) s g e

  pub group_within : (g : Group) → read_group prev s ≡ some g → (4 ≤ group_size g) × (group_size g ≤ length s)
  group_within g e = group_with_within (prev + 1) s g (sym (group_next prev s) ∙ e)
