-- Laws of the redo records at the front of a list: one at a time, as the code does them, and that of a whole group they are its writes.
use Prim.Native.Nat.{ℕ, ◌+◌, ◌-◌, ◌≤◌, ◌<◌}
use native.Mathlib.Omega.{arith}
use mathlib.Core.List.{List, [], ◌∷◌}
use mathlib.Core.Option.{Option, none, some}
use mathlib.Core.Path.{◌≡◌, refl, sym, ap, ap₂, ◌∙◌, subst}
use lib.ListN.{length, get_or, take, drop, length-drop}
use lib.Seq.{sets, drop-drop, length-take-le}
use lib.Dec.{eqb}
use borrow.Author.Tests.{eqb-true}
use Rattle.recovery.specs.Group.{Write, redo_size}
use Rattle.recovery.specs.Replay.{redo_all, lay_bytes}
use Rattle.redolog.specs.Number.{be16, be32}
use Rattle.redolog.specs.Record.{Record, redo, commit, abort, in_range, read_redo, read_commit, read_abort, read_record}
use Rattle.redolog.specs.Group.{read_body}
use Rattle.redolog.proofs.Basics.{nonzero_within, and_left, and_right}
use Rattle.redolog.proofs.Reader.{Shrinks, step}
use Rattle.redolog.proofs.RecordLaws.{keep_inv, record_cases, record_within}
use Rattle.redolog.proofs.GroupLaws.{body_inv}
use Rattle.transaction.proofs.RangeLaws.{in_range_lem}
use Rattle.restart.specs.Turns.{lay_front, front_size, on_record, redo_step, front_writes}

-- ---- what a redo record that is read says of its bytes

abbrev pub RedoIs : List ℕ → Record → Type 0
RedoIs s (redo id w) =
    (w.addr ≡ be16 s 3) × (length w.bytes ≡ get_or s 5 0) × (w.bytes ≡ take (get_or s 5 0) (drop 6 s)) × (w.addr + length w.bytes ≤ 4096)
RedoIs s (commit id n) = Unit {0}
RedoIs s (abort id) = Unit {0}

redo_is : (id : ℕ) (s : List ℕ) (r : Record) → read_redo id s ≡ some r → RedoIs s r
unfolding read_redo
redo_is id s r e =
    let n = get_or s 5 0 in
    let i = keep_inv _ _ r e in
    let t = in_range_lem (be16 s 3) n (and_right (eqb (get_or s (6 + n) 0) 1) (in_range (be16 s 3) n) i.0) in
    let b : get_or s (6 + n) 0 ≡ 1 = eqb-true _ _ (and_left (eqb (get_or s (6 + n) 0) 1) (in_range (be16 s 3) n) i.0) in
    let l = nonzero_within s (6 + n) 0 b in
    let d : length (take n (drop 6 s)) ≡ n = length-take-le n (drop 6 s) (simp length-drop (omega arith)) in
    subst (λ (r : Record). RedoIs s r) i.1 (refl, d, refl, omega (arith, t, d))

commit_is : (id : ℕ) (s : List ℕ) (r : Record) → read_commit id s ≡ some r → RedoIs s r
unfolding read_commit
commit_is id s r e = subst (λ (r : Record). RedoIs s r) (keep_inv (eqb (get_or s 7 0) 2) (commit id (be32 s 3)) r e).1 (tt {0})

abort_is : (id : ℕ) (s : List ℕ) (r : Record) → read_abort id s ≡ some r → RedoIs s r
unfolding read_abort
abort_is id s r e = subst (λ (r : Record). RedoIs s r) (keep_inv (eqb (get_or s 3 0) 3) (abort id) r e).1 (tt {0})

pub redo_parts : (s : List ℕ) (id : ℕ) (w : Write) → read_record s ≡ some (redo id w) → RedoIs s (redo id w)
redo_parts s id w =
    record_cases (λ r. RedoIs s r) s (λ r k e. redo_is _ s r e) (λ r k e. commit_is _ s r e) (λ r k e. abort_is _ s r e) (redo id w)

-- ---- the front of a list, a record at a time

redo_shrinks : Shrinks redo_step
redo_shrinks k l u s h = go (read_record s) refl
  where
    go : (x : Option Record) → read_record s ≡ x → on_record k u s x ≡ on_record l u s x
    go none e = refl
    go (some (redo i w)) e =
        let n = record_within s _ e in
        ap (λ (vs : List Write). w ∷ vs) (h u (drop (7 + length w.bytes) s) (simp length-drop (omega arith)))
    go (some (commit i n)) e = refl
    go (some (abort i)) e = refl

front_by : (s : List ℕ) (x : Option Record) → read_record s ≡ x → front_writes s ≡ on_record (λ (u : ℕ) (t : List ℕ). front_writes t) 0 s x
unfolding front_writes
front_by s none e = step redo_step [] redo_shrinks 0 s ∙ rw e
front_by s (some (redo i w)) e = step redo_step [] redo_shrinks 0 s ∙ rw e
front_by s (some (commit i n)) e = step redo_step [] redo_shrinks 0 s ∙ rw e
front_by s (some (abort i)) e = step redo_step [] redo_shrinks 0 s ∙ rw e

-- of a whole group these are its writes
pub front_body : (next id : ℕ) (ws : List Write) (s : List ℕ) → read_body next id s ≡ some ws → front_writes s ≡ ws
front_body next id [] s e = front_by s _ (body_inv next id s [] e)
front_body next id (w ∷ ws) s e =
    let i = body_inv next id s (w ∷ ws) e in
    front_by s _ i.0 ∙ ap (λ (vs : List Write). w ∷ vs) (front_body next id ws (drop (7 + length w.bytes) s) i.1)

-- ---- the code's turns

module _ (s m : List ℕ) (id : ℕ) (w : Write) (e : read_record s ≡ some (redo id w)) where
  pub redo_case : (at : ℕ) (c : List ℕ) → at ≡ be16 s 3 → c ≡ sets m at (take (6 + get_or s 5 0 - 6) (drop 6 s))
      → (7 + get_or s 5 0 ≡ front_size (read_record s)) × (c ≡ lay_front (read_record s) m)
  redo_case at c p q =
      let i = redo_parts s id w e in
      let k : 6 + get_or s 5 0 - 6 ≡ get_or s 5 0 = omega arith in
      let b : take (6 + get_or s 5 0 - 6) (drop 6 s) ≡ w.bytes = ap (λ (j : ℕ). take j (drop 6 s)) k ∙ sym i.2 in
      (rw e (omega (arith, i.1)), rw e (q ∙ ap₂ (λ (a : ℕ) (bs : List ℕ). sets m a bs) (p ∙ sym i.0) b))

-- the records that are left, up to the place where they end
pub record Body (size : ℕ) (s : List ℕ) (at : ℕ) : Type 0 where
  pub next : ℕ
  pub id : ℕ
  pub writes : List Write
  pub read : read_body next id (drop at s) ≡ some writes
  pub ends : at + redo_size writes ≡ size

-- one of them
pub body_here : (size : ℕ) (s : List ℕ) (at : ℕ) → Body size s at → at < size → (id : ℕ) × (w : Write) × (read_record (drop at s) ≡ some (redo id w))
body_here size s at b h = go b.writes b.read b.ends
  where
    go : (ws : List Write) → read_body b.next b.id (drop at s) ≡ some ws → at + redo_size ws ≡ size
        → (id : ℕ) × (w : Write) × (read_record (drop at s) ≡ some (redo id w))
    go [] e l = absurd (omega (arith, l, h))
    go (w ∷ ws) e l = (b.id, w, (body_inv b.next b.id (drop at s) (w ∷ ws) e).0)

-- a turn of the loop, to the next one
module _ (size : ℕ) (s m c : List ℕ) (at k : ℕ) (b : Body size s at) (h : at < size) (fits : k ≡ front_size (read_record (drop at s)))
    (laid : c ≡ lay_front (read_record (drop at s)) m) where
  pub record RedoTurn : Type 0 where
    pub grows : at < at + k
    pub within : at + k ≤ size
    pub inside : at + k ≤ length s
    pub rest : Body size s (at + k)
    pub same : redo_all lay_bytes (front_writes (drop at s)) m ≡ redo_all lay_bytes (front_writes (drop (at + k) s)) c

  pub redo_turn : RedoTurn
  redo_turn = go b.writes b.read b.ends
    where
      go : (ws : List Write) → read_body b.next b.id (drop at s) ≡ some ws → at + redo_size ws ≡ size → RedoTurn
      go [] e l = absurd (omega (arith, l, h))
      go (w ∷ ws) e l =
          let i = body_inv b.next b.id (drop at s) (w ∷ ws) e in
          let n : k ≡ 7 + length w.bytes = fits ∙ ap front_size i.0 in
          let d = length-drop at s in
          let r = record_within (drop at s) _ i.0 in
          let there : drop (7 + length w.bytes) (drop at s) ≡ drop (at + k) s =
          drop-drop (7 + length w.bytes) at s ∙ ap (λ (j : ℕ). drop (at + j) s) (sym n) in
          record {
            grows = omega (arith, n);
            within = omega (arith, n, l);
            inside = omega (arith, n, d, r);
            rest =
                record {
                  next = b.next;
                  id = b.id;
                  writes = ws;
                  read = ap (read_body b.next b.id) (sym there) ∙ i.1;
                  ends = omega (arith, n, l);
                };
            same = ap (λ (vs : List Write). redo_all lay_bytes vs m) (front_by (drop at s) _ i.0)
                ∙ ap₂ (λ (t x : List ℕ). redo_all lay_bytes (front_writes t) x) there (sym (laid ∙ ap (λ (y : Option Record). lay_front y m) i.0));
          }

-- the end: none is left
pub redo_done : (size : ℕ) (s m : List ℕ) (at : ℕ) → Body size s at → size ≤ at → redo_all lay_bytes (front_writes (drop at s)) m ≡ m
redo_done size s m at b h = go b.writes b.read b.ends
  where
    go : (ws : List Write) → read_body b.next b.id (drop at s) ≡ some ws → at + redo_size ws ≡ size → redo_all lay_bytes (front_writes (drop at s)) m ≡ m
    go [] e l = ap (λ (vs : List Write). redo_all lay_bytes vs m) (front_body b.next b.id [] (drop at s) e)
    go (w ∷ ws) e l = absurd (omega (arith, l, h))
