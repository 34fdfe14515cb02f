-- Soundness: what a reader accepts is the encoding of what it answers, and is well formed. So a string of bytes has one reading at most,
-- and two meanings never share their bytes.
use Prim.Native.Nat.{ℕ, suc, ◌+◌, ◌*◌, ◌/◌, ◌%◌, ◌≤◌, ◌<◌}
use native.Mathlib.Omega.{arith}
use mathlib.Core.Bool.{true, not}
use mathlib.Core.List.{List, [], ◌∷◌, ◌++◌, append_assoc, append-nil}
use mathlib.Core.Option.{some}
use mathlib.Core.Path.{◌≡◌, refl, sym, ap, ap₂, ◌∙◌, subst}
use lib.ListN.{length, get_or, take, drop, length-drop, take-append-drop}
use lib.Seq.{drop-cons, drop-drop, get_or-drop, length-take-le}
use lib.Dec.{eqb}
use borrow.Author.Tests.{eq-eqb, eqb-true}
use Rattle.recovery.specs.Group.{Write, Group, committed, aborted, redo_size, group_size, groups_size, csn_after, last_csn}
use Rattle.redolog.specs.Number.{be16, be32, bytes16, bytes32}
use Rattle.redolog.specs.Record.{Record, redo, commit, abort, size, encode, well_formed, in_range, read_redo, read_commit, read_abort, read_record}
use Rattle.redolog.specs.Group.{encode_body, encode_group, well_formed_body, well_formed_group, read_body, read_group}
use Rattle.redolog.specs.Log.{read_log, encode_log, well_formed_log}
use Rattle.redolog.proofs.Basics.{and_left, and_right, and_both, nonzero_within}
use Rattle.redolog.proofs.RecordLaws.{keep_inv, record_cases, record_named}
use Rattle.redolog.proofs.GroupLaws.{body_inv, group_inv}
use Rattle.redolog.proofs.LogLaws.{log_inv}
use Rattle.redolog.proofs.RoundTrip.{record_written, group_written, log_written}

-- ---- numbers that were read are written as the same bytes

-- a list of bytes
abbrev pub Bytes : List ℕ → Type 0
Bytes s = (i : ℕ) → get_or s i 0 < 256

pub bytes_drop : (n : ℕ) (s : List ℕ) → Bytes s → Bytes (drop n s)
bytes_drop n s b i = rw (get_or-drop n s i 0) (b (n + i))

high2 : (a b : ℕ) → b < 256 → (a * 256 + b) / 256 ≡ a
high2 a b h = omega arith

low2 : (a b : ℕ) → b < 256 → (a * 256 + b) % 256 ≡ b
low2 a b h = omega arith

high4 : (a b : ℕ) → b < 65536 → (a * 65536 + b) / 65536 ≡ a
high4 a b h = omega arith

low4 : (a b : ℕ) → b < 65536 → (a * 65536 + b) % 65536 ≡ b
low4 a b h = omega arith

pub bytes16_read : (s : List ℕ) (i : ℕ) → Bytes s → bytes16 (be16 s i) ≡ get_or s i 0 ∷ get_or s (i + 1) 0 ∷ []
bytes16_read s i b =
    ap₂ (λ (x y : ℕ). x ∷ y ∷ []) (high2 (get_or s i 0) (get_or s (i + 1) 0) (b (i + 1))) (low2 (get_or s i 0) (get_or s (i + 1) 0) (b (i + 1)))

pub bytes32_read : (s : List ℕ) (i : ℕ) → Bytes s → bytes32 (be32 s i) ≡ get_or s i 0 ∷ get_or s (i + 1) 0 ∷ get_or s (i + 2) 0 ∷ get_or s (i + 2 + 1) 0 ∷ []
bytes32_read s i b =
    let l : be16 s (i + 2) < 65536 = omega (arith, b (i + 2), b (i + 2 + 1)) in
    ap₂ (λ (x y : ℕ). bytes16 x ++ bytes16 y) (high4 (be16 s i) (be16 s (i + 2)) l) (low4 (be16 s i) (be16 s (i + 2)) l)
    ∙ ap₂ (λ (x y : List ℕ). x ++ y) (bytes16_read s i b) (bytes16_read s (i + 2) b)

-- ---- the front of a list, byte by byte

front2 : (s : List ℕ) (i : ℕ) → i + 2 ≤ length s → drop i s ≡ get_or s i 0 ∷ get_or s (i + 1) 0 ∷ drop (i + 2) s
front2 s i h =
    let e : suc i ≡ i + 1 = omega arith in
    let f : suc (i + 1) ≡ i + 2 = omega arith in
    drop-cons s i 0 (omega arith)
    ∙ ap (λ (k : ℕ). get_or s i 0 ∷ drop k s) e
    ∙ ap (λ (l : List ℕ). get_or s i 0 ∷ l) (drop-cons s (i + 1) 0 (omega arith))
    ∙ ap (λ (k : ℕ). get_or s i 0 ∷ get_or s (i + 1) 0 ∷ drop k s) f

front4 : (s : List ℕ) (i : ℕ) → i + 4 ≤ length s → drop i s ≡ get_or s i 0 ∷ get_or s (i + 1) 0 ∷ get_or s (i + 2) 0 ∷ get_or s (i + 2 + 1) 0 ∷ drop (i + 4) s
front4 s i h =
    let e : i + 2 + 2 ≡ i + 4 = omega arith in
    front2 s i (omega arith)
    ∙ ap (λ (l : List ℕ). get_or s i 0 ∷ get_or s (i + 1) 0 ∷ l) (front2 s (i + 2) (omega arith))
    ∙ ap (λ (k : ℕ). get_or s i 0 ∷ get_or s (i + 1) 0 ∷ get_or s (i + 2) 0 ∷ get_or s (i + 2 + 1) 0 ∷ drop k s) e

-- ---- records

module _ (s : List ℕ) (b : Bytes s) where
  abort_sound : get_or s 0 0 ≡ 3 → (r : Record) → read_abort (be16 s 1) s ≡ some r → s ≡ encode r ++ drop (size r) s
  unfolding read_abort
  abort_sound k r e =
      let i = keep_inv _ _ r e in
      let z : get_or s 3 0 ≡ 3 = eqb-true _ _ i.0 in
      let l = nonzero_within s 3 2 z in
      let h = bytes16_read s 1 b in
      let f = front4 s 0 (omega arith) in
      subst (λ (r : Record). s ≡ encode r ++ drop (size r) s) i.1 (cc)

  commit_sound : get_or s 0 0 ≡ 2 → (r : Record) → read_commit (be16 s 1) s ≡ some r → s ≡ encode r ++ drop (size r) s
  unfolding read_commit
  commit_sound k r e =
      let i = keep_inv _ _ r e in
      let z : get_or s 7 0 ≡ 2 = eqb-true _ _ i.0 in
      let l = nonzero_within s 7 1 z in
      let h = bytes16_read s 1 b in
      let n = bytes32_read s 3 b in
      let f = front4 s 0 (omega arith) in
      let g = front4 s 4 (omega arith) in
      subst (λ (r : Record). s ≡ encode r ++ drop (size r) s) i.1 (cc)

  -- the new bytes, the last byte, and what follows the record
  redo_rest : (n : ℕ) → get_or s (6 + n) 0 ≡ 1 → 6 + n < length s → length (take n (drop 6 s)) ≡ n
      → drop 6 s ≡ (take n (drop 6 s) ++ (1 ∷ [])) ++ drop (7 + length (take n (drop 6 s))) s
  redo_rest n z l d =
      let bs = take n (drop 6 s) in
      let e : suc (6 + n) ≡ 7 + length bs = omega arith in
      sym (take-append-drop n (drop 6 s))
      ∙ ap (λ (r : List ℕ). bs ++ r) (drop-drop n 6 s ∙ drop-cons s (6 + n) 0 l ∙ ap₂ (λ (x j : ℕ). x ∷ drop j s) z e)
      ∙ sym (append_assoc bs (1 ∷ []) (drop (7 + length bs) s))

  redo_sound : get_or s 0 0 ≡ 1 → (r : Record) → read_redo (be16 s 1) s ≡ some r → s ≡ encode r ++ drop (size r) s
  unfolding read_redo
  redo_sound k r e =
      let i = keep_inv _ _ r e in
      let n = get_or s 5 0 in
      let z : get_or s (6 + n) 0 ≡ 1 = eqb-true _ _ (and_left _ _ i.0) in
      let l = nonzero_within s (6 + n) 0 z in
      let d : length (take n (drop 6 s)) ≡ n = length-take-le n (drop 6 s) (simp length-drop (omega arith)) in
      let c = redo_rest n z l d in
      let h = bytes16_read s 1 b in
      let w = bytes16_read s 3 b in
      let f = front4 s 0 (omega arith) in
      let g = front2 s 4 (omega arith) in
      subst (λ (r : Record). s ≡ encode r ++ drop (size r) s) i.1 (cc)

  pub record_sound : (r : Record) → read_record s ≡ some r → s ≡ encode r ++ drop (size r) s
  record_sound = record_cases (λ r. s ≡ encode r ++ drop (size r) s) s (λ r k. redo_sound k r) (λ r k. commit_sound k r) (λ r k. abort_sound k r)

-- what is read is well formed
module _ (id : ℕ) (s : List ℕ) (r : Record) (named : not (eqb id 0) ≡ true) where
  redo_formed : read_redo id s ≡ some r → well_formed r ≡ true
  unfolding read_redo
  redo_formed e =
      let i = keep_inv _ _ r e in
      let n = get_or s 5 0 in
      let ends = eqb (get_or s (6 + n) 0) 1 in
      let ranged = in_range (be16 s 3) n in
      let l = nonzero_within s (6 + n) 0 (eqb-true _ _ (and_left ends ranged i.0)) in
      let d : length (take n (drop 6 s)) ≡ n = length-take-le n (drop 6 s) (simp length-drop (omega arith)) in
      subst (λ (r : Record). well_formed r ≡ true) i.1 (rw d (and_both (not (eqb id 0)) ranged named (and_right ends ranged i.0)))

  commit_formed : read_commit id s ≡ some r → well_formed r ≡ true
  unfolding read_commit
  commit_formed e = let i = keep_inv (eqb (get_or s 7 0) 2) (commit id (be32 s 3)) r e in subst (λ (r : Record). well_formed r ≡ true) i.1 named

  abort_formed : read_abort id s ≡ some r → well_formed r ≡ true
  unfolding read_abort
  abort_formed e = let i = keep_inv (eqb (get_or s 3 0) 3) (abort id) r e in subst (λ (r : Record). well_formed r ≡ true) i.1 named

pub record_formed : (s : List ℕ) (r : Record) → read_record s ≡ some r → well_formed r ≡ true
record_formed s r e =
    let n : not (eqb (be16 s 1) 0) ≡ true = rw (record_named s r e) in
    record_cases (λ r. well_formed r ≡ true) s (λ r k. redo_formed _ s r n) (λ r k. commit_formed _ s r n) (λ r k. abort_formed _ s r n) r e

-- ---- groups

-- one encoding after another, of a list that is read piece by piece
joined : (s x y : List ℕ) (m n k : ℕ) → s ≡ x ++ drop m s → drop m s ≡ y ++ drop n (drop m s) → m + n ≡ k → s ≡ (x ++ y) ++ drop k s
joined s x y m n k p q e =
    p ∙ ap (λ (l : List ℕ). x ++ l) (q ∙ ap (λ (l : List ℕ). y ++ l) (drop-drop n m s ∙ ap (λ (j : ℕ). drop j s) e)) ∙ sym (append_assoc x y (drop k s))

body_sound : (next id : ℕ) (ws : List Write) (s : List ℕ) → Bytes s → read_body next id s ≡ some ws
    → s ≡ encode_body id next ws ++ drop (redo_size ws + 8) s
body_sound next id [] s b e = record_sound s b (commit id next) (body_inv next id s [] e)
body_sound next id (w ∷ ws) s b e =
    let i = body_inv next id s (w ∷ ws) e in
    let m = 7 + length w.bytes in
    joined s (encode (redo id w)) (encode_body id next ws) m (redo_size ws + 8) (redo_size (w ∷ ws) + 8) (record_sound s b (redo id w) i.0)
    (body_sound next id ws (drop m s) (bytes_drop m s b) i.1) (omega arith)

pub group_sound : (prev : ℕ) (s : List ℕ) → Bytes s → (g : Group) → read_group prev s ≡ some g → s ≡ encode_group g ++ drop (group_size g) s
group_sound prev s b (aborted id) e = record_sound s b (abort id) (group_inv prev s (aborted id) e)
group_sound prev s b (committed id n ws) e =
    let i = group_inv prev s (committed id n ws) e in
    rw i.0 (body_sound (prev + 1) id ws s b i.1)

body_formed : (next id : ℕ) (ws : List Write) (s : List ℕ) → read_body next id s ≡ some ws → well_formed_body id next ws ≡ true
body_formed next id [] s e = record_formed s (commit id next) (body_inv next id s [] e)
body_formed next id (w ∷ ws) s e =
    let i = body_inv next id s (w ∷ ws) e in
    let m = 7 + length w.bytes in
    and_both (well_formed (redo id w)) (well_formed_body id next ws) (record_formed s (redo id w) i.0)
    (body_formed next id ws (drop m s) i.1)

pub group_formed : (prev : ℕ) (s : List ℕ) (g : Group) → read_group prev s ≡ some g → well_formed_group prev g ≡ true
group_formed prev s (aborted id) e = record_formed s (abort id) (group_inv prev s (aborted id) e)
group_formed prev s (committed id n ws) e =
    let i = group_inv prev s (committed id n ws) e in
    rw i.0 (and_both (eqb (prev + 1) (prev + 1)) (well_formed_body id (prev + 1) ws) (eq-eqb (prev + 1) (prev + 1) refl) (body_formed (prev + 1) id ws s i.1))

-- ---- logs

pub log_sound : (prev : ℕ) (gs : List Group) (s : List ℕ) → Bytes s → read_log prev s ≡ gs → s ≡ encode_log gs ++ drop (groups_size gs) s
log_sound prev [] s b e = refl
log_sound prev (g ∷ gs) s b e =
    let i = log_inv prev s g gs e in
    joined s (encode_group g) (encode_log gs) (group_size g) (groups_size gs) (groups_size (g ∷ gs)) (group_sound prev s b g i.0)
    (log_sound (csn_after prev g) gs (drop (group_size g) s) (bytes_drop (group_size g) s b) i.1) refl

pub log_formed : (prev : ℕ) (gs : List Group) (s : List ℕ) → read_log prev s ≡ gs → well_formed_log prev gs ≡ true
log_formed prev [] s e = refl
log_formed prev (g ∷ gs) s e =
    let i = log_inv prev s g gs e in
    and_both (well_formed_group prev g) (well_formed_log (csn_after prev g) gs) (group_formed prev s g i.0)
    (log_formed (csn_after prev g) gs (drop (group_size g) s) i.1)

-- ---- one reading at most: what begins with the bytes of two is one

pub record_unique : (r q : Record) (x y : List ℕ) → well_formed r ≡ true → well_formed q ≡ true → encode r ++ x ≡ encode q ++ y → r ≡ q
record_unique r q x y h k e = let p : some r ≡ some q = sym (record_written r x h) ∙ ap read_record e ∙ record_written q y k in cc

pub group_unique : (prev : ℕ) (g h : Group) (x y : List ℕ) → well_formed_group prev g ≡ true → well_formed_group prev h ≡ true
    → encode_group g ++ x ≡ encode_group h ++ y → g ≡ h
group_unique prev g h x y p q e = let r : some g ≡ some h = sym (group_written prev g x p) ∙ ap (read_group prev) e ∙ group_written prev h y q in cc

-- of logs with nothing to be read after them
pub log_unique : (prev : ℕ) (gs hs : List Group) (x y : List ℕ) → well_formed_log prev gs ≡ true → well_formed_log prev hs ≡ true
    → read_log (last_csn prev gs) x ≡ [] → read_log (last_csn prev hs) y ≡ [] → encode_log gs ++ x ≡ encode_log hs ++ y → gs ≡ hs
log_unique prev gs hs x y p q m n e =
    sym (append-nil gs)
    ∙ ap (λ (l : List Group). gs ++ l) (sym m)
    ∙ sym (log_written prev gs x p)
    ∙ ap (read_log prev) e
    ∙ log_written prev hs y q
    ∙ ap (λ (l : List Group). hs ++ l) n
    ∙ append-nil hs
