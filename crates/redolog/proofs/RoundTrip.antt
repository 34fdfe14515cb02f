-- Round trip: a record, a group or a log that was written is read as exactly what was meant, whatever follows it. Prefix: a reading looks
-- only at the bytes that it consumes.
use Prim.Native.Nat.{ℕ, zero, suc, ◌+◌, ◌*◌, ◌/◌, ◌%◌, ◌≤◌, ◌<◌}
use native.Mathlib.Nat.{zero-add, suc-add}
use native.Mathlib.Omega.{arith}
use mathlib.Core.Bool.{true, false, not}
use mathlib.Core.List.{List, [], ◌∷◌, ◌++◌, append_assoc}
use mathlib.Core.Option.{some}
use mathlib.Core.Path.{◌≡◌, refl, sym, ap, ap₂, ◌∙◌, subst}
use lib.ListN.{length, get_or, take, drop, length-append}
use lib.Seq.{get_or-append_seam, take-append_seam, get_or-take, take-take, take-nil, drop_at, drop-drop}
use lib.Dec.{eqb}
use borrow.Author.Tests.{eqb-true, not-true}
use Rattle.recovery.specs.Group.{Write, Group, committed, aborted, redo_size, group_size, groups_size, csn_after, last_csn}
use Rattle.redolog.specs.Number.{be16}
use Rattle.redolog.specs.Record.{Record, redo, commit, abort, size, encode, well_formed, in_range, read_redo, read_commit, read_abort, read_kind, read_record}
use Rattle.redolog.specs.Group.{encode_body, encode_group, well_formed_body, well_formed_group, read_body, group_with, read_group}
use Rattle.redolog.specs.Log.{read_log, encode_log, well_formed_log}
use Rattle.redolog.proofs.Basics.{and_left, and_right}
use Rattle.redolog.proofs.RecordLaws.{record_cases, record_named, record_by, redo_ends, commit_ends, abort_ends}
use Rattle.redolog.proofs.GroupLaws.{body_inv, body_intro, group_with_inv, group_with_intro, group_next, group_intro}
use Rattle.redolog.proofs.LogLaws.{log_more, log_inv}

pub joined2 : (n : ℕ) → n / 256 * 256 + n % 256 ≡ n
joined2 n = omega arith

joined4 : (n : ℕ) → n / 65536 * 65536 + n % 65536 ≡ n
joined4 n = omega arith

-- ---- lengths

pub length_encode : (r : Record) → length (encode r) ≡ size r
length_encode (redo id w) = simp length-append (omega arith)
length_encode (commit id n) = refl
length_encode (abort id) = refl

length_body : (id n : ℕ) (ws : List Write) → length (encode_body id n ws) ≡ redo_size ws + 8
length_body id n [] = refl
length_body id n (w ∷ ws) =
    length-append (encode (redo id w)) (encode_body id n ws) ∙ ap₂ ◌+◌ (length_encode (redo id w)) (length_body id n ws) ∙ omega arith

pub length_group : (g : Group) → length (encode_group g) ≡ group_size g
length_group (committed id n ws) = length_body id n ws
length_group (aborted id) = refl

pub length_log : (gs : List Group) → length (encode_log gs) ≡ groups_size gs
length_log [] = refl
length_log (g ∷ gs) = length-append (encode_group g) (encode_log gs) ∙ ap₂ ◌+◌ (length_group g) (length_log gs)

-- ---- round trip

pub record_written : (r : Record) (rest : List ℕ) → well_formed r ≡ true → read_record (encode r ++ rest) ≡ some r
unfolding read_redo read_commit read_abort
record_written (abort id) rest h = record_by _ 3 id refl (joined2 id) (not-true _ h)
record_written (commit id n) rest h = record_by _ 2 id refl (joined2 id) (not-true _ h) ∙ simp (joined2, joined4)
record_written (redo id w) rest h =
    let bs = w.bytes in
    let n = length bs in
    let u = (bs ++ (1 ∷ [])) ++ rest in
    let s = encode (redo id w) ++ rest in
    let a : u ≡ bs ++ (1 ∷ rest) = append_assoc bs (1 ∷ []) rest in
    let k : get_or s (6 + n) 0 ≡ 1 = ap (λ (i : ℕ). get_or s i 0) six ∙ (ap (λ (l : List ℕ). get_or l n 0) a ∙ get_or-append_seam bs 1 rest 0) in
    let b : take n u ≡ bs = ap (take n) a ∙ take-append_seam bs (1 ∷ rest) in
    let named = not (eqb id 0) in
    let ranged = in_range w.addr n in
    record_by s 1 id refl (joined2 id) (not-true (eqb id 0) (and_left named ranged h)) ∙ simp (k, joined2, b, and_right named ranged h)
  where
    six : 6 + length w.bytes ≡ suc (suc (suc (suc (suc (suc (length w.bytes))))))
    six = omega arith

pub body_written : (next id : ℕ) (ws : List Write) (rest : List ℕ) → well_formed_body id next ws ≡ true
    → read_body next id (encode_body id next ws ++ rest) ≡ some ws
body_written next id [] rest h = body_intro next id _ [] (record_written (commit id next) rest h)
body_written next id (w ∷ ws) rest h =
    let r = redo id w in
    let behind = encode_body id next ws in
    let s = (encode r ++ behind) ++ rest in
    let e : s ≡ encode r ++ (behind ++ rest) = append_assoc (encode r) behind rest in
    body_intro next id s (w ∷ ws) (
      ap read_record e ∙ record_written r (behind ++ rest) (and_left (well_formed r) (well_formed_body id next ws) h),
      ap (read_body next id) (ap (drop (7 + length w.bytes)) e ∙ drop_at (encode r) (behind ++ rest) (7 + length w.bytes) (length_encode r))
          ∙ body_written next id ws rest (and_right (well_formed r) (well_formed_body id next ws) h),
    )

pub group_written : (prev : ℕ) (g : Group) (rest : List ℕ) → well_formed_group prev g ≡ true → read_group prev (encode_group g ++ rest) ≡ some g
group_written prev (aborted id) rest h = group_intro prev _ (aborted id) (record_written (abort id) rest h)
group_written prev (committed id n ws) rest h =
    let e : n ≡ prev + 1 = eqb-true n (prev + 1) (and_left (eqb n (prev + 1)) (well_formed_body id n ws) h) in
    let b : well_formed_body id (prev + 1) ws ≡ true = rw e at (and_right (eqb n (prev + 1)) (well_formed_body id n ws) h) in
    group_intro prev _ (committed id n ws) (e, rw e (body_written (prev + 1) id ws rest b))

-- a log goes on after a group that was written
pub log_after : (prev : ℕ) (g : Group) (rest : List ℕ) → well_formed_group prev g ≡ true
    → read_log prev (encode_group g ++ rest) ≡ g ∷ read_log (csn_after prev g) rest
log_after prev g rest h =
    log_more prev (encode_group g ++ rest) g (group_written prev g rest h)
    ∙ ap (λ (t : List ℕ). g ∷ read_log (csn_after prev g) t) (drop_at (encode_group g) rest (group_size g) (length_group g))

pub log_written : (prev : ℕ) (gs : List Group) (rest : List ℕ) → well_formed_log prev gs ≡ true
    → read_log prev (encode_log gs ++ rest) ≡ gs ++ read_log (last_csn prev gs) rest
log_written prev [] rest h = refl
log_written prev (g ∷ gs) rest h =
    let ok = and_left (well_formed_group prev g) (well_formed_log (csn_after prev g) gs) h in
    let oks = and_right (well_formed_group prev g) (well_formed_log (csn_after prev g) gs) h in
    ap (read_log prev) (append_assoc (encode_group g) (encode_log gs) rest)
    ∙ log_after prev g (encode_log gs ++ rest) ok
    ∙ ap (λ (hs : List Group). g ∷ hs) (log_written (csn_after prev g) gs rest oks)

-- ---- prefix: t has the first n bytes of s

abbrev pub Same : ℕ → List ℕ → List ℕ → Type 0
Same n s t = take n t ≡ take n s

pub same_at : (n : ℕ) (s t : List ℕ) → Same n s t → (i : ℕ) → i < n → get_or t i 0 ≡ get_or s i 0
same_at n s t e i h = sym (get_or-take n t i 0 h) ∙ ap (λ (l : List ℕ). get_or l i 0) e ∙ get_or-take n s i 0 h

pub same_less : (m n : ℕ) (s t : List ℕ) → m ≤ n → Same n s t → Same m s t
same_less m n s t h e = sym (take-take m n t h) ∙ ap (take m) e ∙ take-take m n s h

pub drop_take : (m k : ℕ) (l : List ℕ) → drop m (take (m + k) l) ≡ take k (drop m l)
drop_take zero k l = rw (zero-add k)
drop_take (suc m) k [] = rw (suc-add m k, take-nil k)
drop_take (suc m) k (x ∷ l) = rw (suc-add m k) (drop_take m k l)

pub same_rest : (m k : ℕ) (s t : List ℕ) → Same (m + k) s t → Same k (drop m s) (drop m t)
same_rest m k s t e = sym (drop_take m k t) ∙ ap (drop m) e ∙ drop_take m k s

pub record_same : (s t : List ℕ) (r : Record) → read_record s ≡ some r → Same (size r) s t → read_record t ≡ some r
unfolding read_redo read_commit read_abort
record_same s t r e = record_cases (λ r. Same (size r) s t → read_record t ≡ some r) s of_redo of_commit of_abort r e
  where
    named : eqb (be16 s 1) 0 ≡ false
    named = record_named s r e

    -- the same kind and id
    begins : (n kind : ℕ) → 4 ≤ n → get_or s 0 0 ≡ kind → Same n s t → read_record t ≡ read_kind kind (be16 s 1) t
    begins n kind h k a =
        let g = same_at n s t a in
        record_by t kind (be16 s 1) (g 0 (omega arith) ∙ k) (ap₂ (λ (x y : ℕ). x * 256 + y) (g 1 (omega arith)) (g 2 (omega arith))) named

    of_redo : (r : Record) → get_or s 0 0 ≡ 1 → read_redo (be16 s 1) s ≡ some r → Same (size r) s t → read_record t ≡ some r
    of_redo r k e a =
        let n = get_or s 5 0 in
        let z : size r ≡ suc (6 + n) = (redo_ends _ s r e).sized in
        let g = same_at (size r) s t a in
        let b : take n (drop 6 t) ≡ take n (drop 6 s) = same_rest 6 n s t (same_less (6 + n) (size r) s t (omega arith) a) in
        begins (size r) 1 (omega arith) k a ∙ simp (g 3 (omega arith), g 4 (omega arith), g 5 (omega arith), g (6 + n) (omega arith), b) e

    of_commit : (r : Record) → get_or s 0 0 ≡ 2 → read_commit (be16 s 1) s ≡ some r → Same (size r) s t → read_record t ≡ some r
    of_commit r k e a =
        let z : size r ≡ 8 = (commit_ends _ s r e).sized in
        let g = same_at (size r) s t a in
        begins (size r) 2 (omega arith) k a ∙ simp (g 3 (omega arith), g 4 (omega arith), g 5 (omega arith), g 6 (omega arith), g 7 (omega arith)) e

    of_abort : (r : Record) → get_or s 0 0 ≡ 3 → read_abort (be16 s 1) s ≡ some r → Same (size r) s t → read_record t ≡ some r
    of_abort r k e a =
        let z : size r ≡ 4 = (abort_ends _ s r e).sized in
        begins (size r) 3 (omega arith) k a ∙ simp (same_at (size r) s t a 3 (omega arith)) e

pub body_same : (next id : ℕ) (ws : List Write) (s t : List ℕ) → read_body next id s ≡ some ws → Same (redo_size ws + 8) s t → read_body next id t ≡ some ws
body_same next id [] s t e a = body_intro next id t [] (record_same s t (commit id next) (body_inv next id s [] e) a)
body_same next id (w ∷ ws) s t e a =
    let i = body_inv next id s (w ∷ ws) e in
    let m = 7 + length w.bytes in
    let z : 7 + length w.bytes + redo_size ws + 8 ≡ m + (redo_size ws + 8) = omega arith in
    let b : Same (m + (redo_size ws + 8)) s t = subst (λ (n : ℕ). Same n s t) z a in
    body_intro next id t (w ∷ ws) (
      record_same s t (redo id w) i.0 (same_less m (m + (redo_size ws + 8)) s t (omega arith) b),
      body_same next id ws (drop m s) (drop m t) i.1 (same_rest m (redo_size ws + 8) s t b),
    )

pub group_with_same : (next : ℕ) (s t : List ℕ) (g : Group) → group_with next s ≡ some g → Same (group_size g) s t → group_with next t ≡ some g
group_with_same next s t (aborted id) e a = group_with_intro next t (aborted id) (record_same s t (abort id) (group_with_inv next s (aborted id) e) a)
group_with_same next s t (committed id n ws) e a =
    let i = group_with_inv next s (committed id n ws) e in
    group_with_intro next t (committed id n ws) (i.0, body_same next id ws s t i.1 a)

pub group_same : (prev : ℕ) (s t : List ℕ) (g : Group) → read_group prev s ≡ some g → Same (group_size g) s t → read_group prev t ≡ some g
group_same prev s t g e a = group_next prev t ∙ group_with_same (prev + 1) s t g (sym (group_next prev s) ∙ e) a

-- of a log: the groups of s stand in t too, and what follows them is read from t
pub log_same : (prev : ℕ) (gs : List Group) (s t : List ℕ) → read_log prev s ≡ gs → Same (groups_size gs) s t
    → read_log prev t ≡ gs ++ read_log (last_csn prev gs) (drop (groups_size gs) t)
log_same prev [] s t e a = refl
log_same prev (g ∷ gs) s t e a =
    let i = log_inv prev s g gs e in
    let n = group_size g in
    log_more prev t g (group_same prev s t g i.0 (same_less n (n + groups_size gs) s t (omega arith) a))
    ∙ ap (λ (hs : List Group). g ∷ hs)
    (log_same (csn_after prev g) gs (drop n s) (drop n t) i.1 (same_rest n (groups_size gs) s t a)
    ∙ ap (λ (l : List ℕ). gs ++ read_log (last_csn (csn_after prev g) gs) l) (drop-drop (groups_size gs) n t))
