-- Writes one after the other, as going back makes them: what they add to a transaction, and that number 2's rule stays kept.
use Prim.Native.Nat.{ℕ, zero, suc, ◌+◌, ◌≤◌, ◌<◌}
use native.Mathlib.Omega.{arith}
use mathlib.Core.Bool.{true}
use mathlib.Core.List.{List, [], ◌∷◌, ◌++◌, append_assoc, append-nil, map, reverse_aux, reverse, reverse-append}
use mathlib.Core.Path.{◌≡◌, refl, sym, ap, ap₂, ◌∙◌, subst}
use lib.ListN.{length, get_or, take, drop, length-drop, length-map}
use lib.Seq.{length-take-le, length-sets, drop-append-le, drop-length}
use lib.Dec.{eqb, leb}
use borrow.Author.Tests.{eq-eqb}
use Rattle.recovery.specs.Group.{Write, redo_size}
use Rattle.recovery.specs.Replay.{lay_bytes, olds_of}
use Rattle.recovery.specs.Savepoint.{Savepoint, set_name}
use Rattle.recovery.specs.Machine.{with_write, with_savepoint}
use Rattle.recovery.proofs.Returns.{with_records}
use Rattle.redolog.specs.Flat.{write_at, writes_from}
use Rattle.redolog.proofs.Basics.{and_left, and_right, and_both}
use Rattle.transaction.specs.declared.ranges.Ranges.{Ranges}
use Rattle.transaction.specs.declared.records.Records.{Records}
use Rattle.transaction.specs.declared.Tx.{Tx}
use Rattle.transaction.specs.Lists.{up_from, every}
use Rattle.transaction.specs.View.{Range, range, range_at, ranges_of, range_of, written_by, writes_of, savepoints_of, view_of}
use Rattle.transaction.specs.Rules.{range_ok, records_ok, state_ok, ranges_size, room_of, place_of, stood_at, later_ranges}
use Rattle.transaction.specs.Steps.{written, written_all, savepointed, return_writes}
use Rattle.transaction.proofs.Lists.{length_up, up_snoc}
use Rattle.transaction.proofs.RangeLaws.{in_range_lem, ranged, counted}
use Rattle.transaction.proofs.Writes.{writes_up, bytes_length}
use Rattle.transaction.proofs.Pushed.{Sized, push_sized, pushed_count, pushed_writes, one_more}
use Rattle.transaction.proofs.SavepointLaws.{SizedSavepoints, savepoints_set}
use Rattle.transaction.proofs.StateRule.{written_undo, written_redo, written_state_lem}

-- ---- the later ones, newest first: a turn of the loop down to the savepoint, and its end

module _ {A : Type 0} (f : ℕ → A) (n : ℕ) where
  pub back_turn : (k : ℕ) → n ≤ k → reverse (drop n (up_from f (suc k) 0)) ≡ f k ∷ reverse (drop n (up_from f k 0))
  back_turn k h =
      let o : 0 + k ≡ k = omega arith in
      ap (λ (xs : List A). reverse (drop n xs)) (up_snoc f k 0 ∙ ap (λ (j : ℕ). up_from f k 0 ++ (f j ∷ [])) o)
      ∙ ap reverse (drop-append-le n (up_from f k 0) (f k ∷ []) (omega (arith, length_up f k 0)))
      ∙ reverse-append (drop n (up_from f k 0)) (f k ∷ [])

  pub back_end : reverse (drop n (up_from f n 0)) ≡ []
  back_end = ap reverse (ap (λ (k : ℕ). drop k (up_from f n 0)) (sym (length_up f n 0)) ∙ drop-length (up_from f n 0))

-- ---- one write

pub written_view : (t : Tx) (a : ℕ) (old new : List ℕ) → Sized t.undo → Sized t.redo → records_ok (ranges_of t.undo.ranges) ≡ true
    → records_ok (ranges_of t.redo.ranges) ≡ true → t.undo.ranges.count < 16 → t.redo.ranges.count < 16 → length old ≤ 32 → length new ≤ 32
    → view_of (written t a old new) ≡ with_write (record { addr = a; bytes = old }) (record { addr = a; bytes = new }) (view_of t)
unfolding written
written_view t a old new zu zr u r cu cr lo ln =
    ap₂ (λ (us rs : List Write). record { id = t.id.0; committing = eqb t.status 2; csn = t.csn.0; undo = us; redo = rs; savepoints = savepoints_of t })
    (pushed_writes t.undo a old zu cu lo (λ j h. (ranged t.undo.ranges u j h).1))
    (pushed_writes t.redo a new zr cr ln (λ j h. (ranged t.redo.ranges r j h).1))

pub written_counts : (t : Tx) (a : ℕ) (old new : List ℕ)
    → ((written t a old new).undo.ranges.count ≡ suc t.undo.ranges.count) × ((written t a old new).redo.ranges.count ≡ suc t.redo.ranges.count)
unfolding written
written_counts t a old new = (pushed_count t.undo a old, pushed_count t.redo a new)

-- ---- what writes ask of a transaction and of memory

pub record Writable (t : Tx) (m : List ℕ) (ws : List Write) : Type 0 where
  pub undos : Sized t.undo
  pub redos : Sized t.redo
  pub undo : records_ok (ranges_of t.undo.ranges) ≡ true
  pub redo : records_ok (ranges_of t.redo.ranges) ≡ true
  pub undo_room : t.undo.ranges.count + length ws ≤ 16
  pub redo_room : t.redo.ranges.count + length ws ≤ 16
  pub memory : length m ≡ 4096
  pub ranges : every range_ok (map range_of ws) ≡ true

module _ (t : Tx) (m : List ℕ) (w : Write) (ws : List Write) (h : Writable t m (w ∷ ws)) where
  abbrev pub old : List ℕ
  old = take (length w.bytes) (drop w.addr m)

  abbrev pub after : Tx
  after = written t w.addr old w.bytes

  here : range_ok (range_of w) ≡ true
  here = and_left (range_ok (range_of w)) (every range_ok (map range_of ws)) h.ranges

  pub few_undo : t.undo.ranges.count < 16
  few_undo = omega (arith, h.undo_room)

  pub few_redo : t.redo.ranges.count < 16
  few_redo = omega (arith, h.redo_room)

  pub old_length : length old ≡ length w.bytes
  old_length =
      let r = in_range_lem w.addr (length w.bytes) here in
      length-take-le (length w.bytes) (drop w.addr m) (rw length-drop (omega (arith, h.memory, r)))

  more_ok : (rs : List Range) → records_ok rs ≡ true → length rs < 16 → records_ok (rs ++ (range_of w ∷ [])) ≡ true
  more_ok rs e l = one_more rs w.addr (length w.bytes) l (and_right (leb (length rs) 16) (every range_ok rs) e) here

  undo_after : ranges_of after.undo.ranges ≡ ranges_of t.undo.ranges ++ (range_of w ∷ [])
  undo_after = written_undo t w.addr old w.bytes h.undos h.redos few_undo few_redo old_length

  redo_after : ranges_of after.redo.ranges ≡ ranges_of t.redo.ranges ++ (range_of w ∷ [])
  redo_after = written_redo t w.addr old w.bytes h.undos h.redos few_undo few_redo old_length

  pub next : Writable after (lay_bytes w m) ws
  unfolding written
  next =
      let lu = length_up (range_at t.undo.ranges) t.undo.ranges.count 0 in
      let lr = length_up (range_at t.redo.ranges) t.redo.ranges.count 0 in
      record {
        undos = push_sized t.undo w.addr old h.undos;
        redos = push_sized t.redo w.addr w.bytes h.redos;
        undo =
            subst (λ (rs : List Range). records_ok rs ≡ true) (sym undo_after)
            (more_ok (ranges_of t.undo.ranges) h.undo (omega (arith, lu, few_undo)));
        redo =
            subst (λ (rs : List Range). records_ok rs ≡ true) (sym redo_after)
            (more_ok (ranges_of t.redo.ranges) h.redo (omega (arith, lr, few_redo)));
        undo_room = omega (arith, pushed_count t.undo w.addr old, h.undo_room);
        redo_room = omega (arith, pushed_count t.redo w.addr w.bytes, h.redo_room);
        memory = length-sets m w.addr w.bytes ∙ h.memory;
        ranges = and_right (range_ok (range_of w)) (every range_ok (map range_of ws)) h.ranges;
      }

  view_after : view_of after ≡ with_records (record { addr = w.addr; bytes = old } ∷ []) (w ∷ []) (view_of t)
  view_after =
      let r = in_range_lem w.addr (length w.bytes) here in
      written_view t w.addr old w.bytes h.undos h.redos h.undo h.redo few_undo few_redo (omega (arith, old_length, r)) r.1

  state_after : state_ok t ≡ true → state_ok after ≡ true
  state_after e = written_state_lem t w.addr old w.bytes h.undos h.redos few_undo few_redo old_length e

-- ---- all of them

pub all_same : (t : Tx) (m : List ℕ) (ws : List Write)
    → ((written_all t m ws).id ≡ t.id) × ((written_all t m ws).status ≡ t.status) × ((written_all t m ws).csn ≡ t.csn) × ((written_all t m ws).extras ≡ t.extras)
unfolding written
all_same t m [] = (refl, refl, refl, refl)
all_same t m (w ∷ ws) = all_same (written t w.addr (take (length w.bytes) (drop w.addr m)) w.bytes) (lay_bytes w m) ws

pub all_sized : (t : Tx) (m : List ℕ) (ws : List Write) → Writable t m ws
    → Sized (written_all t m ws).undo × Sized (written_all t m ws).redo
all_sized t m [] h = (h.undos, h.redos)
all_sized t m (w ∷ ws) h = all_sized (after t m w ws h) (lay_bytes w m) ws (next t m w ws h)

snoc_append : {A : Type 0} (x : A) (xs ys : List A) → (xs ++ (x ∷ [])) ++ ys ≡ xs ++ (x ∷ ys)
snoc_append x xs ys = append_assoc xs (x ∷ []) ys

-- a list of the transaction's records to which each write adds its range
module _ (recordsIn : Tx → Records)
    (one : (t : Tx) (m : List ℕ) (w : Write) (ws : List Write) (h : Writable t m (w ∷ ws))
    → ranges_of (recordsIn (after t m w ws h)).ranges ≡ ranges_of (recordsIn t).ranges ++ (range_of w ∷ [])) where
  all_ranges : (t : Tx) (m : List ℕ) (ws : List Write) → Writable t m ws
      → ranges_of (recordsIn (written_all t m ws)).ranges ≡ ranges_of (recordsIn t).ranges ++ map range_of ws
  all_ranges t m [] h = sym (append-nil (ranges_of (recordsIn t).ranges))
  all_ranges t m (w ∷ ws) h =
      all_ranges (after t m w ws h) (lay_bytes w m) ws (next t m w ws h)
      ∙ ap (λ (rs : List Range). rs ++ map range_of ws) (one t m w ws h)
      ∙ snoc_append (range_of w) (ranges_of (recordsIn t).ranges) (map range_of ws)

pub all_undo : (t : Tx) (m : List ℕ) (ws : List Write) → Writable t m ws
    → ranges_of (written_all t m ws).undo.ranges ≡ ranges_of t.undo.ranges ++ map range_of ws
all_undo = all_ranges (λ (t : Tx). t.undo) undo_after

pub all_redo : (t : Tx) (m : List ℕ) (ws : List Write) → Writable t m ws
    → ranges_of (written_all t m ws).redo.ranges ≡ ranges_of t.redo.ranges ++ map range_of ws
all_redo = all_ranges (λ (t : Tx). t.redo) redo_after

pub all_state : (t : Tx) (m : List ℕ) (ws : List Write) → Writable t m ws → state_ok t ≡ true → state_ok (written_all t m ws) ≡ true
all_state t m [] h e = e
all_state t m (w ∷ ws) h e = all_state (after t m w ws h) (lay_bytes w m) ws (next t m w ws h) (state_after t m w ws h e)

pub all_ok : (t : Tx) (m : List ℕ) (ws : List Write) → Writable t m ws → records_ok (ranges_of (written_all t m ws).undo.ranges) ≡ true
all_ok t m [] h = h.undo
all_ok t m (w ∷ ws) h = all_ok (after t m w ws h) (lay_bytes w m) ws (next t m w ws h)

size_append : (rs qs : List Range) → ranges_size (rs ++ qs) ≡ ranges_size rs + ranges_size qs
size_append [] qs = omega arith
size_append (r ∷ rs) qs = let e = size_append rs qs in omega (arith, e)

pub all_room : (t : Tx) (m : List ℕ) (ws : List Write) → Writable t m ws → t.status ≡ 1
    → room_of (written_all t m ws) ≡ room_of t + ranges_size (map range_of ws)
all_room t m ws h e =
    let u = (all_same t m ws).1 ∙ e in
    let a = ap ranges_size (all_redo t m ws h) in
    let b = size_append (ranges_of t.redo.ranges) (map range_of ws) in
    rw (eq-eqb t.status 1 e, eq-eqb (written_all t m ws).status 1 u) (omega (arith, a, b))

-- in recovery's words: records added at the end, undo records with what stands there then
pub all_view : (t : Tx) (m : List ℕ) (ws : List Write) → Writable t m ws → view_of (written_all t m ws) ≡ with_records (olds_of m ws) ws (view_of t)
all_view t m [] h = rw (append-nil (view_of t).undo, append-nil (view_of t).redo) refl
all_view t m (w ∷ ws) h =
    let u : Write = record { addr = w.addr; bytes = take (length w.bytes) (drop w.addr m) } in
    all_view (after t m w ws h) (lay_bytes w m) ws (next t m w ws h)
    ∙ ap (with_records (olds_of (lay_bytes w m) ws) ws) (view_after t m w ws h)
    ∙ rw (snoc_append u (view_of t).undo (olds_of (lay_bytes w m) ws), snoc_append w (view_of t).redo ws) refl

-- ---- setting a savepoint, in recovery's words

pub savepoint_view : (t : Tx) (name : ℕ) → SizedSavepoints t.extras.savepoints → place_of t.extras.savepoints name < 4
    → t.undo.ranges.count ≡ t.redo.ranges.count → view_of (savepointed t name) ≡ with_savepoint name (view_of t)
unfolding savepointed
savepoint_view t name z fits same =
    let r = t.redo in
    let long : t.undo.ranges.count ≡ length (writes_of r) =
    same
    ∙ sym (ap length (writes_up r.ranges.addr r.ranges.len r.bytes r.ranges.count 0) ∙ length_up (write_at r.ranges.addr r.ranges.len r.bytes) r.ranges.count 0) in
    ap (λ (ps : List Savepoint). record { id = t.id.0; committing = eqb t.status 2; csn = t.csn.0; undo = writes_of t.undo; redo = writes_of t.redo; savepoints = ps })
    (savepoints_set t.extras.savepoints name t.undo.ranges.count z fits ∙ ap (λ (n : ℕ). set_name name n (savepoints_of t)) long)

-- ---- the ranges of the writes of a return

ranges_from : (r : Records) → length r.bytes ≡ 512 → (k i : ℕ) → i + k ≤ 16 → ((j : ℕ) → j < i + k → get_or r.ranges.len j 0 ≤ 32)
    → map range_of (writes_from r.ranges.addr r.ranges.len r.bytes k i) ≡ up_from (range_at r.ranges) k i
ranges_from r l zero i h s = refl
ranges_from r l (suc k) i h s =
    ap₂ (λ (n : ℕ) (rs : List Range). range (get_or r.ranges.addr i 0) n ∷ rs) (bytes_length r i l (omega arith) (s i (omega arith)))
    (ranges_from r l k (suc i) (omega arith) (λ j b. s j (omega arith)))

pub map_drop : {A B : Type 0} (f : A → B) (n : ℕ) (xs : List A) → map f (drop n xs) ≡ drop n (map f xs)
map_drop f zero xs = refl
map_drop f (suc n) [] = refl
map_drop f (suc n) (x ∷ xs) = map_drop f n xs

map_back : {A B : Type 0} (f : A → B) (xs ys : List A) → map f (reverse_aux xs ys) ≡ reverse_aux (map f xs) (map f ys)
map_back f [] ys = refl
map_back f (x ∷ xs) ys = map_back f xs (x ∷ ys)

pub redo_size_lem : (ws : List Write) → redo_size ws ≡ ranges_size (map range_of ws)
redo_size_lem [] = refl
redo_size_lem (w ∷ ws) = ap (λ (n : ℕ). 7 + length w.bytes + n) (redo_size_lem ws)

sum_back : (xs ys : List Range) → ranges_size (reverse_aux xs ys) ≡ ranges_size xs + ranges_size ys
sum_back [] ys = omega arith
sum_back (x ∷ xs) ys = let e = sum_back xs (x ∷ ys) in omega (arith, e)

length_back : {A : Type 0} (xs ys : List A) → length (reverse_aux xs ys) ≡ length xs + length ys
length_back [] ys = omega arith
length_back (x ∷ xs) ys = let e = length_back xs (x ∷ ys) in omega (arith, e)

every_back : (xs ys : List Range) → every range_ok xs ≡ true → every range_ok ys ≡ true → every range_ok (reverse_aux xs ys) ≡ true
every_back [] ys e d = d
every_back (x ∷ xs) ys e d =
    every_back xs (x ∷ ys) (and_right (range_ok x) (every range_ok xs) e) (and_both (range_ok x) (every range_ok ys) (and_left (range_ok x) (every range_ok xs) e) d)

every_drop : (n : ℕ) (xs : List Range) → every range_ok xs ≡ true → every range_ok (drop n xs) ≡ true
every_drop zero xs e = e
every_drop (suc n) [] e = refl
every_drop (suc n) (x ∷ xs) e = every_drop n xs (and_right (range_ok x) (every range_ok xs) e)

module _ (t : Tx) (name : ℕ) (z : Sized t.undo) (e : records_ok (ranges_of t.undo.ranges) ≡ true) where
  ranges_written : map range_of (writes_of t.undo) ≡ written_by t
  ranges_written =
      ranges_from t.undo z.space t.undo.ranges.count 0 (omega (arith, counted t.undo.ranges e)) (λ j h. (ranged t.undo.ranges e j (omega arith)).1)

  later_ranges_lem : map range_of (drop (stood_at name t) (writes_of t.undo)) ≡ later_ranges name t
  later_ranges_lem = map_drop range_of (stood_at name t) (writes_of t.undo) ∙ ap (drop (stood_at name t)) ranges_written

  pub return_ranges : map range_of (return_writes t name) ≡ reverse (later_ranges name t)
  return_ranges = map_back range_of (drop (stood_at name t) (writes_of t.undo)) [] ∙ ap reverse later_ranges_lem

  pub return_length : length (return_writes t name) ≡ length (later_ranges name t)
  return_length =
      let a = length_back (drop (stood_at name t) (writes_of t.undo)) [] in
      let b = length-map (drop (stood_at name t) (writes_of t.undo)) range_of in
      omega (arith, a, b, ap length later_ranges_lem)

  pub return_ok : every range_ok (map range_of (return_writes t name)) ≡ true
  return_ok =
      let rs = ranges_of t.undo.ranges in
      subst (λ (qs : List Range). every range_ok qs ≡ true) (sym return_ranges)
      (every_back (later_ranges name t) [] (every_drop (stood_at name t) rs (and_right (leb (length rs) 16) (every range_ok rs) e)) refl)

  pub return_size : ranges_size (map range_of (return_writes t name)) ≡ ranges_size (later_ranges name t)
  return_size = let a = ap ranges_size return_ranges in let b = sum_back (later_ranges name t) [] in omega (arith, a, b)

  -- number 13's sum, in recovery's words
  pub later_size : redo_size (drop (stood_at name t) (writes_of t.undo)) ≡ ranges_size (later_ranges name t)
  later_size = redo_size_lem (drop (stood_at name t) (writes_of t.undo)) ∙ ap ranges_size later_ranges_lem

  pub return_writable : Sized t.redo → ranges_of t.undo.ranges ≡ ranges_of t.redo.ranges → t.undo.ranges.count + length (later_ranges name t) ≤ 16
      → (m : List ℕ) → length m ≡ 4096 → Writable t m (return_writes t name)
  return_writable zr same room m l =
      let u = t.undo.ranges in
      let r = t.redo.ranges in
      let n : u.count ≡ r.count = sym (length_up (range_at u) u.count 0) ∙ ap length same ∙ length_up (range_at r) r.count 0 in
      record {
        undos = z;
        redos = zr;
        undo = e;
        redo = subst (λ (rs : List Range). records_ok rs ≡ true) same e;
        undo_room = omega (arith, return_length, room);
        redo_room = omega (arith, return_length, room, n);
        memory = l;
        ranges = return_ok;
      }

-- ---- going back over records in flat arrays

-- of the first k records those after the n-th, newest first
abbrev pub left : Ranges → List ℕ → ℕ → ℕ → List Write
left r bytes n k = reverse (drop n (writes_from r.addr r.len bytes k 0))

pub left_turn : (r : Ranges) (bytes : List ℕ) (n j : ℕ) → left r bytes n (n + suc j) ≡ write_at r.addr r.len bytes (n + j) ∷ left r bytes n (n + j)
left_turn r bytes n j =
    let f = write_at r.addr r.len bytes in
    let e : n + suc j ≡ suc (n + j) = omega arith in
    ap (left r bytes n) e
    ∙ ap (λ (ws : List Write). reverse (drop n ws)) (writes_up r.addr r.len bytes (suc (n + j)) 0)
    ∙ back_turn f n (n + j) (omega arith)
    ∙ ap (λ (ws : List Write). f (n + j) ∷ reverse (drop n ws)) (sym (writes_up r.addr r.len bytes (n + j) 0))

pub left_done : (r : Ranges) (bytes : List ℕ) (n : ℕ) → left r bytes n n ≡ []
left_done r bytes n =
    ap (λ (ws : List Write). reverse (drop n ws)) (writes_up r.addr r.len bytes n 0) ∙ back_end (write_at r.addr r.len bytes) n
