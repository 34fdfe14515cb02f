-- One record more, as it is seen: the ranges and the writes gain one at their end, the others stay.
use Prim.Native.Nat.{ℕ, suc, ◌+◌, ◌*◌, ◌≤◌, ◌<◌}
use native.Mathlib.Nat.{zero-add}
use native.Mathlib.Numerals.{add-one}
use native.Mathlib.Omega.{arith}
use mathlib.Core.Bool.{true}
use mathlib.Core.List.{List, [], ◌∷◌, ◌++◌, append_assoc}
use mathlib.Core.Path.{◌≡◌, refl, sym, ap, ap₂, ◌∙◌}
use lib.ListN.{length, get_or, take, drop, set, length-set, length-append, length-replicate}
use lib.Seq.{sets, sets-eq, take-set-le, take_at, drop_at, length-take-le, length-sets, get_or-set_same, get_or-set_other}
use borrow.Author.Tests.{eq-eqb, le-leb}
use Rattle.recovery.specs.Group.{Write}
use Rattle.redolog.specs.Record.{in_range}
use Rattle.redolog.specs.Flat.{write_at}
use Rattle.redolog.proofs.Basics.{and_left, and_right}
use Rattle.redolog.proofs.RoundTrip.{drop_take}
use Rattle.transaction.specs.declared.ranges.Ranges.{Ranges}
use Rattle.transaction.specs.declared.records.Records.{Records}
use Rattle.transaction.specs.Lists.{up_from, every}
use Rattle.transaction.specs.Flat.{empty_ranges, empty_records}
use Rattle.transaction.specs.View.{Range, range, range_at, ranges_of, writes_of}
use Rattle.transaction.specs.Rules.{range_ok, records_ok, same_range, same_ranges, ranges_size}
use Rattle.transaction.specs.Steps.{pushed_range, pushed}
use Rattle.transaction.proofs.Lists.{up_snoc, up_same}
use Rattle.transaction.proofs.Writes.{writes_up}

-- records with other bytes
abbrev pub holding : Records → List ℕ → Records
holding r bs = record { ranges = r.ranges; bytes = bs }

-- the arrays' lengths, which every value of the code has
pub record SizedRanges (r : Ranges) : Type 0 where
  pub addrs : length r.addr ≡ 16
  pub lens : length r.len ≡ 16

pub record Sized (r : Records) : Type 0 where
  pub addrs : length r.ranges.addr ≡ 16
  pub lens : length r.ranges.len ≡ 16
  pub space : length r.bytes ≡ 512

pub empty_sized : Sized empty_records
unfolding empty_records
empty_sized = record { addrs = refl; lens = refl; space = length-replicate {A = ℕ} 512 0 }

pub push_sized : (r : Records) (a : ℕ) (bs : List ℕ) → Sized r → Sized (pushed r a bs)
unfolding pushed
push_sized r a bs z =
    record {
      addrs = length-set r.ranges.addr r.ranges.count a ∙ z.addrs;
      lens = length-set r.ranges.len r.ranges.count (length bs) ∙ z.lens;
      space = length-sets r.bytes (r.ranges.count * 32) bs ∙ z.space;
    }

ranges_sized : (r : Records) → Sized r → SizedRanges r.ranges
ranges_sized r z = record { addrs = z.addrs; lens = z.lens }

pub none_sized : SizedRanges empty_ranges
none_sized = record { addrs = refl; lens = refl }

pub range_sized : (r : Ranges) (a n : ℕ) → SizedRanges r → SizedRanges (pushed_range r a n)
range_sized r a n z = record { addrs = length-set r.addr r.count a ∙ z.addrs; lens = length-set r.len r.count n ∙ z.lens }

-- ---- a part of a list after stores: before them it is as it was, and where they were made it is what was stored

sets_before : (d bs : List ℕ) (p l q : ℕ) → p + l ≤ q → take l (drop p (sets d q bs)) ≡ take l (drop p d)
sets_before d [] p l q h = refl
sets_before d (x ∷ bs) p l q h =
    sets_before (set d q x) bs p l (suc q) (omega arith)
    ∙ sym (drop_take p l (set d q x))
    ∙ ap (drop p) (take-set-le (p + l) d q x h)
    ∙ drop_take p l d

sets_there : (d bs : List ℕ) (q : ℕ) → q + length bs ≤ length d → take (length bs) (drop q (sets d q bs)) ≡ bs
sets_there d bs q h =
    let rest = drop (q + length bs) d in
    ap (λ (l : List ℕ). take (length bs) (drop q l)) (sets-eq bs d q h ∙ append_assoc (take q d) bs rest)
    ∙ ap (take (length bs)) (drop_at (take q d) (bs ++ rest) q (length-take-le q d (omega arith)))
    ∙ take_at bs rest (length bs) refl

-- ---- the range that was pushed

module _ (r : Ranges) (a n : ℕ) (z : SizedRanges r) (c : r.count < 16) where
  address : get_or (set r.addr r.count a) r.count 0 ≡ a
  address = get_or-set_same r.addr r.count a 0 (omega (arith, z.addrs))

  long : get_or (set r.len r.count n) r.count 0 ≡ n
  long = get_or-set_same r.len r.count n 0 (omega (arith, z.lens))

  range_kept : (j : ℕ) → j < r.count → range_at (pushed_range r a n) j ≡ range_at r j
  range_kept j h =
      ap₂ range (get_or-set_other r.addr r.count j a 0 (λ e. omega (arith, e))) (get_or-set_other r.len r.count j n 0 (λ e. omega (arith, e)))

  range_new : range_at (pushed_range r a n) (0 + r.count) ≡ range a n
  range_new = ap (range_at (pushed_range r a n)) (zero-add r.count) ∙ ap₂ range address long

  pub ranges_pushed : ranges_of (pushed_range r a n) ≡ ranges_of r ++ (range a n ∷ [])
  ranges_pushed =
      ap (λ (k : ℕ). up_from (range_at (pushed_range r a n)) k 0) (add-one r.count)
      ∙ up_snoc (range_at (pushed_range r a n)) r.count 0
      ∙ ap₂ (λ (rs : List Range) (q : Range). rs ++ (q ∷ []))
      (up_same (range_at (pushed_range r a n)) (range_at r) r.count 0 (λ j p q. range_kept j (omega arith))) range_new

-- ---- the record that was pushed

pub pushed_count : (r : Records) (a : ℕ) (bs : List ℕ) → (pushed r a bs).ranges.count ≡ suc r.ranges.count
unfolding pushed
pushed_count r a bs = add-one r.ranges.count

module _ (r : Records) (a : ℕ) (bs : List ℕ) (z : Sized r) (c : r.ranges.count < 16) where
  pub pushed_ranges : ranges_of (pushed r a bs).ranges ≡ ranges_of r.ranges ++ (range a (length bs) ∷ [])
  unfolding pushed
  pushed_ranges = ranges_pushed r.ranges a (length bs) (ranges_sized r z) c

  module _ (l : length bs ≤ 32) (short : (j : ℕ) → j < r.ranges.count → get_or r.ranges.len j 0 ≤ 32) where
    abbrev seen : Records → ℕ → Write
    seen q j = write_at q.ranges.addr q.ranges.len q.bytes j

    write_kept : (j : ℕ) → j < r.ranges.count → seen (pushed r a bs) j ≡ seen r j
    unfolding pushed
    write_kept j h =
        let x : get_or (set r.ranges.addr r.ranges.count a) j 0 ≡ get_or r.ranges.addr j 0 = get_or-set_other r.ranges.addr r.ranges.count j a 0 (λ e. omega (arith, e)) in
        let y : get_or (set r.ranges.len r.ranges.count (length bs)) j 0 ≡ get_or r.ranges.len j 0 =
        get_or-set_other r.ranges.len r.ranges.count j (length bs) 0 (λ e. omega (arith, e)) in
        let w = sets_before r.bytes bs (j * 32) (get_or r.ranges.len j 0) (r.ranges.count * 32) (omega (arith, short j h)) in
        rw (x, y) (ap (λ (ds : List ℕ). record { addr = get_or r.ranges.addr j 0; bytes = ds }) w)

    write_new : seen (pushed r a bs) (0 + r.ranges.count) ≡ record { addr = a; bytes = bs }
    unfolding pushed
    write_new =
        ap (seen (pushed r a bs)) (zero-add r.ranges.count)
        ∙ rw (address r.ranges a (length bs) (ranges_sized r z) c, long r.ranges a (length bs) (ranges_sized r z) c)
        (ap (λ (ds : List ℕ). record { addr = a; bytes = ds }) (sets_there r.bytes bs (r.ranges.count * 32) (omega (arith, z.space))))

    pub pushed_writes : writes_of (pushed r a bs) ≡ writes_of r ++ (record { addr = a; bytes = bs } ∷ [])
    pushed_writes =
        writes_up (pushed r a bs).ranges.addr (pushed r a bs).ranges.len (pushed r a bs).bytes (pushed r a bs).ranges.count 0
        ∙ ap (λ (k : ℕ). up_from (seen (pushed r a bs)) k 0) (pushed_count r a bs)
        ∙ up_snoc (seen (pushed r a bs)) r.ranges.count 0
        ∙ ap₂ (λ (ws : List Write) (w : Write). ws ++ (w ∷ []))
        (up_same (seen (pushed r a bs)) (seen r) r.ranges.count 0 (λ j p q. write_kept j (omega arith))) write_new
        ∙ ap (λ (ws : List Write). ws ++ (record { addr = a; bytes = bs } ∷ [])) (sym (writes_up r.ranges.addr r.ranges.len r.bytes r.ranges.count 0))

-- ---- the rules of one more range

every_snoc : (rs : List Range) (q : Range) → every range_ok rs ≡ true → range_ok q ≡ true → every range_ok (rs ++ (q ∷ [])) ≡ true
every_snoc [] q e f = rw f
every_snoc (r ∷ rs) q e f = rw (and_left (range_ok r) (every range_ok rs) e) (every_snoc rs q (and_right (range_ok r) (every range_ok rs) e) f)

pub one_more : (rs : List Range) (a n : ℕ) → length rs < 16 → every range_ok rs ≡ true → in_range a n ≡ true → records_ok (rs ++ (range a n ∷ [])) ≡ true
one_more rs a n h e f =
    let l : length (rs ++ (range a n ∷ [])) ≤ 16 = rw length-append (omega arith) in
    rw (le-leb _ _ l) (every_snoc rs (range a n) e f)

same_self : (r : Range) → same_range r r ≡ true
same_self (range a n) = rw (eq-eqb a a refl, eq-eqb n n refl)

pub ranges_self : (rs : List Range) → same_ranges rs rs ≡ true
ranges_self [] = refl
ranges_self (r ∷ rs) = rw (same_self r) (ranges_self rs)

pub size_snoc : (rs : List Range) (a n : ℕ) → ranges_size (rs ++ (range a n ∷ [])) ≡ ranges_size rs + (7 + n)
size_snoc [] a n = omega arith
size_snoc (r ∷ rs) a n = let e = size_snoc rs a n in omega arith
