-- Laws of records pushed one after the other: they are seen again, and the arrays keep their lengths.
use Prim.Native.Nat.{ℕ, ◌+◌, ◌≤◌, ◌<◌}
use native.Mathlib.Omega.{arith}
use native.Mathlib.Decide.{dec_lt}
use mathlib.Core.Bool.{true}
use mathlib.Core.List.{List, [], ◌∷◌, ◌++◌, append-nil, append_assoc, map}
use mathlib.Core.Path.{◌≡◌, refl, sym, ap, subst, ◌∙◌}
use lib.ListN.{length, get_or, length-map}
use lib.Seq.{get_or-set_same, get_or-set_other}
use lib.Dec.{leb}
use borrow.Author.Tests.{leb-true}
use Rattle.recovery.specs.Group.{Write}
use Rattle.redolog.specs.Record.{in_range}
use Rattle.redolog.specs.Flat.{write_at}
use Rattle.redolog.proofs.Basics.{and_left, and_right}
use Rattle.transaction.specs.declared.records.Records.{Records}
use Rattle.transaction.specs.Lists.{every}
use Rattle.transaction.specs.Flat.{empty_records}
use Rattle.transaction.specs.View.{range, range_at, ranges_of, writes_of}
use Rattle.transaction.specs.Rules.{range_ok, records_ok}
use Rattle.transaction.specs.Steps.{pushed}
use Rattle.transaction.proofs.Lists.{up_same}
use Rattle.transaction.proofs.RangeLaws.{in_range_lem}
use Rattle.transaction.proofs.Writes.{writes_up, bytes_length}
use Rattle.transaction.proofs.Pushed.{Sized, empty_sized, push_sized, pushed_count, pushed_writes}
use Rattle.transaction.specs.View.{range_of}
use Rattle.image.specs.Pack.{pushed_all}
use Rattle.image.proofs.Lists.{up_map}

abbrev pub undo_at : Records → ℕ → Write
undo_at r i = write_at r.ranges.addr r.ranges.len r.bytes i

-- no record is longer than its place
abbrev Short : Records → Type 0
Short r = (j : ℕ) → j < r.ranges.count → get_or r.ranges.len j 0 ≤ 32

push_short : (r : Records) (a : ℕ) (bs : List ℕ) → Sized r → r.ranges.count < 16 → length bs ≤ 32 → Short r → Short (pushed r a bs)
unfolding pushed
push_short r a bs z c l s j h =
    elim (dec_lt j r.ranges.count) [
      | yes q ↦ rw (get_or-set_other r.ranges.len r.ranges.count j (length bs) 0 (λ e. omega (arith, q, e))) (s j q)
      | no q ↦ let e : j ≡ r.ranges.count = omega (arith, q, h) in rw (e, get_or-set_same r.ranges.len r.ranges.count (length bs) 0 (omega (arith, z.lens))) l
    ]

-- records that keep the rules, as they were read or are to be written
abbrev pub UndosOk : List Write → Type 0
UndosOk us = records_ok (map range_of us) ≡ true

pub undos_few : (us : List Write) → UndosOk us → length us ≤ 16
undos_few us e =
    let h = leb-true (length (map range_of us)) 16 (and_left (leb (length (map range_of us)) 16) (every range_ok (map range_of us)) e) in
    omega (arith, length-map us range_of)

pub undos_ranged : (us : List Write) → UndosOk us → every range_ok (map range_of us) ≡ true
undos_ranged us e = and_right (leb (length (map range_of us)) 16) (every range_ok (map range_of us)) e

module _ (u : Write) (us : List Write) (e : every range_ok (map range_of (u ∷ us)) ≡ true) where
  pub first_ranged : in_range u.addr (length u.bytes) ≡ true
  first_ranged = and_left (in_range u.addr (length u.bytes)) (every range_ok (map range_of us)) e

  pub rest_ranged : every range_ok (map range_of us) ≡ true
  rest_ranged = and_right (in_range u.addr (length u.bytes)) (every range_ok (map range_of us)) e

-- records pushed one after the other: the arrays have their lengths, and what was pushed is seen
record Laid (r : Records) (ws : List Write) : Type 0 where
  pub arrays : Sized r
  pub short : Short r
  pub few : r.ranges.count ≤ 16
  pub writes : writes_of r ≡ ws

push_all : (us : List Write) (r : Records) (ws : List Write) → Laid r ws → r.ranges.count + length us ≤ 16 → every range_ok (map range_of us) ≡ true
    → Laid (pushed_all r us) (ws ++ us)
push_all [] r ws z c e = record { arrays = z.arrays; short = z.short; few = z.few; writes = z.writes ∙ sym (append-nil ws) }
push_all (u ∷ us) r ws z c e =
    let a = u.addr in
    let bs = u.bytes in
    let l = (in_range_lem a (length bs) (first_ranged u us e)).1 in
    let n = pushed_count r a bs in
    let next : Laid (pushed r a bs) (ws ++ (u ∷ [])) =
    record {
      arrays = push_sized r a bs z.arrays;
      short = push_short r a bs z.arrays (omega arith) l z.short;
      few = omega arith;
      writes = pushed_writes r a bs z.arrays (omega arith) l z.short ∙ ap (λ (vs : List Write). vs ++ (u ∷ [])) z.writes;
    } in
    subst (Laid (pushed_all (pushed r a bs) us)) (append_assoc ws (u ∷ []) us)
    (push_all us (pushed r a bs) (ws ++ (u ∷ [])) next (omega arith) (rest_ranged u us e))

-- the ranges of records are those of what they hold
pub ranges_of_lem : (r : Records) → length r.bytes ≡ 512 → r.ranges.count ≤ 16 → ((j : ℕ) → j < r.ranges.count → get_or r.ranges.len j 0 ≤ 32)
    → map range_of (writes_of r) ≡ ranges_of r.ranges
ranges_of_lem r l c s =
    ap (map range_of) (writes_up r.ranges.addr r.ranges.len r.bytes r.ranges.count 0)
    ∙ sym (up_map range_of (undo_at r) r.ranges.count 0)
    ∙ up_same (λ j. range_of (undo_at r j)) (range_at r.ranges) r.ranges.count 0
    (λ j g h. ap (range (get_or r.ranges.addr j 0)) (bytes_length r j l (omega arith) (s j (omega arith))))

module _ (us : List Write) (e : UndosOk us) where
  laid : Laid (pushed_all empty_records us) us
  unfolding empty_records
  laid =
      push_all us empty_records [] (record { arrays = empty_sized; short = λ j h. absurd (omega arith); few = omega arith; writes = refl })
      (omega (arith, undos_few us e)) (undos_ranged us e)

  pub packed_writes : writes_of (pushed_all empty_records us) ≡ us
  packed_writes = laid.writes

  pub packed_ranges : ranges_of (pushed_all empty_records us).ranges ≡ map range_of us
  packed_ranges =
      let r = pushed_all empty_records us in
      sym (ranges_of_lem r laid.arrays.space laid.few laid.short) ∙ ap (map range_of) laid.writes
