use Rattle.std.proofs.Common.{ℕ, List, ◌≡◌, ◌+◌, ◌-◌, ◌*◌, ◌≤◌, ◌<◌, length, get_or, take, drop, sym, ◌∙◌, arith, length-drop}
use Rattle.std.proofs.Math.Nat.{sub-zero}
use Rattle.std.proofs.Math.Seq.{length-take-le}
use Rattle.recovery.specs.Group.{redo_size}
use Rattle.redolog.specs.Flat.{writes_from}
use Rattle.redolog.proofs.FlatLaws.{redo_size_lem, redo_stores}
use Rattle.redolog.proofs.group.put_group.Goals as goal

-- a record's bytes lie within the place set aside for them
aside : (len bytes : List ℕ) (n i : ℕ) → i < n → get_or len i 0 ≤ 32 → n * 32 ≤ length bytes
    → length (take (i * 32 + get_or len i 0 - i * 32) (drop (i * 32) bytes)) ≡ i * 32 + get_or len i 0 - i * 32
aside len bytes n i h k l = length-take-le _ _ (omega (arith, length-drop (i * 32) bytes))

-- what a turn does to the size that is left
size_turn : (addr len bytes : List ℕ) (n i : ℕ) → i < n → get_or len i 0 ≤ 32 → n * 32 ≤ length bytes
    → redo_size (writes_from addr len bytes (n - i) i) ≡ 7 + get_or len i 0 + redo_size (writes_from addr len bytes (n - (i + 1)) (i + 1))
size_turn addr len bytes n i h k l = redo_size_lem addr len bytes n i h (aside len bytes n i h k l)

pub loop-i-init : goal.loop-i-init
loop-i-init c = record { within = omega arith; size = rw (sub-zero c.args.n); stores = rw (sub-zero c.args.n) }

pub put_redo-requires-clause-src_in_bounds : goal.put_redo-requires-clause-src_in_bounds
put_redo-requires-clause-src_in_bounds c =
    let a = c.args in
    let i = c.loop-i.i in
    let h = c.loop-i-test.true in
    let k = c.requires.by_index i h in
    let l = c.requires.n_in_bounds.2 in
    omega (
      arith,
      aside a.len.now a.bytes.now a.n i h k l,
      size_turn a.addr.now a.len.now a.bytes.now a.n i h k l,
      c.requires.n_in_bounds_2,
    )

pub overflow_add-o : goal.overflow_add-o
overflow_add-o c =
    let a = c.args in
    let i = c.loop-i.i in
    let h = c.loop-i-test.true in
    omega (
      arith,
      size_turn a.addr.now a.len.now a.bytes.now a.n i h (c.requires.by_index i h) c.requires.n_in_bounds.2,
      c.requires.n_in_bounds_2,
    )

pub loop-i-preserved : goal.loop-i-preserved
loop-i-preserved c =
    let a = c.args in
    let i = c.loop-i.i in
    let h = c.loop-i-test.true in
    let k = c.requires.by_index i h in
    let l = c.requires.n_in_bounds.2 in
    record {
      within = omega arith;
      size = omega (arith, size_turn a.addr.now a.len.now a.bytes.now a.n i h k l);
      stores = c.loop-i.invariant.stores
          ∙ redo_stores _ _ _ _ _ h (aside a.len.now a.bytes.now a.n i h k l) _ _ _ _ _ c.put_redo.ensures;
    }

pub put_commit-requires : goal.put_commit-requires
put_commit-requires c =
    let a = c.args in
    let z : a.n - c.loop-i.i ≡ 0 = omega arith in
    let e : redo_size (writes_from a.addr.now a.len.now a.bytes.now (a.n - c.loop-i.i) c.loop-i.i) ≡ 0 = rw z in
    omega (arith, c.requires.n_in_bounds_2)

pub returns : goal.returns
returns c =
    let z : c.args.n - c.loop-i.i ≡ 0 = omega arith in
    c.put_commit.ensures ∙ sym (c.loop-i.invariant.stores ∙ rw z)
