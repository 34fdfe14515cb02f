use Rattle.std.proofs.Common.{◌≡◌, ℕ, suc, ◌+◌, ◌-◌, ◌≤◌, ◌<◌, true, List, length, get_or, reverse, [], ◌∷◌, ◌++◌, slice_index_or, take, drop, sym, ap, ◌∙◌, arith}
use Rattle.std.proofs.Math.ListN.{length-drop}
use Rattle.std.proofs.Math.Seq.{take_all}
use Rattle.std.proofs.lemmas.List.{length-take-le, length-reverse, length_push, get_or-reverse, get_or-take, get_or_default}
use Rattle.std.proofs.lemmas.Iterator.Adapters.{YieldsList-from_rev_slice}
use Rattle.std.proofs.lemmas.Iterator.Consumers.{YieldsList-turn, YieldsList-end}
use Rattle.recovery.specs.Group.{Write}
use Rattle.recovery.specs.Replay.{undo_all, lay_bytes}
use Rattle.redolog.proofs.Basics.{from}
use Rattle.image.specs.Reading.{undo_here, first_undo, read_tx}
use Rattle.image.specs.Heads.{undos_read}
use Rattle.image.proofs.Readings.{no_write, here_within, undo_take}
use Rattle.image.proofs.TxReadings.{tx_records, place_at}
use Rattle.image.proofs.read.lay_back.Goals.{In-Some}
use Rattle.image.proofs.read.lay_back.Goals as goal

-- the place at hand, after j others: the last of those left
hand : (places : List ℕ) (n j x : ℕ) → n ≤ length places → (j < length (reverse (take n places))) × (x ≡ get_or (reverse (take n places)) j x)
    → (j < n) × (x ≡ get_or places (n - (j + 1)) 0)
hand places n j x few h =
    let r = take n places in
    let l = length-take-le n places few in
    let b : j < n = omega (arith, h.0, length-reverse r, l) in
    let e : length r - 1 - j ≡ n - (j + 1) = omega (arith, l) in (
      b,
      h.1 ∙ get_or_default (reverse r) j x 0 h.0 ∙ get_or-reverse r j 0 (omega (arith, b, l)) ∙ ap (λ (k : ℕ). get_or r k 0) e
          ∙ get_or-take n places (n - (j + 1)) 0 (omega (arith, b)),
    )

pub undo_places-places-requires : goal.undo_places-places-requires
undo_places-places-requires c = let r = tx_records c.args.s.now c.requires.0 c.requires.1 in (r.few, (_, r.read))

pub loop-at-init : goal.loop-at-init
loop-at-init c =
    let s = c.args.s.now in
    let us = undos_read (read_tx s) in
    let z : length us ≤ slice_index_or s 7 0 - 0 = omega (arith, (tx_records s c.requires.0 c.requires.1).count) in
    ap (λ (xs : List Write). undo_all lay_bytes xs c.args.memory.now) (sym (take_all (slice_index_or s 7 0 - 0) us z))

turn : (c : In-Some)
    → let j = length c.loop-at.yielded in
    let n = slice_index_or c.args.s.now 7 0 in
    (j < n) × (c.in-Some.at.now ≡ get_or c.undo_places-places.result (n - (j + 1)) 0)
turn c =
    let n = slice_index_or c.args.s.now 7 0 in
    let places = c.undo_places-places.result in
    let l = c.undo_places-places.type_inv in
    let few = (tx_records c.args.s.now c.requires.0 c.requires.1).few in
    hand places n (length c.loop-at.yielded) _ (omega (arith, few, l))
    (YieldsList-turn (YieldsList-from_rev_slice (take n places) cc) c.loop-at.yielded _ c.loop-at.yielded_by _ _ c.in-Some.at c.in-Some.is c.next.ensures.steps)

-- the record there
there : (c : In-Some)
    → let s = c.args.s.now in
    let k = slice_index_or s 7 0 - (length c.loop-at.yielded + 1) in
    (undo_here (drop c.in-Some.at.now s) ≡ true) × (first_undo (drop c.in-Some.at.now s) ≡ get_or (undos_read (read_tx s)) k no_write)
there c =
    let s = c.args.s.now in
    let t = turn c in
    rw t.1 (place_at s _ (slice_index_or s 7 0 - (length c.loop-at.yielded + 1)) (tx_records s c.requires.0 c.requires.1) c.undo_places-places.ensures (omega (arith, t.0)))

within : (c : In-Some) → c.in-Some.at.now ≤ length c.args.s.now
within c =
    let s = c.args.s.now in
    let at = c.in-Some.at.now in
    let w : 3 + get_or (drop at s) 2 0 ≤ length s - at = rw length-drop at (here_within (drop at s) (there c).0) in
    omega (arith, w)

pub slice_bounds-lay_undo-count : goal.slice_bounds-lay_undo-count
slice_bounds-lay_undo-count c = within (goal.at.slice_bounds-lay_undo-count c).In-Some

pub slice_bounds-lay_undo-start : goal.slice_bounds-lay_undo-start
slice_bounds-lay_undo-start c = within (goal.at.slice_bounds-lay_undo-start c).In-Some

pub lay_undo-requires : goal.lay_undo-requires
lay_undo-requires c = ap undo_here (from c.args.s.now c.in-Some.at.now) ∙ (there (goal.at.lay_undo-requires c).In-Some).0

pub loop-at-preserved : goal.loop-at-preserved
loop-at-preserved c =
    let p = (goal.at.loop-at-preserved c).In-Some in
    let s = c.args.s.now in
    let us = undos_read (read_tx s) in
    let l = c.loop-at in
    let at = c.in-Some.at.now in
    let n = slice_index_or s 7 0 in
    let k = n - (length l.yielded + 1) in
    let b = (turn p).0 in
    let e : n - length l.yielded ≡ suc k = omega (arith, b) in
    let z : k ≡ n - length (l.yielded ++ c.in-Some.at ∷ []) = omega (arith, length_push l.yielded c.in-Some.at) in
    let w : first_undo (take (length s - at) (drop at s)) ≡ get_or us k no_write = ap first_undo (from s at) ∙ (there p).1 in
    l.invariant
    ∙ ap (λ (n : ℕ). undo_all lay_bytes (take n us) l.memory) e
    ∙ undo_take us k l.memory (omega (arith, (tx_records s c.requires.0 c.requires.1).count, b))
    ∙ ap (undo_all lay_bytes (take k us)) (sym (c.lay_undo.ensures ∙ ap (λ (v : Write). lay_bytes v l.memory) w))
    ∙ ap (λ (n : ℕ). undo_all lay_bytes (take n us) c.lay_undo.new.memory) z

pub returns : goal.returns
returns c =
    let s = c.args.s.now in
    let n = slice_index_or s 7 0 in
    let places = c.undo_places-places.result in
    let l = c.undo_places-places.type_inv in
    let few : n ≤ length places = omega (arith, (tx_records s c.requires.0 c.requires.1).few, l) in
    let t = YieldsList-end (YieldsList-from_rev_slice (take n places) cc) c.loop-at.yielded _ c.loop-at.yielded_by _ _ c.in-None.is c.next.ensures.steps in
    let z : n - length c.loop-at.yielded ≡ 0 = omega (arith, t.1, length-reverse (take n places), length-take-le n places few) in
    sym (c.loop-at.invariant ∙ ap (λ (n : ℕ). undo_all lay_bytes (take n (undos_read (read_tx s))) c.loop-at.memory) z)
