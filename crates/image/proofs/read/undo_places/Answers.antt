use Rattle.std.proofs.Common.{◌≡◌, ℕ, ◌<◌, ◌+◌, ◌∙◌, ◌++◌, ap, sym, drop, length, get_or, replicate, List, arith}
use Rattle.std.proofs.lemmas.List.{take-append-drop, length-take-le, set-append_left}
use Rattle.std.proofs.lemmas.List.Edits.{sets}
use Rattle.image.specs.Heads.{undo_starts, undo_places}
use Rattle.image.proofs.Readings.{PlaceTurn, undos_inv, place_turn, place_done}
use Rattle.image.proofs.read.undo_places.Goals.{In-loop-place}
use Rattle.image.proofs.read.undo_places.Goals as goal

-- all places as they stand, those not used behind those listed
abbrev whole : In-loop-place → List ℕ
whole c = c.loop-place.place-items ++ drop c.args.n (replicate 16 0)

-- the record at hand
below : (c : In-loop-place) → (c.loop-place.place-index < c.args.n) × (c.loop-place.place-index < length c.loop-place.place-items)
below c =
    let l = length-take-le {A = ℕ} c.args.n (replicate 16 0) c.requires.0 in
    (omega (arith, l, c.loop-place-test.true), omega (arith, c.loop-place.auto.place-items, c.loop-place-test.true))

turn : (c : In-loop-place) → PlaceTurn c.args.s.now (whole c) c.loop-place.at c.loop-place.place-index c.args.n c.loop-place.invariant.rest
turn c =
    let l = c.loop-place in
    place_turn c.args.s.now (whole c) l.at l.place-index c.args.n l.invariant.rest (below c).0 l.invariant.count l.invariant.there

pub loop-place-init : goal.loop-place-init
loop-place-init c =
    let r = c.requires.1 in
    let i = undos_inv c.args.n (drop 8 c.args.s.now) r.0 r.1 in
    record {
      rest = r.0;
      count = omega arith;
      there = i.1;
      same = ap undo_places r.1 ∙ ap (λ (l : List ℕ). sets l 0 (undo_starts 8 r.0)) (sym (take-append-drop c.args.n (replicate 16 0)));
    }

pub overflow_add-at : goal.overflow_add-at
overflow_add-at c = let t = turn (goal.at.overflow_add-at c).In-loop-place in omega (arith, t.within, c.well_formed)

pub bounds-s-at : goal.bounds-s-at
bounds-s-at c = let t = turn (goal.at.bounds-s-at c).In-loop-place in omega (arith, t.within)

pub overflow_add-at-in-loop-place-2 : goal.overflow_add-at-in-loop-place-2
overflow_add-at-in-loop-place-2 c = let t = turn (goal.at.overflow_add-at-in-loop-place-2 c).In-loop-place in omega (arith, t.within, c.well_formed)

pub loop-place-preserved : goal.loop-place-preserved
loop-place-preserved c =
    let p = (goal.at.loop-place-preserved c).In-loop-place in
    let l = c.loop-place in
    let t = turn p in
    record {
      rest = t.rest;
      count = t.count;
      there = t.there;
      same = l.invariant.same ∙ t.same
          ∙ ap (λ (places : List ℕ). sets places (l.place-index + 1) (undo_starts (l.at + (3 + get_or c.args.s.now (l.at + 2) 0)) t.rest))
          (set-append_left l.place-items (drop c.args.n (replicate 16 0)) l.place-index l.at (below p).1);
    }

pub returns : goal.returns
returns c =
    let l = c.loop-place in
    let z = length-take-le {A = ℕ} c.args.n (replicate 16 0) c.requires.0 in
    let e : length l.invariant.rest ≡ 0 = omega (arith, l.invariant.count, z, c.loop-place-test.false) in
    sym (l.invariant.same ∙ place_done (l.place-items ++ drop c.args.n (replicate 16 0)) l.at l.place-index l.invariant.rest e)
