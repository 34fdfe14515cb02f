-- Laws of savepoints: a name looked up and set in the flat arrays, and the rule that number 2 has for them.
use Prim.Native.Nat.{ℕ, zero, suc, ◌+◌, ◌-◌, ◌≤◌, ◌<◌}
use native.Mathlib.Numerals.{add-one}
use native.Mathlib.Omega.{arith}
use mathlib.Core.Bool.{Bool, true, false, cond, not, ◌&&◌, ◌||◌}
use mathlib.Core.List.{List, [], ◌∷◌}
use mathlib.Core.Option.{none, some}
use mathlib.Core.Path.{◌≡◌, refl, sym, ap, ap₂, ◌∙◌}
use lib.ListN.{length, get_or, take, set, length-set}
use lib.Seq.{get_or-set_same, get_or-set_other}
use lib.Dec.{eqb, leb, ltb}
use borrow.Author.Tests.{eqb-true, eqb-false, eq-eqb, ne_eqb, leb-true, le-leb, lt-leb, lt-ltb, not-true}
use native.Mathlib.Decide.{dec_lt}
use Rattle.std.proofs.Common.{Option, None, Some}
use Rattle.std.specs.Option.{unwrap_or}
use Rattle.std.proofs.lemmas.Bool.Decides.{nat_tests}
use Rattle.std.specs.List.{list_any, position_or_len}
use Rattle.recovery.specs.Savepoint.{Savepoint, set_name, count_at}
use Rattle.recovery.proofs.Bool.{opposed, or_left, or_right}
use Rattle.redolog.proofs.Basics.{and_left, and_right, and_both}
use Rattle.transaction.specs.declared.savepoints.Savepoints.{Savepoints}
use Rattle.transaction.specs.Lists.{up_from, first_in}
use Rattle.transaction.specs.Flat.{empty_savepoints}
use Rattle.transaction.specs.View.{savepoint_at, savepoints_in}
use Rattle.transaction.specs.Rules.{has_name, is_set, names_ok, savepoints_ok, place_of, name_refused, or_zero}
use Rattle.transaction.specs.Steps.{name_set}
use Rattle.transaction.proofs.Lists.{length_up, up_turn, up_same}
use Rattle.transaction.proofs.First.{First, first, first_within}

-- the arrays' lengths, which every value of the code has
pub record SizedSavepoints (p : Savepoints) : Type 0 where
  pub names : length p.names ≡ 4
  pub counts : length p.counts ≡ 4

pub unset_sized : SizedSavepoints empty_savepoints
unset_sized = record { names = refl; counts = refl }

pub name_sized : (p : Savepoints) (name n : ℕ) → SizedSavepoints p → SizedSavepoints (name_set p name n)
name_sized p name n z =
    record { names = length-set p.names (place_of p name) name ∙ z.names; counts = length-set p.counts (place_of p name) n ∙ z.counts }

-- ---- looked up

module _ (p : Savepoints) (name : ℕ) where
  count_from : (k i : ℕ)
      → let ps = up_from (savepoint_at p) k i in
      let j = first_in (has_name name) i ps in
      (j < i + k → count_at name ps ≡ some (get_or p.counts j 0)) × (j ≡ i + k → count_at name ps ≡ none)
  count_from zero i = (λ h. absurd (omega arith), λ h. refl)
  count_from (suc k) i = go (eqb name (get_or p.names i 0)) (count_from k (suc i)) (first (savepoint_at p) (has_name name) k (suc i)).low
    where
      rest : List Savepoint
      rest = up_from (savepoint_at p) k (suc i)

      go : (b : Bool) → {j : ℕ} → (j < suc i + k → count_at name rest ≡ some (get_or p.counts j 0)) × (j ≡ suc i + k → count_at name rest ≡ none) → suc i ≤ j
          → (cond b i j < i + suc k → cond b (some (get_or p.counts i 0)) (count_at name rest) ≡ some (get_or p.counts (cond b i j) 0))
          × (cond b i j ≡ i + suc k → cond b (some (get_or p.counts i 0)) (count_at name rest) ≡ none)
      go true r l = (λ h. refl, λ h. absurd (omega arith))
      go false r l = (λ h. r.0 (omega arith), λ h. r.1 (omega arith))

  pub count_there : place_of p name < p.count → count_at name (savepoints_in p) ≡ some (get_or p.counts (place_of p name) 0)
  count_there h = (count_from p.count 0).0 (omega arith)

  pub count_none : place_of p name ≡ p.count → count_at name (savepoints_in p) ≡ none
  count_none h = (count_from p.count 0).1 (omega arith)

  pub place : First (savepoint_at p) (has_name name) 0 p.count (place_of p name) (is_set name (savepoints_in p))
  place = first (savepoint_at p) (has_name name) p.count 0

  pub place_set : is_set name (savepoints_in p) ≡ true → place_of p name < p.count
  place_set e = let h = first_within (savepoint_at p) (has_name name) p.count 0 e in omega arith

turned : (a b : ℕ) → eqb a b ≡ eqb b a
turned a b = grind (arith, nat_tests)

later_on : (a b : ℕ) → ltb (1 + a) (suc b) ≡ ltb a b
later_on a b = grind (arith, nat_tests)

-- the first place of a name, and whether it is there, as a walk over the names tells them
pub record Walked (name : ℕ) (f : ℕ → Savepoint) (ns : List ℕ) (k i : ℕ) : Type 0 where
  pub first : first_in (has_name name) i (up_from f k i) ≡ i + position_or_len (eqb name) (take k ns)
  pub passed : is_set name (up_from f k i) ≡ ltb (position_or_len (eqb name) (take k ns)) (length (take k ns))
  pub there : is_set name (up_from f k i) ≡ list_any (λ x. eqb x name) (take k ns)

pub walked : (name : ℕ) (f : ℕ → Savepoint) (ns : List ℕ) (k i : ℕ) → k ≤ length ns → ((j : ℕ) → j < k → (f (i + j)).name ≡ get_or ns j 0)
    → Walked name f ns k i
walked name f ns zero i h e = record { first = omega arith; passed = refl; there = refl }
walked name f [] (suc k) i h e = absurd (omega arith)
walked name f (n ∷ ns) (suc k) i h e =
    go (eqb name n) refl
    (walked name f ns k (suc i) (omega arith)
    (λ j l. let z : suc i + j ≡ i + suc j = omega arith in ap (λ (x : ℕ). (f x).name) z ∙ e (suc j) (omega arith)))
  where
    at_front : (f i).name ≡ n
    at_front = let z : i ≡ i + 0 = omega arith in ap (λ (j : ℕ). (f j).name) z ∙ e 0 (omega arith)

    go : (b : Bool) → eqb name n ≡ b → Walked name f ns k (suc i) → Walked name f (n ∷ ns) (suc k) i
    go true q r =
        record { first = rw (at_front, q) (omega arith); passed = rw (at_front, q) (sym (lt-ltb 0 (suc (length (take k ns))) (omega arith))); there = rw (at_front, turned n name, q) }
    go false q r =
        record {
          first = rw (at_front, q) (omega (arith, r.first));
          passed = rw (at_front, q) (r.passed ∙ sym (later_on (position_or_len (eqb name) (take k ns)) (length (take k ns))));
          there = rw (at_front, turned n name, q) r.there;
        }

-- what looking a name up has found
module _ (p : Savepoints) (name : ℕ) where
  abbrev pub looked_up : Option ℕ
  looked_up = cond (is_set name (savepoints_in p)) (Some (place_of p name)) None

  pub place_unset : is_set name (savepoints_in p) ≡ false → place_of p name ≡ p.count
  place_unset e =
      let x = place p name in
      elim (dec_lt (place_of p name) p.count) [ yes h ↦ absurd (opposed (x.listed (omega arith)) e) | no h ↦ omega (arith, h, x.high) ]

  pub found_some : (at : ℕ) → Some at ≡ looked_up → (at ≡ place_of p name) × (at < p.count)
  found_some at e = go (is_set name (savepoints_in p)) refl e
    where
      go : (b : Bool) → is_set name (savepoints_in p) ≡ b → Some at ≡ cond b (Some (place_of p name)) None → (at ≡ place_of p name) × (at < p.count)
      go true q h = let z : at ≡ place_of p name = cc in (z, omega (arith, z, place_set p name q))
      go false q h = cc

  pub found_none : None ≡ looked_up → place_of p name ≡ p.count
  found_none e = go (is_set name (savepoints_in p)) refl e
    where
      go : (b : Bool) → is_set name (savepoints_in p) ≡ b → None ≡ cond b (Some (place_of p name)) None → place_of p name ≡ p.count
      go true q h = cc
      go false q h = place_unset q

  pub found_or : (r : Option ℕ) → r ≡ looked_up → unwrap_or r p.count ≡ place_of p name
  found_or r e = ap (λ (o : Option ℕ). unwrap_or o p.count) e ∙ go (is_set name (savepoints_in p)) refl
    where
      go : (b : Bool) → is_set name (savepoints_in p) ≡ b → unwrap_or (cond b (Some (place_of p name)) None) p.count ≡ place_of p name
      go true q = refl
      go false q = sym (place_unset q)

-- a name that is set has a count
pub set_count : (name : ℕ) (ps : List Savepoint) → is_set name ps ≡ true → count_at name ps ≡ some (or_zero (count_at name ps))
set_count name [] e = absurd (opposed e refl)
set_count name (p ∷ ps) e = go (has_name name p) e (set_count name ps)
  where
    go : (b : Bool) → b || is_set name ps ≡ true → (is_set name ps ≡ true → count_at name ps ≡ some (or_zero (count_at name ps)))
        → cond b (some p.count) (count_at name ps) ≡ some (or_zero (cond b (some p.count) (count_at name ps)))
    go true e f = refl
    go false e f = f e

-- ---- set

module _ (f g : ℕ → Savepoint) (name n at : ℕ) (other : (j : ℕ) → (j ≡ at → ⊥) → g j ≡ f j) (here : g at ≡ record { name = name; count = n }) where
  abbrev new : Savepoint
  new = record { name = name; count = n }

  abbrev first_of : ℕ → ℕ → ℕ
  first_of k i = first_in (has_name name) i (up_from f k i)

  kept : (k i : ℕ) → at < i → up_from g k i ≡ up_from f k i
  kept k i h = up_same g f k i (λ j a b. other j (λ e. omega (arith, e, a, h)))

  -- a name that is set moves
  set_moved : (k i : ℕ) → first_of k i ≡ at → at < i + k → up_from g k i ≡ set_name name n (up_from f k i)
  set_moved zero i e h = absurd (omega (arith, e))
  set_moved (suc k) i e h = go (has_name name (f i)) e (first f (has_name name) k (suc i)).low (λ q. set_moved k (suc i) q (omega arith))
    where
      go : (b : Bool) → cond b i (first_of k (suc i)) ≡ at → suc i ≤ first_of k (suc i)
          → (first_of k (suc i) ≡ at → up_from g k (suc i) ≡ set_name name n (up_from f k (suc i)))
          → g i ∷ up_from g k (suc i) ≡ cond b (new ∷ up_from f k (suc i)) (f i ∷ set_name name n (up_from f k (suc i)))
      go true q l r = ap₂ (λ (x : Savepoint) (xs : List Savepoint). x ∷ xs) (ap g q ∙ here) (kept k (suc i) (omega (arith, q)))
      go false q l r = ap₂ (λ (x : Savepoint) (xs : List Savepoint). x ∷ xs) (other i (λ x. omega (arith, x, q, l))) (r q)

  -- another goes last
  set_last : (k i : ℕ) → first_of k i ≡ at → at ≡ i + k → up_from g (suc k) i ≡ set_name name n (up_from f k i)
  set_last zero i e h = ap (λ (x : Savepoint). x ∷ []) (ap g e ∙ here)
  set_last (suc k) i e h = go (has_name name (f i)) e (first f (has_name name) k (suc i)).low (λ q. set_last k (suc i) q (omega arith))
    where
      go : (b : Bool) → cond b i (first_of k (suc i)) ≡ at → suc i ≤ first_of k (suc i)
          → (first_of k (suc i) ≡ at → up_from g (suc k) (suc i) ≡ set_name name n (up_from f k (suc i)))
          → g i ∷ up_from g (suc k) (suc i) ≡ cond b (new ∷ up_from f k (suc i)) (f i ∷ set_name name n (up_from f k (suc i)))
      go true q l r = absurd (omega (arith, q, h))
      go false q l r = ap₂ (λ (x : Savepoint) (xs : List Savepoint). x ∷ xs) (other i (λ x. omega (arith, x, q, l))) (r q)

module _ (p : Savepoints) (name n : ℕ) (z : SizedSavepoints p) (fits : place_of p name < 4) where
  set_other : (j : ℕ) → (j ≡ place_of p name → ⊥) → savepoint_at (name_set p name n) j ≡ savepoint_at p j
  set_other j h =
      ap₂ (λ (a b : ℕ). record { name = a; count = b }) (get_or-set_other p.names (place_of p name) j name 0 h)
      (get_or-set_other p.counts (place_of p name) j n 0 h)

  set_here : savepoint_at (name_set p name n) (place_of p name) ≡ record { name = name; count = n }
  set_here =
      ap₂ (λ (a b : ℕ). record { name = a; count = b }) (get_or-set_same p.names (place_of p name) name 0 (omega (arith, z.names)))
      (get_or-set_same p.counts (place_of p name) n 0 (omega (arith, z.counts)))

  pub savepoints_set : savepoints_in (name_set p name n) ≡ set_name name n (savepoints_in p)
  savepoints_set = go (eqb (place_of p name) p.count) refl
    where
      g : ℕ → Savepoint
      g = savepoint_at (name_set p name n)

      go : (b : Bool) → eqb (place_of p name) p.count ≡ b → up_from g (cond b (p.count + 1) p.count) 0 ≡ set_name name n (savepoints_in p)
      go true q =
          let e : place_of p name ≡ 0 + p.count = omega (arith, eqb-true (place_of p name) p.count q) in
          ap (λ (k : ℕ). up_from g k 0) (add-one p.count)
          ∙ set_last (savepoint_at p) g name n (place_of p name) set_other set_here p.count 0 refl e
      go false q =
          let e : place_of p name < 0 + p.count = omega (arith, eqb-false (place_of p name) p.count q, (place p name).high) in
          set_moved (savepoint_at p) g name n (place_of p name) set_other set_here p.count 0 refl e

-- the arrays with a name at a place
abbrev placed : Savepoints → ℕ → ℕ → ℕ → ℕ → Savepoints
placed p count at name n = record { count = count; names = set p.names at name; counts = set p.counts at n }

module _ (p : Savepoints) (name n at : ℕ) (e : at ≡ place_of p name) where
  pub moved_set : (at ≡ p.count → ⊥) → placed p p.count at name n ≡ name_set p name n
  moved_set h =
      let q : eqb (place_of p name) p.count ≡ false = ne_eqb _ _ (λ x. h (e ∙ x)) in
      ap (λ (k : ℕ). placed p p.count k name n) e ∙ rw q refl

  pub added_set : at ≡ p.count → placed p (p.count + 1) at name n ≡ name_set p name n
  added_set h =
      let q : eqb (place_of p name) p.count ≡ true = eq-eqb _ _ (sym e ∙ h) in
      ap (λ (k : ℕ). placed p (p.count + 1) k name n) e ∙ rw q refl

-- ---- the rule

-- its parts, of a list that is not empty
pub record NamesOk (writes : ℕ) (p : Savepoint) (ps : List Savepoint) : Type 0 where
  pub named : p.name ≡ 0 → ⊥
  pub below : p.count ≤ writes
  pub once : is_set p.name ps ≡ false
  pub rest : names_ok writes ps ≡ true

pub names_ok_lem : (writes : ℕ) (p : Savepoint) (ps : List Savepoint) → names_ok writes (p ∷ ps) ≡ true → NamesOk writes p ps
names_ok_lem writes p ps e =
    let a = not (eqb p.name 0) in
    let b = leb p.count writes in
    let c = not (is_set p.name ps) in
    let e1 = and_right a (b && (c && names_ok writes ps)) e in
    let e2 = and_right b (c && names_ok writes ps) e1 in
    record {
      named = eqb-false p.name 0 (not-true (eqb p.name 0) (and_left a (b && (c && names_ok writes ps)) e));
      below = leb-true p.count writes (and_left b (c && names_ok writes ps) e1);
      once = not-true (is_set p.name ps) (and_left c (names_ok writes ps) e2);
      rest = and_right c (names_ok writes ps) e2;
    }

pub ok_names : (writes : ℕ) (p : Savepoint) (ps : List Savepoint) → NamesOk writes p ps → names_ok writes (p ∷ ps) ≡ true
ok_names writes p ps h = rw (ne_eqb p.name 0 h.named, le-leb p.count writes h.below, h.once) h.rest

pub stood_below : (name writes : ℕ) (ps : List Savepoint) → names_ok writes ps ≡ true → or_zero (count_at name ps) ≤ writes
stood_below name writes [] e = omega arith
stood_below name writes (p ∷ ps) e = let h = names_ok_lem writes p ps e in go (eqb name p.name) h.below (stood_below name writes ps h.rest)
  where
    go : (b : Bool) → p.count ≤ writes → or_zero (count_at name ps) ≤ writes → or_zero (cond b (some p.count) (count_at name ps)) ≤ writes
    go true a r = a
    go false a r = r

names_later : (writes more : ℕ) (ps : List Savepoint) → writes ≤ more → names_ok writes ps ≡ true → names_ok more ps ≡ true
names_later writes more [] l e = refl
names_later writes more (p ∷ ps) l e =
    let h = names_ok_lem writes p ps e in
    ok_names more p ps (record { named = h.named; below = omega (arith, h.below, l); once = h.once; rest = names_later writes more ps l h.rest })

other_set : (x name n : ℕ) (ps : List Savepoint) → eqb x name ≡ false → is_set x (set_name name n ps) ≡ is_set x ps
other_set x name n [] e = rw e refl
other_set x name n (p ∷ ps) e = go (eqb name p.name) refl (other_set x name n ps e)
  where
    go : (b : Bool) → eqb name p.name ≡ b → is_set x (set_name name n ps) ≡ is_set x ps
        → is_set x (cond b (record { name = name; count = n } ∷ ps) (p ∷ set_name name n ps)) ≡ eqb x p.name || is_set x ps
    go true q r = ap (λ (y : ℕ). eqb x y || is_set x ps) (eqb-true name p.name q)
    go false q r = ap (λ (b : Bool). eqb x p.name || b) r

names_set : (name n writes : ℕ) (ps : List Savepoint) → (name ≡ 0 → ⊥) → n ≤ writes → names_ok writes ps ≡ true → names_ok writes (set_name name n ps) ≡ true
names_set name n writes [] d l e = rw (ne_eqb name 0 d, le-leb n writes l) refl
names_set name n writes (p ∷ ps) d l e = go (eqb name p.name) refl (names_ok_lem writes p ps e) (λ q. names_set name n writes ps d l q)
  where
    go : (b : Bool) → eqb name p.name ≡ b → NamesOk writes p ps → (names_ok writes ps ≡ true → names_ok writes (set_name name n ps) ≡ true)
        → names_ok writes (cond b (record { name = name; count = n } ∷ ps) (p ∷ set_name name n ps)) ≡ true
    go true q h r =
        ok_names writes (record { name = name; count = n }) ps
        (record { named = d; below = l; once = ap (λ (y : ℕ). is_set y ps) (eqb-true name p.name q) ∙ h.once; rest = h.rest })
    go false q h r =
        let x : eqb p.name name ≡ false = ne_eqb p.name name (λ y. eqb-false name p.name q (sym y)) in
        ok_names writes p (set_name name n ps)
        (record { named = h.named; below = h.below; once = other_set p.name name n ps x ∙ h.once; rest = r h.rest })

length_name : (name n : ℕ) (ps : List Savepoint) → length (set_name name n ps) ≡ cond (is_set name ps) (length ps) (suc (length ps))
length_name name n [] = refl
length_name name n (p ∷ ps) = go (has_name name p) (is_set name ps) (length_name name n ps)
  where
    go : (b c : Bool) → length (set_name name n ps) ≡ cond c (length ps) (suc (length ps))
        → length (cond b (record { name = name; count = n } ∷ ps) (p ∷ set_name name n ps)) ≡ cond (b || c) (suc (length ps)) (suc (suc (length ps)))
    go true c r = refl
    go false true r = ap suc r
    go false false r = ap suc r

-- ---- all of it

module _ (writes : ℕ) (ps : List Savepoint) (e : savepoints_ok writes ps ≡ true) where
  pub few_names : length ps ≤ 4
  unfolding savepoints_ok
  few_names = leb-true (length ps) 4 (and_left (leb (length ps) 4) (names_ok writes ps) e)

  pub names_rule : names_ok writes ps ≡ true
  unfolding savepoints_ok
  names_rule = and_right (leb (length ps) 4) (names_ok writes ps) e

  pub later_rule : (more : ℕ) → writes ≤ more → savepoints_ok more ps ≡ true
  unfolding savepoints_ok
  later_rule more l = and_both _ _ (le-leb _ _ few_names) (names_later writes more ps l names_rule)

  -- what number 19 lets pass
  module _ (name : ℕ) (q : name_refused name ps ≡ false) where
    name_given : name ≡ 0 → ⊥
    unfolding name_refused
    name_given = eqb-false name 0 (or_left (eqb name 0) (not (is_set name ps) && eqb (length ps) 4) q)

    pub room_for_name : is_set name ps ≡ false → length ps < 4
    unfolding name_refused
    room_for_name s =
        let r : not (is_set name ps) && eqb (length ps) 4 ≡ false = or_right (eqb name 0) (not (is_set name ps) && eqb (length ps) 4) q in
        let n : eqb (length ps) 4 ≡ false = rw s at r in
        omega (arith, few_names, eqb-false (length ps) 4 n)

    few_more : (b : Bool) → is_set name ps ≡ b → cond b (length ps) (suc (length ps)) ≤ 4
    few_more true s = few_names
    few_more false s = room_for_name s

    pub name_rule : (n : ℕ) → n ≤ writes → savepoints_ok writes (set_name name n ps) ≡ true
    unfolding savepoints_ok
    name_rule n l =
        let few : length (set_name name n ps) ≤ 4 = omega (arith, length_name name n ps, few_more (is_set name ps) refl) in
        and_both _ _ (le-leb _ _ few)
        (names_set name n writes ps name_given l names_rule)

-- ---- in the arrays

pub savepoints_length : (p : Savepoints) → length (savepoints_in p) ≡ p.count
savepoints_length p = length_up (savepoint_at p) p.count 0

pub few_savepoints : (p : Savepoints) (writes : ℕ) → savepoints_ok writes (savepoints_in p) ≡ true → p.count ≤ 4
few_savepoints p writes e = omega (arith, few_names writes (savepoints_in p) e, savepoints_length p)

pub place_fits : (p : Savepoints) (writes name : ℕ) → savepoints_ok writes (savepoints_in p) ≡ true → name_refused name (savepoints_in p) ≡ false → place_of p name < 4
place_fits p writes name e q = go (is_set name (savepoints_in p)) refl
  where
    go : (b : Bool) → is_set name (savepoints_in p) ≡ b → place_of p name < 4
    go true s = omega (arith, place_set p name s, few_savepoints p writes e)
    go false s = omega (arith, (place p name).high, room_for_name writes (savepoints_in p) e name q s, savepoints_length p)

-- a turn of the loop over the names
pub names_turn : (p : Savepoints) (writes n i : ℕ) → i < n
    → let rest = up_from (savepoint_at p) (n - (i + 1)) (i + 1) in
    names_ok writes (up_from (savepoint_at p) (n - i) i)
    ≡ not (eqb (get_or p.names i 0) 0) && (leb (get_or p.counts i 0) writes && (not (is_set (get_or p.names i 0) rest) && names_ok writes rest))
names_turn p writes n i h = ap (names_ok writes) (up_turn (savepoint_at p) n i h)

module _ (p : Savepoints) (writes : ℕ) where
  pub many_names : 4 < p.count → savepoints_ok writes (savepoints_in p) ≡ false
  unfolding savepoints_ok
  many_names h = rw (savepoints_length p, lt-leb _ _ h)

  pub few_ok : p.count ≤ 4 → savepoints_ok writes (savepoints_in p) ≡ names_ok writes (savepoints_in p)
  unfolding savepoints_ok
  few_ok h = rw (savepoints_length p, le-leb _ _ h)

  pub stood_within : (name : ℕ) → savepoints_ok writes (savepoints_in p) ≡ true → or_zero (count_at name (savepoints_in p)) ≤ writes
  stood_within name e = stood_below name writes (savepoints_in p) (names_rule writes (savepoints_in p) e)
