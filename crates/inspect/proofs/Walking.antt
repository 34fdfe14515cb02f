-- The list of outcomes: what is noted beside the ids, the walk, and what it comes to.
use Prim.Native.Nat.{ℕ, zero, suc, ◌+◌, ◌-◌, ◌≤◌, ◌<◌, ◌/◌}
use native.Mathlib.Numerals.{add-one}
use native.Mathlib.Omega.{arith}
use mathlib.Core.Bool.{Bool, true, false, cond, ◌&&◌, and_assoc}
use mathlib.Core.List.{List, [], ◌∷◌, map}
use mathlib.Core.Option.{Option, none, some}
use mathlib.Core.Path.{◌≡◌, refl, sym, ap, ap₂, ◌∙◌, subst}
use lib.ListN.{length, get_or, set, take, drop, replicate, length-set, length-drop, length-replicate}
use lib.Seq.{drop-drop, get_or-set_same, get_or-set_other, ext_get_or}
use lib.Dec.{eqb, ltb}
use borrow.Author.Tests.{eq-eqb, ne_eqb, eqb-true, eqb-false, lt-ltb, le-ltb, ltb-true, ltb-false}
use Rattle.std.specs.Prelude.{Some, None, Ok, Err}
use Rattle.std.specs.List.{IsAllAdjacentAnswer}
use Rattle.recovery.specs.Group.{Group, committed, aborted, group_size}
use Rattle.recovery.specs.Lists.{or_else}
use Rattle.recovery.specs.Restart.{group_id}
use Rattle.redolog.specs.declared.group.GroupEnd.{GroupEnd}
use Rattle.redolog.specs.declared.group.GroupEnd.TheVariants.{Aborted, Committed}
use Rattle.redolog.specs.declared.stop.Stop.{Stop}
use Rattle.redolog.specs.Group.{group_with, end_of}
use Rattle.redolog.specs.Log.{next_after, read_log_with}
use Rattle.redolog.proofs.Basics.{clash, and_left, and_right}
use Rattle.redolog.proofs.GroupLaws.{group_with_within}
use Rattle.redolog.proofs.LogLaws.{log_with_none, log_with_more}
use Rattle.inspect.specs.declared.outcomes.Passed.{Passed}
use Rattle.inspect.specs.declared.outcomes.Walk.{Walk}
use Rattle.inspect.specs.Outcomes.{last_group, outcome_of, outcome_by, last_outcome, rising_after, rising, refused_outcomes, groups_on, walked_log, outcomes_of}
use Rattle.inspect.specs.Walk.{beside, noted_at, noted_in, group_at, past_group, passed_by, walked_over}
use Rattle.inspect.proofs.Applying.{and_no}

-- ---- beside the ids

pub beside_length : (f : ℕ → ℕ → ℕ) (ids out : List ℕ) → length out ≡ length ids → length (beside f ids out) ≡ length out
beside_length f [] [] e = refl
beside_length f [] (x ∷ out) e = absurd (omega arith)
beside_length f (i ∷ ids) [] e = refl
beside_length f (i ∷ ids) (x ∷ out) e = ap suc (beside_length f ids out (omega arith))

beside_at : (f : ℕ → ℕ → ℕ) (ids out : List ℕ) (k : ℕ) → length out ≡ length ids → k < length ids
    → get_or (beside f ids out) k 0 ≡ f (get_or ids k 0) (get_or out k 0)
beside_at f [] out k e h = absurd (omega arith)
beside_at f (i ∷ ids) [] k e h = absurd (omega arith)
beside_at f (i ∷ ids) (x ∷ out) zero e h = refl
beside_at f (i ∷ ids) (x ∷ out) (suc k) e h = beside_at f ids out k (omega arith) (omega arith)

beside_both : (f g h : ℕ → ℕ → ℕ) → ((i x : ℕ) → f i (g i x) ≡ h i x) → (ids out : List ℕ) → beside f ids (beside g ids out) ≡ beside h ids out
beside_both f g h e [] out = refl
beside_both f g h e (i ∷ ids) [] = refl
beside_both f g h e (i ∷ ids) (x ∷ out) = ap (λ (l : List ℕ). f i (g i x) ∷ l) (beside_both f g h e ids out) ∙ ap (λ (y : ℕ). y ∷ beside h ids out) (e i x)

beside_left : (ids out : List ℕ) → length out ≡ length ids → beside (λ i x. x) ids out ≡ out
beside_left [] [] e = refl
beside_left [] (x ∷ out) e = absurd (omega arith)
beside_left (i ∷ ids) [] e = refl
beside_left (i ∷ ids) (x ∷ out) e = ap (λ (l : List ℕ). x ∷ l) (beside_left ids out (omega arith))

beside_zeros : (f : ℕ → ℕ → ℕ) (g : ℕ → ℕ) → ((i : ℕ) → f i 0 ≡ g i) → (ids : List ℕ) (n : ℕ) → length ids ≡ n
    → beside f ids (replicate n 0) ≡ map g ids
beside_zeros f g e [] n l = refl
beside_zeros f g e (i ∷ ids) zero l = absurd (omega arith)
beside_zeros f g e (i ∷ ids) (suc n) l =
    ap (λ (y : ℕ). y ∷ beside f ids (replicate n 0)) (e i) ∙ ap (λ (xs : List ℕ). g i ∷ xs) (beside_zeros f g e ids n (omega arith))

-- ---- a rising list

rising_above : (x : ℕ) (xs : List ℕ) → rising_after x xs ≡ true → (k : ℕ) → k < length xs → x < get_or xs k 0
rising_above x [] r k h = absurd (omega arith)
rising_above x (y ∷ ys) r zero h = ltb-true x y (and_left (ltb x y) (rising_after y ys) r)
rising_above x (y ∷ ys) r (suc k) h =
    omega (arith, ltb-true x y (and_left (ltb x y) (rising_after y ys) r), rising_above y ys (and_right (ltb x y) (rising_after y ys) r) k (omega arith))

rising_rest : (x : ℕ) (xs : List ℕ) → rising_after x xs ≡ true → rising xs ≡ true
rising_rest x [] r = refl
rising_rest x (y ∷ ys) r = and_right (ltb x y) (rising_after y ys) r

pub rising_below : (ids : List ℕ) → rising ids ≡ true → (i j : ℕ) → i < j → j < length ids → get_or ids i 0 < get_or ids j 0
rising_below [] r i j h l = absurd (omega arith)
rising_below (x ∷ xs) r i zero h l = absurd (omega arith)
rising_below (x ∷ xs) r zero (suc j) h l = rising_above x xs r j (omega arith)
rising_below (x ∷ xs) r (suc i) (suc j) h l = rising_below xs (rising_rest x xs r) i j (omega arith) (omega arith)

pub rising_le : (ids : List ℕ) → rising ids ≡ true → (i j : ℕ) → i ≤ j → j < length ids → get_or ids i 0 ≤ get_or ids j 0
rising_le ids r i j h l = go (eqb i j) refl
  where
    go : (b : Bool) → eqb i j ≡ b → get_or ids i 0 ≤ get_or ids j 0
    go true e = rw (eqb-true i j e) (omega arith)
    go false e = omega (arith, rising_below ids r i j (omega (arith, h, eqb-false i j e)) l)

-- as the library answers: each id is below the next, or one is not
rising_if : (x : ℕ) (xs : List ℕ) → ((k : ℕ) → k < length xs → get_or (x ∷ xs) k 0 < get_or xs k 0) → rising_after x xs ≡ true
rising_if x [] h = refl
rising_if x (y ∷ ys) h = rw (lt-ltb x y (h 0 (omega arith))) (rising_if y ys (λ k l. h (suc k) (omega arith)))

rising_not : (x : ℕ) (xs : List ℕ) (k : ℕ) → k < length xs → get_or xs k 0 ≤ get_or (x ∷ xs) k 0 → rising_after x xs ≡ false
rising_not x [] k l h = absurd (omega arith)
rising_not x (y ∷ ys) zero l h = rw (le-ltb x y h)
rising_not x (y ∷ ys) (suc k) l h = rw (rising_not y ys k (omega arith) h) (and_no (ltb x y))

pub rising_answer : (ids : List ℕ) (r : Bool) → IsAllAdjacentAnswer (λ x y b. b ≡ ltb x y) ids r → r ≡ rising ids
rising_answer [] true h = refl
rising_answer [] false h = let e : h.0 + 1 < 0 = h.1 in absurd (omega arith)
rising_answer (x ∷ xs) true h =
    sym (rising_if x xs (λ k l. let e = rw add-one at (h k 0 (omega (arith, l))) in ltb-true (get_or (x ∷ xs) k 0) (get_or xs k 0) (sym e)))
rising_answer (x ∷ xs) false h =
    let k : ℕ = h.0 in
    let e = rw add-one at (h.2 0) in
    sym (rising_not x xs k (omega (arith, h.1)) (ltb-false (get_or (x ∷ xs) k 0) (get_or xs k 0) (sym e)))

-- a list by its front, up to the place k, and the rest from there on
pub rising_parts : (k : ℕ) (s : List ℕ) → k < length s → rising s ≡ (rising (take (suc k) s) && rising (drop k s))
rising_parts k [] h = absurd (omega arith)
rising_parts zero (x ∷ xs) h = refl
rising_parts (suc k) (x ∷ []) h = absurd (omega arith)
rising_parts (suc k) (x ∷ (y ∷ ys)) h =
    ap (λ (b : Bool). ltb x y && b) (rising_parts k (y ∷ ys) (omega arith))
    ∙ sym (and_assoc (ltb x y) (rising (take (suc k) (y ∷ ys))) (rising (drop k (y ∷ ys))))

-- one id more
pub rising_more : (i : ℕ) (s : List ℕ) → suc i < length s
    → rising (take (suc (suc i)) s) ≡ (rising (take (suc i) s) && ltb (get_or s i 0) (get_or s (suc i) 0))
rising_more i [] h = absurd (omega arith)
rising_more i (x ∷ []) h = absurd (omega arith)
rising_more zero (x ∷ (y ∷ ys)) h = go (ltb x y)
  where
    go : (b : Bool) → (b && true) ≡ b
    go true = refl
    go false = refl
rising_more (suc i) (x ∷ (y ∷ ys)) h =
    ap (λ (b : Bool). ltb x y && b) (rising_more i (y ∷ ys) (omega arith))
    ∙ sym (and_assoc (ltb x y) (rising (take (suc i) (y ∷ ys))) (ltb (get_or (y ∷ ys) i 0) (get_or (y ∷ ys) (suc i) 0)))

-- one id, and one id more, as the code counts
pub rising_one : (s : List ℕ) → rising (take 1 s) ≡ true
rising_one [] = refl
rising_one (x ∷ xs) = refl

pub rising_next : (i : ℕ) (s : List ℕ) → 1 ≤ i → i < length s → (rising (take i s) && ltb (get_or s (i - 1) 0) (get_or s i 0)) ≡ rising (take (i + 1) s)
rising_next zero s l h = absurd (omega arith)
rising_next (suc i) s l h =
    let a : suc i - 1 ≡ i = omega arith in
    let b : suc i + 1 ≡ suc (suc i) = omega arith in
    rw (a, b) (sym (rising_more i s h))

-- past a part, from a place of a list on
pub rising_past : (at n m : ℕ) (s : List ℕ) → at + n < length s → m ≡ n + 1
    → rising (drop at s) ≡ (rising (take m (drop at s)) && rising (drop (at + n) s))
rising_past at n m s h e =
    let k : m ≡ suc n = omega arith in
    rising_parts n (drop at s) (omega (arith, h, length-drop at s))
    ∙ ap₂ (λ (i : ℕ) (t : List ℕ). rising (take i (drop at s)) && rising t) (sym k) (drop-drop n at s)

-- what is below the id on one side and above it on the other does not hold it
pub between : (ids : List ℕ) (id i : ℕ) → ((k : ℕ) → k < i → get_or ids k 0 < id) → ((k : ℕ) → i ≤ k → k < length ids → id < get_or ids k 0)
    → (k : ℕ) → k < length ids → get_or ids k 0 ≡ id → ⊥
between ids id i below above k l e = go (ltb k i) refl
  where
    go : (b : Bool) → ltb k i ≡ b → ⊥
    go true t = omega (arith, e, below k (ltb-true k i t))
    go false t = omega (arith, e, above k (ltb-false k i t) l)

-- ---- the search by halves

pub middle_within : (low high : ℕ) → low < high → (low ≤ low + (high - low) / 2) × (low + (high - low) / 2 < high)
middle_within low high h = (omega arith, omega arith)

module _ (ids : List ℕ) (id : ℕ) (r : rising ids ≡ true) (m : ℕ) (l : m < length ids) where
  pub below_middle : get_or ids m 0 < id → (j : ℕ) → j < m + 1 → get_or ids j 0 < id
  below_middle h j k = go (eqb j m) refl
    where
      go : (b : Bool) → eqb j m ≡ b → get_or ids j 0 < id
      go true t = rw (eqb-true j m t) h
      go false t = omega (arith, rising_below ids r j m (omega (arith, eqb-false j m t)) l)

  pub above_middle : id < get_or ids m 0 → (j : ℕ) → m ≤ j → j < length ids → id < get_or ids j 0
  above_middle h j k u = go (eqb j m) refl
    where
      go : (b : Bool) → eqb j m ≡ b → id < get_or ids j 0
      go true t = rw (eqb-true j m t) h
      go false t = omega (arith, rising_below ids r m j (omega (arith, eqb-false j m t)) u)

-- ---- one outcome noted

module _ (ids out : List ℕ) (id outcome : ℕ) (l : length out ≡ length ids) where
  -- the id stands in one place
  pub note_at : rising ids ≡ true → (i : ℕ) → i < length ids → get_or ids i 0 ≡ id → set out i outcome ≡ noted_in ids id outcome out
  unfolding noted_in
  note_at r i h e =
      ext_get_or 0 (set out i outcome) (beside (noted_at id outcome) ids out) (length-set out i outcome ∙ sym (beside_length (noted_at id outcome) ids out l))
      (λ k u. here k (omega (arith, u, length-set out i outcome)))
    where
      apart : (k : ℕ) → k < length ids → (k ≡ i → ⊥) → get_or ids k 0 ≡ id → ⊥
      apart k u n q = go (ltb k i) refl
        where
          go : (b : Bool) → ltb k i ≡ b → ⊥
          go true t = omega (arith, rising_below ids r k i (ltb-true k i t) h)
          go false t = omega (arith, n, rising_below ids r i k (omega (arith, ltb-false k i t, n)) u)

      one : (k : ℕ) → k < length ids → (b : Bool) → eqb k i ≡ b → get_or (set out i outcome) k 0 ≡ noted_at id outcome (get_or ids k 0) (get_or out k 0)
      one k u true t =
          let s : k ≡ i = eqb-true k i t in
          rw (s, eq-eqb (get_or ids i 0) id e) (get_or-set_same out i outcome 0 (omega arith))
      one k u false t =
          let n = eqb-false k i t in
          rw (ne_eqb (get_or ids k 0) id (apart k u n)) (get_or-set_other out i k outcome 0 n)

      here : (k : ℕ) → k < length out → get_or (set out i outcome) k 0 ≡ get_or (beside (noted_at id outcome) ids out) k 0
      here k u = one k (omega arith) (eqb k i) refl ∙ sym (beside_at (noted_at id outcome) ids out k l (omega arith))

  -- or in none
  pub note_nowhere : ((i : ℕ) → i < length ids → get_or ids i 0 ≡ id → ⊥) → out ≡ noted_in ids id outcome out
  unfolding noted_in
  note_nowhere n =
      ext_get_or 0 out (beside (noted_at id outcome) ids out) (sym (beside_length (noted_at id outcome) ids out l))
      (λ k u. sym (beside_at (noted_at id outcome) ids out k l (omega arith) ∙ rw (ne_eqb (get_or ids k 0) id (n k (omega arith)))))

  pub noted_length : length (noted_in ids id outcome out) ≡ length out
  unfolding noted_in
  noted_length = beside_length (noted_at id outcome) ids out l

-- ---- all groups noted: each id has the outcome of its last one

-- the outcome of a group that was found, else what stood there
abbrev found_or : Option Group → ℕ → ℕ
found_or none x = x
found_or (some g) x = outcome_of g

walked_beside : (ids : List ℕ) (gs : List Group) (out : List ℕ) → length out ≡ length ids
    → walked_over ids gs out ≡ beside (λ i x. found_or (last_group gs i) x) ids out
unfolding noted_in
walked_beside ids [] out l = sym (beside_left ids out l)
walked_beside ids (g ∷ gs) out l =
    walked_beside ids gs (noted_in ids (group_id g) (outcome_of g) out) (noted_length ids out (group_id g) (outcome_of g) l ∙ l)
    ∙ beside_both (λ i x. found_or (last_group gs i) x) (noted_at (group_id g) (outcome_of g)) (λ i x. found_or (last_group (g ∷ gs) i) x)
    (λ i x. both (last_group gs i) (eqb i (group_id g)) x) ids out
  where
    both : (later : Option Group) (own : Bool) (x : ℕ) → found_or later (cond own (outcome_of g) x) ≡ found_or (or_else later (cond own (some g) none)) x
    both none true x = refl
    both none false x = refl
    both (some h) own x = refl

pub walked_zeros : (ids : List ℕ) (gs : List Group) (n : ℕ) → length ids ≡ n → walked_over ids gs (replicate n 0) ≡ map (last_outcome gs) ids
walked_zeros ids gs n l =
    walked_beside ids gs (replicate n 0) (length-replicate {A = ℕ} n 0 ∙ sym l)
    ∙ beside_zeros (λ i x. found_or (last_group gs i) x) (last_outcome gs) (λ i. over_zero (last_group gs i)) ids n l
  where
    over_zero : (last : Option Group) → found_or last 0 ≡ outcome_by last
    over_zero none = refl
    over_zero (some g) = refl

-- ---- the walk, a group at a time

-- what it leads to from here: the groups walked, and the outcomes
pub record Walks : Type 0 where
  pub groups : ℕ
  pub out : List ℕ

abbrev groups_from : List ℕ → Walk → List Group
groups_from log w = read_log_with w.next (drop w.at log)

abbrev pub walks_from : List ℕ → List ℕ → Walk → List ℕ → Walks
walks_from ids log w out = record { groups = w.groups + length (groups_from log w); out = walked_over ids (groups_from log w) out }

-- its end, as the code reads it
abbrev pub end_in : GroupEnd → ℕ
end_in (Aborted id end) = end
end_in (Committed id csn end) = end

pub end_within : (next : ℕ) (s : List ℕ) (why : Stop) (e : GroupEnd) → Ok e ≡ end_of why (group_with next s) → end_in e ≤ length s
end_within next s why e q = go (group_with next s) refl
  where
    go : (x : Option Group) → group_with next s ≡ x → end_in e ≤ length s
    go none p = let z : Ok e ≡ Err why = q ∙ ap (end_of why) p in clash (cc)
    go (some (aborted id)) p =
        let z : Ok e ≡ Ok (Aborted (record { 0 = id }) (group_size (aborted id))) = q ∙ ap (end_of why) p in
        let k : e ≡ Aborted (record { 0 = id }) (group_size (aborted id)) = cc in
        omega (arith, ap end_in k, group_with_within next s _ p)
    go (some (committed id csn ws)) p =
        let z : Ok e ≡ Ok (Committed (record { 0 = id }) (record { 0 = csn }) (group_size (committed id csn ws))) = q ∙ ap (end_of why) p in
        let k : e ≡ Committed (record { 0 = id }) (record { 0 = csn }) (group_size (committed id csn ws)) = cc in
        omega (arith, ap end_in k, group_with_within next s _ p)

module _ (ids log : List ℕ) (w : Walk) (out : List ℕ) where
  -- where no group stands the walk ends
  walk_none : group_at log w ≡ none → walks_from ids log w out ≡ record { groups = w.groups; out = out }
  walk_none e =
      ap (λ (gs : List Group). record { groups = w.groups + length gs; out = walked_over ids gs out }) (log_with_none _ _ e)
      ∙ ap (λ (n : ℕ). record { groups = n; out = out }) (omega arith)

  -- where the walk stands still there is no group
  pub walk_done : ((p : Passed) → passed_by (group_at log w) w ≡ Some p → p.walk.at ≡ w.at)
      → walks_from ids log w out ≡ record { groups = w.groups; out = out }
  walk_done h = go (group_at log w) refl
    where
      go : (x : Option Group) → group_at log w ≡ x → walks_from ids log w out ≡ record { groups = w.groups; out = out }
      go none e = walk_none e
      go (some g) e = absurd (omega (arith, h _ (ap (λ (x : Option Group). passed_by x w) e), group_with_within _ _ g e))

  -- as the code sees it
  pub walk_ended : passed_by (group_at log w) w ≡ None → walks_from ids log w out ≡ record { groups = w.groups; out = out }
  walk_ended e = walk_done (λ p q. let z : None ≡ Some p = sym e ∙ q in clash (cc))

  -- else it goes on behind the group, with its outcome noted
  walk_group : (g : Group) → group_at log w ≡ some g
      → walks_from ids log w out ≡ walks_from ids log (past_group g w) (noted_in ids (group_id g) (outcome_of g) out)
  walk_group g e =
      ap (λ (gs : List Group). record { groups = w.groups + length gs; out = walked_over ids gs out }) (log_with_more _ _ g e)
      ∙ ap (λ (s : List ℕ). record {
        groups = w.groups + suc (length (read_log_with (next_after w.next g) s));
        out = walked_over ids (read_log_with (next_after w.next g) s) (noted_in ids (group_id g) (outcome_of g) out);
      }) (drop-drop (group_size g) w.at log)
      ∙ ap (λ (n : ℕ). record {
        groups = n;
        out = walked_over ids (groups_from log (past_group g w)) (noted_in ids (group_id g) (outcome_of g) out);
      }) (omega arith)

  -- the group that was passed
  passed_is : (p : Passed) → passed_by (group_at log w) w ≡ Some p
      → (g : Group) × (group_at log w ≡ some g) × (record { id = record { 0 = group_id g }; outcome = outcome_of g; walk = past_group g w } ≡ p)
  passed_is p e = go (group_at log w) refl
    where
      go : (x : Option Group) → group_at log w ≡ x
          → (g : Group) × (group_at log w ≡ some g) × (record { id = record { 0 = group_id g }; outcome = outcome_of g; walk = past_group g w } ≡ p)
      go none q = let z : passed_by none w ≡ Some p = sym (ap (λ (x : Option Group). passed_by x w) q) ∙ e in clash (cc)
      go (some g) q = let z : passed_by (some g) w ≡ Some p = sym (ap (λ (x : Option Group). passed_by x w) q) ∙ e in (g, q, cc)

  pub walk_step_lem : (p : Passed) → passed_by (group_at log w) w ≡ Some p
      → walks_from ids log w out ≡ walks_from ids log p.walk (noted_in ids p.id.0 p.outcome out)
  walk_step_lem p e =
      let i = passed_is p e in
      subst (λ (p : Passed). walks_from ids log w out ≡ walks_from ids log p.walk (noted_in ids p.id.0 p.outcome out)) i.2 (walk_group i.0 i.1)

  -- of a walk within the log and lists of one length
  pub record Turned (p : Passed) : Type 0 where
    pub within : p.walk.at ≤ length log
    pub further : w.at < p.walk.at
    pub groups : p.walk.groups ≤ p.walk.at
    pub beside : length (noted_in ids p.id.0 p.outcome out) ≡ length ids
    pub same : walks_from ids log w out ≡ walks_from ids log p.walk (noted_in ids p.id.0 p.outcome out)

  module _ (h : w.at ≤ length log) (k : w.groups ≤ w.at) (l : length out ≡ length ids) where
    turn : (g : Group) → group_at log w ≡ some g
        → Turned (record { id = record { 0 = group_id g }; outcome = outcome_of g; walk = past_group g w })
    turn g e =
        let i = group_with_within _ _ g e in
        let d = length-drop w.at log in
        record {
          within = omega arith;
          further = omega arith;
          groups = omega arith;
          beside = noted_length ids out (group_id g) (outcome_of g) l ∙ l;
          same = walk_group g e;
        }

    pub turned : (p : Passed) → passed_by (group_at log w) w ≡ Some p → Turned p
    turned p e = let i = passed_is p e in subst Turned i.2 (turn i.0 i.1)

-- ---- the call by cases

module _ (disk ids out : List ℕ) where
  pub outcomes_no_disk : (length disk ≡ 33691 → ⊥) → outcomes_of disk ids out ≡ refused_outcomes 1 out
  unfolding outcomes_of
  outcomes_no_disk n = rw (ne_eqb (length disk) 33691 n)

  module _ (d : length disk ≡ 33691) where
    pub outcomes_unequal : (length ids ≡ length out → ⊥) → outcomes_of disk ids out ≡ refused_outcomes 20 out
    unfolding outcomes_of
    outcomes_unequal n = rw (eq-eqb (length disk) 33691 d, ne_eqb (length ids) (length out) n)

    pub outcomes_unsorted : rising ids ≡ false → outcomes_of disk ids out ≡ refused_outcomes 20 out
    unfolding outcomes_of
    outcomes_unsorted r = rw (eq-eqb (length disk) 33691 d, r, and_no (eqb (length ids) (length out)))

    pub outcomes_done : length ids ≡ length out → rising ids ≡ true → outcomes_of disk ids out ≡ walked_log (groups_on disk) ids
    unfolding outcomes_of
    outcomes_done l r = rw (eq-eqb (length disk) 33691 d, eq-eqb (length ids) (length out) l, r)
