-- The growth law: an image on disk stays right as one more group arrives, which ends a live running transaction. At one byte.
use mathlib.Core.Path.{◌≡◌, refl, sym, ap, ◌∙◌}
use mathlib.Core.Logic.{◌≢◌}
use mathlib.Core.Bool.{Bool, true, false, not, cond}
use mathlib.Core.Option.{Option, none, some}
use mathlib.Core.List.{List, [], ◌∷◌, ◌++◌}
use Prim.Native.Nat.{ℕ, ◌≤◌}
use native.Mathlib.Omega.{arith}
use Rattle.recovery.specs.Group.{Write, Group, committed, aborted, csn_after, last_csn}
use Rattle.recovery.specs.Lists.{All, nil, cons, has}
use Rattle.recovery.specs.Transaction.{Tx, running, committing, lookup}
use Rattle.recovery.specs.Replay.{undo_all, undo_each, replay}
use Rattle.recovery.specs.Restart.{group_id, finished, undo_records, undo_of, unfinished, undone, forward, recover}
use Rattle.recovery.proofs.Bool.{opposed, eqb_same}
use Rattle.recovery.proofs.Lists.{all_map, all_left, all_right, all_here, all_filter, all_unfilter, all_passing}
use Rattle.recovery.proofs.Distinct.{distinct_filter}
use Rattle.recovery.proofs.Transactions.{DistinctIds, lookup_none, lookup_own, is_running, is_committing, is_unfinished, Found, find, lookup_misses}
use Rattle.recovery.proofs.Groups.{replay_append, undo_each_append, forward_append}
use Rattle.recovery.proofs.Finished.{leave_none, leave_one}
use Rattle.recovery.proofs.Byte.{act, oldest, newest, undo_oldest, redo_newest, lay_byte}
use Rattle.recovery.proofs.LiveByte.{Quiet, RunningAt, Side, off, on, side, Still, undo_still}
use Rattle.recovery.proofs.Follows.{Over, Linked, here, there, Kin, itself, another, Follows, undone_running, kin, now_left, follows_next}

-- At one byte, with L the image's unfinished running transactions, whose ids are distinct.

linked_still : (a : ℕ) {t : Tx} {rs : List Tx} → All (Quiet a) rs → Linked t rs → Still a t
linked_still a nil l = elim l [ ]
linked_still a (cons q qs) (here e o) = o a q.0
linked_still a (cons q qs) (there l) = linked_still a qs l

module _ (a x mem v : ℕ) (xs : List Tx) (r : Tx) (ys L : List Tx) (at : RunningAt a x mem (xs ++ r ∷ ys)) (distinct : DistinctIds L)
    (kins : All (Kin r (xs ++ ys)) L) (e : undo_each (lay_byte a) L v ≡ x) where
  abbrev rest : List Tx
  rest = unfinished (r.id ∷ []) L

  -- where the other live ones are quiet, so is what is left
  rest_still : All (Quiet a) (xs ++ ys) → All (Still a) rest
  rest_still q = all_passing (is_unfinished (r.id ∷ [])) (all_map (λ t p o. go t o p) kins)
    where
      go : (t : Tx) → is_unfinished (r.id ∷ []) t ≡ true → Kin r (xs ++ ys) t → Still a t
      go t o (itself i ov) = absurd (opposed o (rw (i, eqb_same r.id)))
      go t o (another n l) = linked_still a q l

  same_over : (t : Tx) → t.id ≡ r.id → Kin r (xs ++ ys) t → Over t r
  same_over t i (itself e o) = o
  same_over t i (another n l) = absurd (n i)

  -- where r is quiet, to leave its image's transaction out changes nothing
  undo_rest : Quiet a r → undo_each (lay_byte a) rest v ≡ x
  undo_rest q = go (lookup r.id L) refl
    where
      one : (ps : List Tx) (t : Tx) (qs : List Tx) → L ≡ ps ++ t ∷ qs → t.id ≡ r.id → undo_each (lay_byte a) rest v ≡ x
      one ps t qs w i =
          let still : Still a t = same_over t i (all_here ps t qs (rw w at kins)) a q.0 in
          let m : ℕ = undo_each (lay_byte a) ps v in
          let out : rest ≡ ps ++ qs = rw (w, ← i) (leave_one ps t qs (rw w at distinct)) in
          ap (λ (l : List Tx). undo_each (lay_byte a) l v) out
          ∙ (undo_each_append (lay_byte a) ps qs v ∙ (ap (λ (n : ℕ). undo_each (lay_byte a) qs n) (sym (undo_still a m (cons {x = t} still nil)))
          ∙ (sym (undo_each_append (lay_byte a) ps (t ∷ qs) v) ∙ (ap (λ (l : List Tx). undo_each (lay_byte a) l v) (sym w) ∙ e))))

      go : (f : Option Tx) → lookup r.id L ≡ f → undo_each (lay_byte a) rest v ≡ x
      go none n = ap (λ (l : List Tx). undo_each (lay_byte a) l v) (leave_none r.id (lookup_misses r.id L n)) ∙ e
      go (some t) f = let found : Found r.id t L = find r.id t L f in one found.before t found.after found.whole found.named

  grow_commit : undo_each (lay_byte a) rest (act (newest a r.redo) v) ≡ act (newest a r.redo) x
  grow_commit = go (side a x mem xs r ys at)
    where
      go : Side a x mem r (xs ++ ys) → undo_each (lay_byte a) rest (act (newest a r.redo) v) ≡ act (newest a r.redo) x
      go (off q k) = rw q.1 (undo_rest q)
      go (on o n q) = rw n (undo_still a mem (rest_still q))

  -- u: the image's undo records of r's id
  grow_abort : (u : List Write) → All (λ t. t.id ≡ r.id → t.undo ≡ u) L → (All (λ t. t.id ≢ r.id) L → u ≡ [])
      → undo_each (lay_byte a) rest (act (oldest a u) v) ≡ x
  grow_abort u own gone = go (lookup r.id L) refl
    where
      one : (ps : List Tx) (t : Tx) (qs : List Tx) → L ≡ ps ++ t ∷ qs → t.id ≡ r.id → t.undo ≡ u → Side a x mem r (xs ++ ys)
          → undo_each (lay_byte a) rest (act (oldest a u) v) ≡ x
      one ps t qs w i tu (off q k) =
          let still : oldest a u ≡ none = rw (← tu) (same_over t i (all_here ps t qs (rw w at kins)) a q.0) in
          rw still (undo_rest q)
      one ps t qs w i tu (on o n q) =
          let out : rest ≡ ps ++ qs = rw (w, ← i) (leave_one ps t qs (rw w at distinct)) in
          let stills : All (Still a) (ps ++ qs) = rw out at (rest_still q) in
          let alone : undo_each (lay_byte a) (ps ++ t ∷ qs) v ≡ act (oldest a u) v =
          undo_each_append (lay_byte a) ps (t ∷ qs) v
          ∙ rw (undo_still a v (all_left ps qs stills), undo_still a (undo_all (lay_byte a) t.undo v) (all_right ps stills), tu) (undo_oldest a u v) in
          undo_still a (act (oldest a u) v) (rest_still q) ∙ (sym alone ∙ (ap (λ (l : List Tx). undo_each (lay_byte a) l v) (sym w) ∙ e))

      go : (f : Option Tx) → lookup r.id L ≡ f → undo_each (lay_byte a) rest (act (oldest a u) v) ≡ x
      go none n =
          let h : All (λ t. t.id ≢ r.id) L = lookup_misses r.id L n in
          rw (gone h) (ap (λ (l : List Tx). undo_each (lay_byte a) l v) (leave_none r.id h) ∙ e)
      go (some t) f =
          let found : Found r.id t L = find r.id t L f in
          one found.before t found.after found.whole found.named
          (all_here found.before t found.after (rw found.whole at own) found.named) (side a x mem xs r ys at)

-- the law, at one byte: base is its value by the commits before the image, imem the image's

module _ (a base imem : ℕ) (itxs : List Tx) (d : ℕ) where
  -- the groups recover to their replay
  abbrev pub Recovers : List Group → Type 0
  Recovers P = recover (lay_byte a) itxs d P imem ≡ replay (lay_byte a) P base

  module _ (G : List Group) (mem : ℕ) (xs : List Tx) (r : Tx) (ys : List Tx) (recovers : Recovers G) (w : Follows itxs d G (xs ++ r ∷ ys))
      (apart : All (λ t. t.id ≢ r.id) (xs ++ ys)) (distinct : DistinctIds itxs) (at : RunningAt a (replay (lay_byte a) G base) mem (xs ++ r ∷ ys)) where
    abbrev v : ℕ
    v = forward (lay_byte a) itxs G [] imem

    abbrev unfinished_now : List Tx
    unfinished_now = unfinished (finished G []) (running itxs)

    start : undo_each (lay_byte a) unfinished_now v ≡ replay (lay_byte a) G base
    start = ap (λ (l : List Tx). undo_each (lay_byte a) l v) (sym (undone_running itxs d G (xs ++ r ∷ ys) w)) ∙ recovers

    distinct_now : DistinctIds unfinished_now
    distinct_now = distinct_filter (is_unfinished (finished G [])) (distinct_filter is_running distinct)

    undone_next : (g : Group) → group_id g ≡ r.id → last_csn d G ≤ csn_after (last_csn d G) g
        → undone itxs d (G ++ (g ∷ [])) ≡ unfinished (r.id ∷ []) unfinished_now
    undone_next g of le =
        undone_running itxs d (G ++ (g ∷ [])) (xs ++ ys) (follows_next itxs d G xs r ys w apart g of le) ∙ now_left itxs d G xs r ys w apart g of

    pub growth_commit : (n : ℕ) → last_csn d G ≤ n → Recovers (G ++ (committed r.id n r.redo ∷ []))
    growth_commit n le =
        let c : Group = committed r.id n r.redo in
        rw (
          undone_next c refl le,
          forward_append (lay_byte a) itxs G (c ∷ []) [] imem,
          replay_append (lay_byte a) G (c ∷ []) base,
          redo_newest a
              r.redo v,
          redo_newest a r.redo (replay (lay_byte a) G base),
        )
        (grow_commit a (replay (lay_byte a) G base) mem v xs r ys unfinished_now at distinct_now (kin itxs d G xs r ys w apart) start)

    pub growth_abort : Recovers (G ++ (aborted r.id ∷ []))
    growth_abort =
        let g : Group = aborted r.id in
        let u : List Write = undo_of r.id itxs in
        let live : (has r.id (finished G []) ≡ false) × All (λ c. c.id ≢ r.id) (committing itxs) = all_here xs r ys w.lives in
        let own : All (λ t. t.id ≡ r.id → t.undo ≡ u) unfinished_now =
        all_filter (is_unfinished (finished G [])) (all_filter is_running (all_map (λ t e i. sym (ap undo_records (rw i at e))) (lookup_own distinct))) in
        let step : forward (lay_byte a) itxs (G ++ (g ∷ [])) [] imem ≡ undo_all (lay_byte a) u v =
        forward_append (lay_byte a) itxs G (g ∷ []) [] imem ∙ ap (λ (b : Bool). cond b v (undo_all (lay_byte a) u v)) live.0 in
        rw (undone_next g refl (omega arith), step, replay_append (lay_byte a) G (g ∷ []) base, undo_oldest a u v)
        (grow_abort a (replay (lay_byte a) G base) mem v xs r ys unfinished_now at distinct_now (kin itxs d G xs r ys w apart) start u own
        (λ h. ap undo_records (lookup_none
        (gone live.0 (all_unfilter is_running itxs (all_unfilter (is_unfinished (finished G [])) (running itxs) h))
        (all_unfilter is_committing itxs live.1)))))
      where
        -- an id that is not finished, and neither committing nor left among the running ones, is not in the image
        gone : has r.id (finished G []) ≡ false → {txs : List Tx}
            → All (λ t. not t.committing ≡ true → is_unfinished (finished G []) t ≡ true → t.id ≢ r.id) txs
            → All (λ t. t.committing ≡ true → t.id ≢ r.id) txs → All (λ t. t.id ≢ r.id) txs
        gone n nil nil = nil
        gone n (cons {x = t} h hs) (cons k ks) = cons (λ i. go i t.committing refl) (gone n hs ks)
          where
            go : t.id ≡ r.id → (b : Bool) → t.committing ≡ b → ⊥
            go i true e = k e i
            go i false e = h (rw e) (rw (i, n)) i
