-- The image's transactions, followed through the groups after it to the live ones. An image's running transaction that has no group yet is
-- still running, with at least its bytes; an image's committing one is finished, or its number is at most the last one in the log.
use mathlib.Core.Path.{◌≡◌, sym, ap, ◌∙◌}
use mathlib.Core.Logic.{◌≢◌, ◌⊎◌, inl, inr}
use mathlib.Core.Bool.{true, false, or-true}
use mathlib.Core.Option.{none}
use mathlib.Core.List.{List, [], ◌∷◌, ◌++◌, append-nil}
use Prim.Native.Nat.{ℕ, ◌≤◌}
use native.Mathlib.Omega.{arith}
use lib.Dec.{eqb, ltb}
use borrow.Author.Tests.{ne_eqb, ltb-true}
use Rattle.recovery.specs.Group.{Group, csn_after, last_csn}
use Rattle.recovery.specs.Lists.{All, cons, has}
use Rattle.recovery.specs.Transaction.{Tx, running, committing}
use Rattle.recovery.specs.Restart.{group_id, finished, unfinished, sort_desc, above, undo_order, undone}
use Rattle.recovery.proofs.Bool.{opposed, eqb_same, or_both}
use Rattle.recovery.proofs.Lists.{all_map, all_zip, all_less, all_passing, filter_none, filter_append}
use Rattle.recovery.proofs.Transactions.{is_above, is_unfinished}
use Rattle.recovery.proofs.Sorting.{sort_all}
use Rattle.recovery.proofs.Groups.{last_csn_append}
use Rattle.recovery.proofs.Finished.{finished_append, unfinished_more}
use Rattle.recovery.proofs.Byte.{oldest}

-- an image's running transaction and the live one that it has become

-- r has an undo record over each byte that t has one over
abbrev pub Over : Tx → Tx → Type 0
Over t r = (a : ℕ) → oldest a r.undo ≡ none → oldest a t.undo ≡ none

pub data Linked (t : Tx) : List Tx → Type 0 where
  here : {r : Tx} {rs : List Tx} → t.id ≡ r.id → Over t r → Linked t (r ∷ rs)
  there : {r : Tx} {rs : List Tx} → Linked t rs → Linked t (r ∷ rs)

linked_id : {t : Tx} {i : ℕ} {rs : List Tx} → Linked t rs → All (λ r. r.id ≢ i) rs → t.id ≢ i
linked_id (here e o) (cons n ns) q = n (sym e ∙ q)
linked_id (there l) (cons n ns) q = linked_id l ns q

pub linked_split : {t : Tx} (xs : List Tx) (r : Tx) (ys : List Tx) → Linked t (xs ++ r ∷ ys) → ((t.id ≡ r.id) × Over t r) ⊎ Linked t (xs ++ ys)
linked_split [] r ys (here e o) = inl (e, o)
linked_split [] r ys (there l) = inr l
linked_split (x ∷ xs) r ys (here e o) = inr (here e o)
linked_split {t} (x ∷ xs) r ys (there l) = further (linked_split xs r ys l)
  where
    further : ((t.id ≡ r.id) × Over t r) ⊎ Linked t (xs ++ ys) → ((t.id ≡ r.id) × Over t r) ⊎ Linked t (x ∷ xs ++ ys)
    further (inl p) = inl p
    further (inr k) = inr (there k)

-- The image's transactions, followed through the groups after it to the live running ones rs.
pub record Follows (itxs : List Tx) (d : ℕ) (G : List Group) (rs : List Tx) : Type 0 where
  -- a committing one of the image is finished, or its commit is in the log
  pub committings : All (λ c. (has c.id (finished G []) ≡ true) ⊎ (c.csn ≤ last_csn d G)) (committing itxs)
  -- a running one that is not finished is still running
  pub runnings : All (λ t. Linked t rs) (unfinished (finished G []) (running itxs))
  -- a live running one is not finished, and none of the image's committing ones
  pub lives : All (λ r. (has r.id (finished G []) ≡ false) × All (λ c. c.id ≢ r.id) (committing itxs)) rs

-- step 4 has the running ones to undo, and no more
pub undone_running : (itxs : List Tx) (d : ℕ) (G : List Group) (rs : List Tx) → Follows itxs d G rs
    → undone itxs d G ≡ unfinished (finished G []) (running itxs)
unfolding undo_order
undone_running itxs d G rs w =
    let f : List ℕ = finished G [] in
    let n : ℕ = last_csn d G in
    let no_more : unfinished f (sort_desc (above n (committing itxs))) ≡ [] =
    filter_none (is_unfinished f) (sort_all (all_passing (is_above n) (all_map (λ c h l. one f n c h l) w.committings))) in
    filter_append (is_unfinished f) (running itxs) (sort_desc (above n (committing itxs))) ∙ rw no_more (append-nil (unfinished f (running itxs)))
  where
    one : (f : List ℕ) (n : ℕ) (c : Tx) → (has c.id f ≡ true) ⊎ (c.csn ≤ n) → ltb n c.csn ≡ true → is_unfinished f c ≡ false
    one f n c (inl h) l = rw h
    one f n c (inr h) l = absurd (omega (arith, ltb-true n c.csn l))

-- what an unfinished transaction of the image is to the live r and the others: r has come from it, or another has
pub data Kin (r : Tx) (others : List Tx) (t : Tx) : Type 0 where
  itself : t.id ≡ r.id → Over t r → Kin r others t
  another : t.id ≢ r.id → Linked t others → Kin r others t

-- One more group, g, ends the live running transaction r.
module _ (itxs : List Tx) (d : ℕ) (G : List Group) (xs : List Tx) (r : Tx) (ys : List Tx) (w : Follows itxs d G (xs ++ r ∷ ys))
    (apart : All (λ t. t.id ≢ r.id) (xs ++ ys)) where
  abbrev f : List ℕ
  f = finished G []

  abbrev left : List Tx
  left = unfinished (finished G []) (running itxs)

  pub kin : All (Kin r (xs ++ ys)) left
  kin = all_map (λ t l. go t (linked_split xs r ys l)) w.runnings
    where
      go : (t : Tx) → ((t.id ≡ r.id) × Over t r) ⊎ Linked t (xs ++ ys) → Kin r (xs ++ ys) t
      go t (inl p) = itself p.0 p.1
      go t (inr l) = another (linked_id l apart) l

  module _ (g : Group) (of : group_id g ≡ r.id) where
    now_finished : finished (G ++ (g ∷ [])) [] ≡ r.id ∷ finished G []
    now_finished = finished_append G (g ∷ []) [] ∙ ap (λ (i : ℕ). i ∷ finished G []) of

    pub now_left : unfinished (finished (G ++ (g ∷ [])) []) (running itxs) ≡ unfinished (r.id ∷ []) left
    now_left = ap (λ (h : List ℕ). unfinished h (running itxs)) now_finished ∙ unfinished_more r.id (finished G []) (running itxs)

    pub follows_next : last_csn d G ≤ csn_after (last_csn d G) g → Follows itxs d (G ++ (g ∷ [])) (xs ++ ys)
    follows_next le = record {
      committings = rw (now_finished, last_csn_append d G (g ∷ [])) (all_map old w.committings);
      runnings = rw now_left (all_passing (is_unfinished (r.id ∷ [])) (all_map (λ t p e. other t e p) kin));
      lives = rw now_finished (all_map (λ t p. (or_both (eqb t.id r.id) (has t.id f) (ne_eqb t.id r.id p.0) p.1.0, p.1.1))
          (all_zip apart (all_less xs r ys w.lives)));
    }
      where
        old : (c : Tx) → (has c.id f ≡ true) ⊎ (c.csn ≤ last_csn d G) → (has c.id (r.id ∷ f) ≡ true) ⊎ (c.csn ≤ csn_after (last_csn d G) g)
        old c (inl h) = inl (rw h (or-true (eqb c.id r.id)))
        old c (inr h) = inr (omega arith)

        other : (t : Tx) → is_unfinished (r.id ∷ []) t ≡ true → Kin r (xs ++ ys) t → Linked t (xs ++ ys)
        other t e (itself i o) = absurd (opposed e (rw (i, eqb_same r.id)))
        other t e (another n l) = l
