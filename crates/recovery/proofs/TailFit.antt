-- The tail against the listed transactions: which committing transactions its commits are of, and so what step 4 would undo of an image
-- taken now, after any first part of the tail.
use mathlib.Core.Path.{◌≡◌, refl, sym, ap, ◌∙◌}
use mathlib.Core.Logic.{◌≢◌}
use mathlib.Core.Bool.{true, not}
use mathlib.Core.List.{List, [], ◌∷◌, ◌++◌, reverse, reverse-append, append-nil}
use Prim.Native.Nat.{ℕ, suc, ◌≤◌, ◌<◌}
use native.Mathlib.Omega.{arith}
use Rattle.recovery.specs.Group.{Write, Group, committed, aborted, last_csn}
use Rattle.recovery.specs.Lists.{All, nil, cons}
use Rattle.recovery.specs.Transaction.{Tx, running, committing}
use Rattle.recovery.specs.Restart.{group_id, finished, unfinished, sort_desc, above, undo_order, undone}
use Rattle.recovery.proofs.Lists.{all_map, all_left, all_right, all_reverse, filter_all, filter_append}
use Rattle.recovery.proofs.Distinct.{Distinct, distinct_right, distinct_apart}
use Rattle.recovery.proofs.Transactions.{is_above, is_unfinished}
use Rattle.recovery.proofs.Sorting.{above_high, above_low, above_above, above_sort}
use Rattle.recovery.proofs.Finished.{unmarked}

-- The commits of the groups are those of the transactions, in order, and their numbers go on from d.
pub data Tied : ℕ → List Group → List Tx → Type 0 where
  tied_nil : {d : ℕ} → Tied d [] []
  tied_abort : {d i : ℕ} {gs : List Group} {cs : List Tx} → Tied d gs cs → Tied d (aborted i ∷ gs) cs
  tied_commit : {d i n : ℕ} {ws : List Write} {gs : List Group} {c : Tx} {cs : List Tx} → c.id ≡ i → c.csn ≡ suc d → n ≡ suc d → Tied (suc d) gs cs
      → Tied d (committed i n ws ∷ gs) (c ∷ cs)

-- the transactions whose commits are among the groups, and the others
abbrev pub early : List Group → List Tx → List Tx
early [] cs = []
early (aborted i ∷ gs) cs = early gs cs
early (committed i n ws ∷ gs) [] = []
early (committed i n ws ∷ gs) (c ∷ cs) = c ∷ early gs cs

abbrev pub late : List Group → List Tx → List Tx
late [] cs = cs
late (aborted i ∷ gs) cs = late gs cs
late (committed i n ws ∷ gs) [] = []
late (committed i n ws ∷ gs) (c ∷ cs) = late gs cs

early_late : (P : List Group) (cs : List Tx) → cs ≡ early P cs ++ late P cs
early_late [] cs = refl
early_late (aborted i ∷ gs) cs = early_late gs cs
early_late (committed i n ws ∷ gs) [] = refl
early_late (committed i n ws ∷ gs) (c ∷ cs) = ap (λ (r : List Tx). c ∷ r) (early_late gs cs)

pub tied_early : {d : ℕ} (P U : List Group) {cs : List Tx} → Tied d (P ++ U) cs → Tied d P (early P cs)
tied_early [] U t = tied_nil
tied_early (aborted i ∷ P) U (tied_abort t) = tied_abort (tied_early P U t)
tied_early (committed i n ws ∷ P) U (tied_commit e f g t) = tied_commit e f g (tied_early P U t)

pub tied_late : {d : ℕ} (P : List Group) {U : List Group} {cs : List Tx} → Tied d (P ++ U) cs → Tied (last_csn d P) U (late P cs)
tied_late [] t = t
tied_late (aborted i ∷ P) (tied_abort t) = tied_late P t
tied_late (committed i n ws ∷ P) (tied_commit e f g t) = rw g (tied_late P t)

-- one more group

pub tied_one_commit : {d : ℕ} {T : List Group} {cs : List Tx} (i n : ℕ) (ws : List Write) (c : Tx) → Tied d T cs → c.id ≡ i → c.csn ≡ n
    → n ≡ suc (last_csn d T)
    → Tied d (T ++ (committed i n ws ∷ [])) (cs ++ (c ∷ []))
tied_one_commit i n ws c tied_nil e f g = tied_commit e (f ∙ g) g tied_nil
tied_one_commit i n ws c (tied_abort t) e f g = tied_abort (tied_one_commit i n ws c t e f g)
tied_one_commit i n ws c (tied_commit e' f' g' t) e f g = tied_commit e' f' g' (tied_one_commit i n ws c t e f (rw g' at g))

pub tied_one_abort : {d : ℕ} {T : List Group} {cs : List Tx} (i : ℕ) → Tied d T cs → Tied d (T ++ (aborted i ∷ [])) cs
tied_one_abort i tied_nil = tied_abort tied_nil
tied_one_abort i (tied_abort t) = tied_abort (tied_one_abort i t)
tied_one_abort i (tied_commit e f g t) = tied_commit e f g (tied_one_abort i t)

-- numbers and ids

pub tied_grows : {d : ℕ} {T : List Group} {cs : List Tx} → Tied d T cs → d ≤ last_csn d T
tied_grows tied_nil = omega arith
tied_grows (tied_abort t) = tied_grows t
tied_grows (tied_commit {d} {gs} e f g t) = let h : suc d ≤ last_csn (suc d) gs = tied_grows t in rw g (omega arith)

tied_high : {d : ℕ} {T : List Group} {cs : List Tx} → Tied d T cs → All (λ c. d < c.csn) cs
tied_high tied_nil = nil
tied_high (tied_abort t) = tied_high t
tied_high (tied_commit {c} e f g t) = cons {x = c} (omega arith) (all_map (λ c h. omega arith) (tied_high t))

tied_low : {d : ℕ} {T : List Group} {cs : List Tx} → Tied d T cs → All (λ c. c.csn ≤ last_csn d T) cs
tied_low tied_nil = nil
tied_low (tied_abort t) = tied_low t
tied_low (tied_commit {d} {gs} {c} e f g t) = let h : suc d ≤ last_csn (suc d) gs = tied_grows t in rw g (cons {x = c} (omega arith) (tied_low t))

pub tied_ids : (q : ℕ → Type 0) {d : ℕ} {T : List Group} {cs : List Tx} → Tied d T cs → All (λ g. q (group_id g)) T → All (λ c. q c.id) cs
tied_ids q tied_nil h = nil
tied_ids q (tied_abort t) (cons h hs) = tied_ids q t hs
tied_ids q (tied_commit {c} e f g t) (cons h hs) = cons {x = c} (rw e h) (tied_ids q t hs)

-- an abort group is of no listed transaction
abbrev pub Foreign : List Tx → Group → Type 0
Foreign txs (committed i n ws) = Unit {0}
Foreign txs (aborted i) = All (λ t. t.id ≢ i) txs

pub foreign_map : {txs txs' : List Tx} → ((i : ℕ) → All (λ t. t.id ≢ i) txs → All (λ t. t.id ≢ i) txs') → (g : Group) → Foreign txs g → Foreign txs' g
foreign_map f (committed i n ws) h = tt
foreign_map f (aborted i) h = f i h

-- the groups have none of the id
abbrev pub Ungrouped : List Group → Tx → Type 0
Ungrouped T t = All (λ g. group_id g ≢ t.id) T

-- The listed transactions and the tail T, with d the number on disk: cs are the committing ones whose commits are in T.
pub record Fit (txs : List Tx) (d : ℕ) (T : List Group) (cs : List Tx) : Type 0 where
  -- cs are all whose numbers are above d, by number
  pub sorted : sort_desc (above d (committing txs)) ≡ reverse cs
  pub tied : Tied d T cs
  -- each id has one group at most; an aborted one is not listed, a running one has none
  pub once : Distinct group_id T
  pub foreign : All (Foreign txs) T
  pub free : All (Ungrouped T) (running txs)

module _ (txs : List Tx) (d : ℕ) (P U : List Group) (cs : List Tx) (fit : Fit txs d (P ++ U) cs) where
  sorted_late : sort_desc (above (last_csn d P) (committing txs)) ≡ reverse (late P cs)
  sorted_late =
      let n : ℕ = last_csn d P in
      let es : List Tx = reverse (early P cs) in
      let ls : List Tx = reverse (late P cs) in
      let grown : d ≤ n = tied_grows (tied_early P U fit.tied) in
      let split : sort_desc (above d (committing txs)) ≡ ls ++ es = fit.sorted ∙ (ap reverse (early_late P cs) ∙ reverse-append (early P cs) (late P cs)) in
      let high : above n ls ≡ ls = above_high n (all_reverse (tied_high (tied_late P fit.tied))) in
      let low : above n es ≡ [] = above_low n (all_reverse (tied_low (tied_early P U fit.tied))) in
      ap sort_desc (sym (above_above d n (committing txs) grown)) ∙ (sym (above_sort n (above d (committing txs)))
      ∙ (ap (λ (l : List Tx). above n l) split ∙ (filter_append (is_above n) ls es ∙ rw (high, low) (append-nil ls))))

  -- what a flush of P leaves
  pub fit_late : Fit txs (last_csn d P) U (late P cs)
  fit_late = record {
    sorted = sorted_late;
    tied = tied_late P fit.tied;
    once = distinct_right P fit.once;
    foreign = all_right P fit.foreign;
    free = all_map (λ t h. all_right P h) fit.free;
  }

  -- an image taken now, and the groups P after it: step 4 undoes the running ones, and the commits that are not in P, the last first
  pub undone_late : undone txs d P ≡ running txs ++ reverse (late P cs)
  unfolding undo_order
  undone_late =
      let f : List ℕ = finished P [] in
      let ls : List Tx = reverse (late P cs) in
      let one : (t : Tx) → Ungrouped P t → is_unfinished f t ≡ true = λ t h. ap not (unmarked [] h refl) in
      let kept-late : unfinished f ls ≡ ls =
      filter_all (is_unfinished f) (all_reverse
      (all_map one (tied_ids (λ i. All (λ g. group_id g ≢ i) P) (tied_late P fit.tied) (distinct_apart P fit.once)))) in
      let kept-running : unfinished f (running txs) ≡ running txs = filter_all (is_unfinished f) (all_map (λ t h. one t (all_left P U h)) fit.free) in
      ap (λ (l : List Tx). unfinished f (running txs ++ l)) sorted_late ∙ (filter_append (is_unfinished f) (running txs) ls ∙ rw (kept-late, kept-running))
