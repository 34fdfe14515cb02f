-- Log room: what restart would undo has room for its abort records, since each such transaction still reserves 8 bytes or has a group in
-- the tail.
use mathlib.Core.Path.{◌≡◌, refl, sym, ap, ◌∙◌}
use mathlib.Core.Logic.{◌≢◌, ◌⊎◌, inl, inr}
use mathlib.Core.List.{List, [], ◌∷◌, ◌++◌, reverse}
use Prim.Native.Nat.{ℕ, ◌+◌, ◌*◌, ◌≤◌}
use native.Mathlib.Omega.{arith}
use lib.ListN.{length, length-append, length-reverse}
use Rattle.recovery.specs.Group.{Group, groups_size}
use Rattle.recovery.specs.Lists.{All, nil, cons}
use Rattle.recovery.specs.Transaction.{Tx, running, reserved}
use Rattle.recovery.specs.Restart.{finished, unfinished, undone}
use Rattle.recovery.specs.Machine.{Opening, Disk, standing_before, Live, room_used}
use Rattle.recovery.proofs.Lists.{all_map, all_zip, EveryPrefix}
use Rattle.recovery.proofs.Distinct.{empty, more, distinct_filter}
use Rattle.recovery.proofs.Transactions.{DistinctIds, is_running, is_unfinished}
use Rattle.recovery.proofs.Groups.{groups_size_append}
use Rattle.recovery.proofs.TailFit.{Tied, tied_nil, tied_abort, tied_commit, Fit, late, tied_late, undone_late}
use Rattle.recovery.proofs.Follows.{Over, Linked, here, there, linked_split, Follows, undone_running}

reserved_many : (rs : List Tx) → 8 * length rs ≤ reserved rs
reserved_many [] = omega arith
reserved_many (r ∷ rs) = let h : 8 * length rs ≤ reserved rs = reserved_many rs in omega arith

-- distinct ones that are linked to a list are no more than the list

abbrev Place : Tx → List Tx → Type 0
Place t rs = (xs : List Tx) × (r : Tx) × (ys : List Tx) × (rs ≡ xs ++ r ∷ ys) × (t.id ≡ r.id)

place : {t : Tx} {rs : List Tx} → Linked t rs → Place t rs
place (here {r} {rs} e o) = ([], r, rs, refl, e)
place (there {r} l) = let p = place l in (r ∷ p.0, p.1, p.2, ap (λ (ts : List Tx). r ∷ ts) p.3, p.4)

linked_length : {L rs : List Tx} → DistinctIds L → All (λ t. Linked t rs) L → length L ≤ length rs
linked_length empty nil = omega arith
linked_length (more {x = t} {xs = L} n d) (cons l ls) =
    let (xs, r, ys, w, i) = place l in
    let others : All (λ u. Linked u (xs ++ ys)) L = all_map (λ u p. other u r xs ys i p.0 (linked_split xs r ys (rw w at p.1))) (all_zip n ls) in
    let fewer : length L ≤ length (xs ++ ys) = linked_length d others in
    rw w (omega (arith, length-append xs (r ∷ ys), length-append xs ys))
  where
    other : (u r : Tx) (xs ys : List Tx) → t.id ≡ r.id → u.id ≢ t.id → ((u.id ≡ r.id) × Over u r) ⊎ Linked u (xs ++ ys) → Linked u (xs ++ ys)
    other u r xs ys i m (inl p) = absurd (m (p.0 ∙ sym i))
    other u r xs ys i m (inr k) = k

-- there is room for the abort records of a restart from this image and these groups after it
abbrev pub Roomy : Opening → Disk → List Group → Type 0
Roomy o d P = groups_size (standing_before d) + groups_size P + 4 * length (undone d.image.txs d.image.csn P) ≤ o.capacity

pub record Room (o : Opening) (d : Disk) (l : Live) : Type 0 where
  pub fits : EveryPrefix (Roomy o d) (d.after ++ l.tail)
  pub used : room_used d l ≤ o.capacity

-- log and tail whole: what the image has left to undo is still running
pub roomy_now : (o : Opening) (d : Disk) (G : List Group) (rs : List Tx) → DistinctIds d.image.txs → Follows d.image.txs d.image.csn G rs
    → groups_size (standing_before d) + groups_size G + reserved rs ≤ o.capacity → Roomy o d G
roomy_now o d G rs distinct w used =
    let ls : List Tx = unfinished (finished G []) (running d.image.txs) in
    let few : length ls ≤ length rs = linked_length (distinct_filter (is_unfinished (finished G [])) (distinct_filter is_running distinct)) w.runnings in
    rw (undone_running d.image.txs d.image.csn G rs w) (omega (arith, reserved_many rs))

-- an image taken now, and the groups P of the tail after it: the late commits have groups of 8 bytes at least in the rest
pub roomy_image : (o : Opening) (l : Live) (log P U : List Group) (cs : List Tx) → Fit l.txs l.csn (P ++ U) cs
    → groups_size log + groups_size (P ++ U) + reserved (running l.txs) ≤ o.capacity
    → groups_size log + groups_size P + 4 * length (undone l.txs l.csn P) ≤ o.capacity
roomy_image o l log P U cs fit used =
    let sized : 8 * length (late P cs) ≤ groups_size U = late_size (tied_late P fit.tied) in
    rw (undone_late l.txs l.csn P U cs fit, length-append (running l.txs) (reverse (late P cs)), length-reverse (late P cs))
    (omega (arith, reserved_many (running l.txs), groups_size_append P U))
  where
    late_size : {n : ℕ} {T : List Group} {ts : List Tx} → Tied n T ts → 8 * length ts ≤ groups_size T
    late_size tied_nil = omega arith
    late_size (tied_abort {gs} {cs = ts} t) = let h : 8 * length ts ≤ groups_size gs = late_size t in omega arith
    late_size (tied_commit {gs} {cs = ts} e f g t) = let h : 8 * length ts ≤ groups_size gs = late_size t in omega arith
