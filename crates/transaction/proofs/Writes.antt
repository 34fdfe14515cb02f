-- Laws of records as writes: undone one at a time, and their size in the log.
use Prim.Native.Nat.{ℕ, zero, suc, ◌+◌, ◌*◌, ◌≤◌, ◌<◌}
use native.Mathlib.Omega.{arith}
use mathlib.Core.List.{List, [], ◌∷◌, ◌++◌}
use mathlib.Core.Path.{◌≡◌, refl, sym, ap, ap₂, ◌∙◌}
use lib.ListN.{length, get_or, take, drop, length-drop}
use lib.Seq.{length-take-le}
use Rattle.recovery.specs.Group.{Write, redo_size}
use Rattle.recovery.specs.Replay.{undo_all, lay_bytes}
use Rattle.redolog.specs.Flat.{write_at, writes_from}
use Rattle.transaction.specs.declared.records.Records.{Records}
use Rattle.transaction.specs.Lists.{up_from}
use Rattle.transaction.specs.View.{range_at, ranges_of, writes_of}
use Rattle.transaction.specs.Rules.{ranges_size}
use Rattle.transaction.proofs.Lists.{up_snoc}

pub writes_up : (addr len bytes : List ℕ) (k i : ℕ) → writes_from addr len bytes k i ≡ up_from (write_at addr len bytes) k i
writes_up addr len bytes zero i = refl
writes_up addr len bytes (suc k) i = ap (λ (ws : List Write). write_at addr len bytes i ∷ ws) (writes_up addr len bytes k (suc i))

undo_snoc : (ws : List Write) (w : Write) (m : List ℕ) → undo_all lay_bytes (ws ++ (w ∷ [])) m ≡ undo_all lay_bytes ws (lay_bytes w m)
undo_snoc [] w m = refl
undo_snoc (v ∷ ws) w m = ap (lay_bytes v) (undo_snoc ws w m)

-- the newest of the first so many records is laid, the k others are left
pub undo_turn : (addr len bytes : List ℕ) (i k : ℕ) (m : List ℕ) → i ≡ suc k
    → undo_all lay_bytes (writes_from addr len bytes i 0) m ≡ undo_all lay_bytes (writes_from addr len bytes k 0) (lay_bytes (write_at addr len bytes k) m)
undo_turn addr len bytes i k m e =
    let o : 0 + k ≡ k = omega arith in
    let w = write_at addr len bytes in
    ap (λ (j : ℕ). undo_all lay_bytes (writes_from addr len bytes j 0) m) e
    ∙ ap (λ (ws : List Write). undo_all lay_bytes ws m) (writes_up addr len bytes (suc k) 0 ∙ up_snoc w k 0)
    ∙ ap (λ (j : ℕ). undo_all lay_bytes (up_from w k 0 ++ (w j ∷ [])) m) o
    ∙ undo_snoc (up_from w k 0) (w k) m
    ∙ ap (λ (ws : List Write). undo_all lay_bytes ws (lay_bytes (w k) m)) (sym (writes_up addr len bytes k 0))

-- a record whose bytes lie within the place set aside for it has as many bytes as its length says
pub bytes_length : (r : Records) (j : ℕ) → length r.bytes ≡ 512 → j < 16 → get_or r.ranges.len j 0 ≤ 32
    → length (take (get_or r.ranges.len j 0) (drop (j * 32) r.bytes)) ≡ get_or r.ranges.len j 0
bytes_length r j l h s = length-take-le (get_or r.ranges.len j 0) (drop (j * 32) r.bytes) (rw length-drop (omega arith))

sized_from : (r : Records) → length r.bytes ≡ 512 → (k i : ℕ) → i + k ≤ 16 → ((j : ℕ) → j < i + k → get_or r.ranges.len j 0 ≤ 32)
    → redo_size (writes_from r.ranges.addr r.ranges.len r.bytes k i) ≡ ranges_size (up_from (range_at r.ranges) k i)
sized_from r l zero i h s = refl
sized_from r l (suc k) i h s =
    ap₂ (λ (x y : ℕ). 7 + x + y) (bytes_length r i l (omega arith) (s i (omega arith)))
    (sized_from r l k (suc i) (omega arith) (λ j b. s j (omega arith)))

-- records as writes take the bytes in the log that their ranges say
pub sized : (r : Records) → length r.bytes ≡ 512 → r.ranges.count ≤ 16 → ((j : ℕ) → j < r.ranges.count → get_or r.ranges.len j 0 ≤ 32)
    → redo_size (writes_of r) ≡ ranges_size (ranges_of r.ranges)
sized r l h s = sized_from r l r.ranges.count 0 (omega arith) (λ j b. s j (omega arith))
