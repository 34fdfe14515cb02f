-- Write keeps the invariant: the undo record has the old bytes, and no other running transaction has a record over a byte of the range.
use mathlib.Core.Path.{◌≡◌, refl, sym, ap, ◌∙◌}
use mathlib.Core.Logic.{◌≢◌}
use mathlib.Core.Bool.{Bool, true, false}
use mathlib.Core.Option.{Option, none, some}
use mathlib.Core.List.{List, [], ◌∷◌, ◌++◌}
use Prim.Native.Nat.{ℕ, suc, ◌+◌, ◌≤◌, ◌<◌}
use native.Mathlib.Omega.{arith}
use lib.Dec.{eqb}
use lib.ListN.{length, get_or, drop}
use lib.Seq.{length-sets, get_or-take, get_or-drop}
use borrow.Author.Tests.{eqb-true}
use Rattle.recovery.specs.Group.{Write}
use Rattle.recovery.specs.Lists.{All, nil, cons}
use Rattle.recovery.specs.Transaction.{Tx, running, held_by_other}
use Rattle.recovery.specs.Replay.{redo_all, replay, lay_bytes, old_bytes, olds_of}
use Rattle.recovery.specs.Ledger.{Ledger, add_writes, enter_wrote}
use Rattle.recovery.specs.Machine.{Opening, Disk, Live, Listed, room_used, with_write, after_write}
use Rattle.recovery.proofs.Bool.{some_none}
use Rattle.recovery.proofs.Lists.{all_append}
use Rattle.recovery.proofs.Transactions.{Found, find, found_running}
use Rattle.recovery.proofs.Groups.{redo_size_append}
use Rattle.recovery.proofs.Byte.{act, seen, seen_at, oldest, newest, lay_byte, laid_byte, oldest_append, redo_newest, redo_length, redo_byte}
use Rattle.recovery.proofs.LiveByte.{Quiet, RunningAt, own_byte, own_alone, Touch, miss, hit, write_byte}
use Rattle.recovery.proofs.Records.{Within, Covers, old_length, old_same, Recorded, olds_append}
use Rattle.recovery.proofs.Held.{others_quiet}
use Rattle.recovery.proofs.Follows.{Over}
use Rattle.recovery.proofs.Invariant.{Up, base_at, base_memory, base_length, base_byte, recorded}
use Rattle.recovery.proofs.EditStep.{edited_listed, edited_room, edited_keeps}

-- one more undo record covers no less
over_write : (t r : Tx) (u w : Write) → Over t r → Over t (with_write u w r)
over_write t r u w ov a h = ov a (go (oldest a r.undo) refl)
  where
    go : (o : Option ℕ) → oldest a r.undo ≡ o → oldest a r.undo ≡ none
    go none e = e
    go (some y) e = absurd (some_none {x = y} (oldest_append a r.undo (u ∷ []) ∙ rw e) h)

-- old and new bytes of a write stand at the same addresses
data Where (a i : ℕ) (bs es : List ℕ) : Type 0 where
  out : seen_at a i bs ≡ none → seen_at a i es ≡ none → Where a i bs es
  at : (j : ℕ) → a ≡ i + j → j < length bs → seen_at a i bs ≡ some (get_or bs j 0) → seen_at a i es ≡ some (get_or es j 0) → Where a i bs es

whereabouts : (a i : ℕ) (bs es : List ℕ) → length bs ≡ length es → Where a i bs es
whereabouts a i [] [] e = out refl refl
whereabouts a i [] (x ∷ es) e = absurd (omega arith)
whereabouts a i (b ∷ bs) [] e = absurd (omega arith)
whereabouts a i (b ∷ bs) (x ∷ es) e = go (eqb a i) refl (whereabouts a (suc i) bs es (omega arith))
  where
    go : (c : Bool) → eqb a i ≡ c → Where a (suc i) bs es → Where a i (b ∷ bs) (x ∷ es)
    go true p h = at 0 (omega (arith, eqb-true a i p)) (omega arith) (rw p) (rw p)
    go false p (out q r) = out (rw p q) (rw p r)
    go false p (at j q l r s) = at (suc j) (omega arith) (omega arith) (rw p r) (rw p s)

pub touch : (a : ℕ) (m : List ℕ) (w : Write) (others : List Tx) → a < length m → w.addr + length w.bytes ≤ length m → (seen a w ≢ none → All (Quiet a) others)
    → Touch a (get_or m a 0) (get_or (lay_bytes w m) a 0) (old_bytes w m) w others
touch a m w others ha hw q = go (whereabouts a w.addr (old_bytes w m).bytes w.bytes same_length)
  where
    same_length : length (old_bytes w m).bytes ≡ length w.bytes
    same_length = old_length (length m) w m refl hw

    old : (j : ℕ) → a ≡ w.addr + j → j < length (old_bytes w m).bytes → get_or (old_bytes w m).bytes j 0 ≡ get_or m a 0
    old j e l = get_or-take (length w.bytes) (drop w.addr m) j 0 (rw same_length at l) ∙ (get_or-drop w.addr m j 0 ∙ ap (λ (i : ℕ). get_or m i 0) (sym e))

    new : (s : Option ℕ) → seen a w ≡ s → get_or (lay_bytes w m) a 0 ≡ act s (get_or m a 0)
    new s e = laid_byte a w m ha ∙ ap (λ (x : Option ℕ). act x (get_or m a 0)) e

    go : Where a w.addr (old_bytes w m).bytes w.bytes → Touch a (get_or m a 0) (get_or (lay_bytes w m) a 0) (old_bytes w m) w others
    go (out p r) = miss p r (new none r)
    go (at j e l p r) = hit (p ∙ ap some (old j e l)) (r ∙ ap some (sym (new (some (get_or w.bytes j 0)) r))) (q (some_none r))

module _ (o : Opening) (d : Disk) (l : Live) (k : Ledger) (r : Tx) (w : Write) (listed : Listed r l.txs) (run : r.committing ≡ false) (u : Up o d l k) where
  f : Found r.id r l.txs
  f = find r.id r l.txs listed

  abbrev xs : List Tx
  xs = running f.before

  abbrev ys : List Tx
  ys = running f.after

  abbrev old : Write
  old = old_bytes w l.memory

  abbrev r' : Tx
  r' = with_write (old_bytes w l.memory) w r

  runnings : running l.txs ≡ xs ++ r ∷ ys
  runnings = found_running r run f

  -- the byte a by the commits
  abbrev by_commits : ℕ → ℕ
  by_commits a = replay (lay_byte a) (d.after ++ l.tail) (base_at o d.before a)

  live_before : (a : ℕ) → a < o.size → RunningAt a (by_commits a) (get_or l.memory a 0) (xs ++ r ∷ ys)
  live_before a h = rw runnings at (u.bytes a h).live

  -- no other running transaction has a record over a byte of the range
  abbrev Alone : Type 0
  Alone = (a : ℕ) → a < o.size → seen a w ≢ none → All (Quiet a) (xs ++ ys)

  -- Number 9 keeps others away;
  alone_unheld : held_by_other r.id w l.txs ≡ false → Alone
  alone_unheld free a h touched = others_quiet r run f u.standing.live_distinct w free a (by_commits a) (get_or l.memory a 0) (live_before a h) touched

  -- and so do the transaction's own undo records.
  alone_own : Covers r.undo w → Alone
  alone_own own a h touched = own_alone a (by_commits a) (get_or l.memory a 0) xs r ys (live_before a h) (own a touched)

  -- a write takes 7 + length of room
  pub written_room : room_used d (after_write r w l) ≡ room_used d l + (7 + length w.bytes)
  written_room =
      omega (arith, redo_size_append r.redo (w ∷ []), edited_room o d l k r f run u (with_write old w) (lay_bytes w l.memory) (add_writes (w ∷ [])) refl run refl)

  pub written_listed : Listed r' (after_write r w l).txs
  written_listed = edited_listed o d l k r f run u (with_write old w) (lay_bytes w l.memory) (add_writes (w ∷ [])) refl run refl

  module _ (within : Within o.size w) (alone : Alone) where
    -- the undo record has the bytes that the commits and the transaction's earlier writes leave on the range
    written_recorded : Recorded o.size (base_memory o d l) r'
    written_recorded =
        let m : List ℕ = base_memory o d l in
        let lm : length (base_memory o d l) ≡ o.size = base_length o d l in
        let before : Recorded o.size (base_memory o d l) r = recorded o d l k u r listed run in
        let new : old ≡ old_bytes w (redo_all lay_bytes r.redo m) =
        old_same o.size w l.memory (redo_all lay_bytes r.redo m) u.live_length (redo_length o.size m lm r.redo) within
        (λ a h s. own_byte a (by_commits a) (get_or l.memory a 0) xs r ys (live_before a h) (alone a h s)
        ∙ sym (redo_byte o.size m lm a h r.redo ∙ (redo_newest a r.redo (get_or m a 0) ∙ ap (λ (x : ℕ). act (newest a r.redo) x) (base_byte o d l a h)))) in
        record {
          olds = ap (λ (us : List Write). us ++ (old ∷ [])) before.olds ∙ (ap (λ (v : Write). olds_of m r.redo ++ (v ∷ [])) new
              ∙ sym (olds_append r.redo (w ∷ []) m));
          within = all_append before.within (cons {x = w} within nil);
        }

    written_keeps : room_used d l + (7 + length w.bytes) ≤ o.capacity → Up o d (after_write r w l) (enter_wrote r.id w k)
    written_keeps fits =
        edited_keeps o d l k r f run u (with_write old w) (lay_bytes w l.memory) (add_writes (w ∷ [])) refl run refl
        (λ t. over_write t r old w) (length-sets l.memory w.addr w.bytes ∙ u.live_length)
        (λ a h.
        write_byte a (by_commits a) (get_or l.memory a 0) (get_or (lay_bytes w l.memory) a 0) xs r ys old w (live_before a h)
        (touch a l.memory w (xs ++ ys) (rw u.live_length h) (rw u.live_length within) (alone a h)))
        (omega (arith, written_room)) written_recorded

  pub write_keeps : w.addr + length w.bytes ≤ o.size → held_by_other r.id w l.txs ≡ false → room_used d l + (7 + length w.bytes) ≤ o.capacity
      → Up o d (after_write r w l) (enter_wrote r.id w k)
  write_keeps within free fits = written_keeps within (alone_unheld free) fits

  -- the same where the transaction has undo records over the whole range already
  pub rewrite_keeps : Within o.size w → Covers r.undo w → room_used d l + (7 + length w.bytes) ≤ o.capacity
      → Up o d (after_write r w l) (enter_wrote r.id w k)
  rewrite_keeps within own fits = written_keeps within (alone_own own) fits
