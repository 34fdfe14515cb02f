-- Reads against the transactions before them, byte by byte: how it goes on when one more transaction commits, and that it is what is claimed.
use Prim.Native.Nat.{ℕ, ◌+◌, ◌≤◌, ◌<◌}
use native.Mathlib.Omega.{arith}
use mathlib.Core.Path.{◌≡◌, sym, ap, ◌∙◌, subst}
use mathlib.Core.Option.{Option, none}
use mathlib.Core.List.{List, [], ◌∷◌, ◌++◌, map-append, append_assoc, append-nil}
use lib.ListN.{length, take, drop, get_or, length-drop, length-append}
use lib.Seq.{get_or-take, get_or-drop, length-take-le, take-append-le, ext_get_or}
use Rattle.recovery.specs.Group.{Write}
use Rattle.recovery.specs.Lists.{All, or_else}
use Rattle.recovery.specs.Replay.{redo_all, lay_bytes}
use Rattle.recovery.specs.Claim.{lay_commits}
use Rattle.recovery.proofs.Lists.{all_map}
use Rattle.recovery.proofs.Byte.{act, newest, newest_append}
use Rattle.serial.specs.Ledger.{Read, CommitWithReads, commits_in, stamps_of}
use Rattle.serial.specs.Claim.{bytes_at, AsOrdered, Serial}
use Rattle.serial.proofs.Laying.{writes_in, writes_append, laid, byte_after, laid_length, laid_byte}

-- the byte a is one that the read handed back
abbrev pub HandedBack : Read → ℕ → Type 0
HandedBack r a = (r.addr ≤ a) × (a < r.addr + length r.bytes)

-- the writes leave every byte of the read
abbrev pub Leaves : List Write → Read → Type 0
Leaves ws r = (a : ℕ) → HandedBack r a → newest a ws ≡ none

-- A read of a transaction with these writes so far, against those before it: `AsOrdered`, byte by byte.
pub record Sees (m : List ℕ) (before : List CommitWithReads) (writes : List Write) (r : Read) : Type 0 where
  pub within : r.addr + length r.bytes ≤ length m
  pub stood : r.own ≤ length writes
  pub bytes : (j : ℕ) → j < length r.bytes
      → get_or r.bytes j 0 ≡ byte_after m (writes_in (commits_in before) ++ take r.own writes) (r.addr + j)
  pub assigned : (between : List ℕ) × (stamps_of before ≡ r.assigned ++ between)

-- more writes of its own
pub sees_writes : {m : List ℕ} {before : List CommitWithReads} {ws : List Write} {r : Read} (vs : List Write) → Sees m before ws r → Sees m before (ws ++ vs) r
sees_writes {m} {before} {ws} {r} vs s = record {
  within = s.within;
  stood = omega (arith, s.stood, length-append ws vs);
  bytes = λ j h. s.bytes j h ∙ ap (λ (l : List Write). byte_after m (writes_in (commits_in before) ++ l) (r.addr + j)) (sym (take-append-le r.own ws vs s.stood));
  assigned = s.assigned;
}

-- another transaction commits whose writes leave the read's bytes
pub sees_commit : {m : List ℕ} {before : List CommitWithReads} {ws : List Write} {r : Read} (c : CommitWithReads) → Leaves c.commit.writes r
    → Sees m before ws r → Sees m (before ++ (c ∷ [])) ws r
sees_commit {m} {before} {ws} {r} c leaves s = record {
  within = s.within;
  stood = s.stood;
  bytes = λ j h. s.bytes j h ∙ ap (λ (o : Option ℕ). act o (get_or m (r.addr + j) 0)) (same (r.addr + j) (leaves (r.addr + j) (omega arith, omega arith)));
  assigned = (
    s.assigned.0 ++ (c.stamp ∷ []),
    map-append (λ x. x.stamp) before (c ∷ []) ∙ ap (λ (l : List ℕ). l ++ (c.stamp ∷ [])) s.assigned.1
        ∙ append_assoc r.assigned s.assigned.0 (c.stamp ∷ []),
  );
}
  where
    own : List Write
    own = take r.own ws

    after : writes_in (commits_in (before ++ (c ∷ []))) ≡ writes_in (commits_in before) ++ c.commit.writes
    after = ap writes_in (map-append (λ x. x.commit) before (c ∷ [])) ∙ writes_append (commits_in before) (c.commit ∷ [])
        ∙ ap (λ (l : List Write). writes_in (commits_in before) ++ l) (append-nil c.commit.writes)

    same : (a : ℕ) → newest a c.commit.writes ≡ none
        → newest a (writes_in (commits_in before) ++ own) ≡ newest a (writes_in (commits_in (before ++ (c ∷ []))) ++ own)
    same a e =
        newest_append a (writes_in (commits_in before)) own
        ∙ ap (or_else (newest a own))
        (sym (ap (newest a) after ∙ newest_append a (writes_in (commits_in before)) c.commit.writes ∙ ap (λ (o : Option ℕ). or_else o (newest a (writes_in (commits_in before)))) e))
        ∙ sym (newest_append a (writes_in (commits_in (before ++ (c ∷ [])))) own)

-- what is claimed of it
pub sees_ordered : {m : List ℕ} {before : List CommitWithReads} {ws : List Write} {r : Read} → Sees m before ws r → AsOrdered m before ws r
sees_ordered {m} {before} {ws} {r} s = record {
  bytes =
      ext_get_or 0 r.bytes (bytes_at r (redo_all lay_bytes own (lay_commits (commits_in before) m))) (sym ranged)
      (λ j h. s.bytes j h ∙ sym (at j h));
  assigned = s.assigned;
}
  where
    own : List Write
    own = take r.own ws

    all : List Write
    all = writes_in (commits_in before) ++ own

    after : List ℕ
    after = redo_all lay_bytes own (lay_commits (commits_in before) m)

    is : after ≡ redo_all lay_bytes all m
    is = laid (commits_in before) own m

    long : length after ≡ length m
    long = ap length is ∙ laid_length m all

    ranged : length (bytes_at r after) ≡ length r.bytes
    ranged = length-take-le (length r.bytes) (drop r.addr after) (rw (length-drop r.addr after) (omega (arith, long, s.within)))

    at : (j : ℕ) → j < length r.bytes → get_or (bytes_at r after) j 0 ≡ byte_after m all (r.addr + j)
    at j h =
        get_or-take (length r.bytes) (drop r.addr after) j 0 h ∙ get_or-drop r.addr after j 0
        ∙ ap (λ (l : List ℕ). get_or l (r.addr + j) 0) is ∙ laid_byte m all (r.addr + j) (omega (arith, s.within))

-- ---- lists of committed transactions

-- each read against those before it, the first ones being `before`
abbrev pub InOrder : List ℕ → List CommitWithReads → List CommitWithReads → Type 0
InOrder m before [] = Unit {0}
InOrder m before (c ∷ cs) = All (Sees m before c.commit.writes) c.reads × InOrder m (before ++ (c ∷ [])) cs

module _ (m : List ℕ) where
  pub order_left : (before cs ds : List CommitWithReads) → InOrder m before (cs ++ ds) → InOrder m before cs
  order_left before [] ds h = tt
  order_left before (c ∷ cs) ds h = (h.0, order_left (before ++ (c ∷ [])) cs ds h.1)

  pub order_more : (before cs : List CommitWithReads) (c : CommitWithReads) → InOrder m before cs
      → All (Sees m (before ++ cs) c.commit.writes) c.reads → InOrder m before (cs ++ (c ∷ []))
  order_more before [] c h s = (subst (λ (l : List CommitWithReads). All (Sees m l c.commit.writes) c.reads) (append-nil before) s, tt)
  order_more before (x ∷ cs) c h s = (
    h.0,
    order_more (before ++ (x ∷ [])) cs c h.1
        (subst (λ (l : List CommitWithReads). All (Sees m l c.commit.writes) c.reads) (sym (append_assoc before (x ∷ []) cs)) s),
  )

  order_at : (first before : List CommitWithReads) (c : CommitWithReads) (after : List CommitWithReads) → InOrder m first (before ++ (c ∷ after))
      → All (Sees m (first ++ before) c.commit.writes) c.reads
  order_at first [] c after h = subst (λ (l : List CommitWithReads). All (Sees m l c.commit.writes) c.reads) (sym (append-nil first)) h.0
  order_at first (x ∷ before) c after h =
      subst (λ (l : List CommitWithReads). All (Sees m l c.commit.writes) c.reads) (append_assoc first (x ∷ []) before)
      (order_at (first ++ (x ∷ [])) before c after h.1)

  pub order_serial : (cs : List CommitWithReads) → InOrder m [] cs → Serial m cs
  order_serial cs h before c after e = all_map (λ r s. sees_ordered s) (order_at [] before c after (subst (InOrder m []) e h))
