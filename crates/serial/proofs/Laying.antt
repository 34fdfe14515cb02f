-- Committed transactions laid one after the other are their writes laid one after the other; at a byte, the newest of them counts.
use Prim.Native.Nat.{ℕ, ◌<◌}
use mathlib.Core.Path.{◌≡◌, refl, sym, ap, ◌∙◌}
use mathlib.Core.Option.{Option}
use mathlib.Core.List.{List, [], ◌∷◌, ◌++◌, append_assoc}
use lib.ListN.{length, get_or}
use Rattle.recovery.specs.Group.{Write, Group, committed, aborted}
use Rattle.recovery.specs.Replay.{redo_all, replay, lay_bytes}
use Rattle.recovery.specs.Ledger.{Commit}
use Rattle.recovery.specs.Claim.{commits, lay_commits}
use Rattle.recovery.proofs.Byte.{act, act_else, newest, newest_append, redo_newest, lay_byte, replay_byte, replay_length}

-- the writes of committed transactions, in commit order
abbrev pub writes_in : List Commit → List Write
writes_in [] = []
writes_in (c ∷ cs) = c.writes ++ writes_in cs

pub writes_append : (cs ds : List Commit) → writes_in (cs ++ ds) ≡ writes_in cs ++ writes_in ds
writes_append [] ds = refl
writes_append (c ∷ cs) ds = ap (λ (l : List Write). c.writes ++ l) (writes_append cs ds) ∙ sym (append_assoc c.writes (writes_in cs) (writes_in ds))

redo_append : (us vs : List Write) (m : List ℕ) → redo_all lay_bytes (us ++ vs) m ≡ redo_all lay_bytes vs (redo_all lay_bytes us m)
redo_append [] vs m = refl
redo_append (u ∷ us) vs m = redo_append us vs (lay_bytes u m)

lay_writes : (cs : List Commit) (m : List ℕ) → lay_commits cs m ≡ redo_all lay_bytes (writes_in cs) m
lay_writes [] m = refl
lay_writes (c ∷ cs) m = lay_writes cs (redo_all lay_bytes c.writes m) ∙ sym (redo_append c.writes (writes_in cs) m)

-- committed transactions and then some writes
pub laid : (cs : List Commit) (ws : List Write) (m : List ℕ) → redo_all lay_bytes ws (lay_commits cs m) ≡ redo_all lay_bytes (writes_in cs ++ ws) m
laid cs ws m = ap (redo_all lay_bytes ws) (lay_writes cs m) ∙ sym (redo_append (writes_in cs) ws m)

-- the byte a after these writes over a memory
abbrev pub byte_after : List ℕ → List Write → ℕ → ℕ
byte_after m ws a = act (newest a ws) (get_or m a 0)

module _ (m : List ℕ) (ws : List Write) where
  pub laid_length : length (redo_all lay_bytes ws m) ≡ length m
  laid_length = replay_length (length m) m refl (committed 0 0 ws ∷ [])

  pub laid_byte : (a : ℕ) → a < length m → get_or (redo_all lay_bytes ws m) a 0 ≡ byte_after m ws a
  laid_byte a h = replay_byte (length m) m refl a h (committed 0 0 ws ∷ []) ∙ redo_newest a ws (get_or m a 0)

-- the commits of a log at a byte
pub replay_newest : (a : ℕ) (gs : List Group) (v : ℕ) → replay (lay_byte a) gs v ≡ act (newest a (writes_in (commits gs))) v
replay_newest a [] v = refl
replay_newest a (committed i n ws ∷ gs) v =
    replay_newest a gs (redo_all (lay_byte a) ws v)
    ∙ ap (act (newest a (writes_in (commits gs)))) (redo_newest a ws v)
    ∙ sym (act_else (newest a (writes_in (commits gs))) (newest a ws) v)
    ∙ ap (λ (o : Option ℕ). act o v) (sym (newest_append a ws (writes_in (commits gs))))
replay_newest a (aborted i ∷ gs) v = replay_newest a gs v
