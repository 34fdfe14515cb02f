-- Worked cases of the ledger: a table of commit numbers, and one of the writes of returns, each with one computed proof.
use mathlib.Core.Path.{◌≡◌, refl}
use mathlib.Core.List.{List, [], ◌∷◌, map}
use Prim.Native.Nat.{ℕ}
use lib.ListN.{replicate}
use Rattle.recovery.specs.Group.{Write}
use Rattle.recovery.specs.Lists.{All, nil, cons}
use Rattle.recovery.specs.Ledger.{Commit, Ledger, no_ledger, open_writes, Event, unchanged, begun, wrote, savepoint_set, went_back, precommitted}
use Rattle.recovery.specs.Ledger.{rolled_back, flushed, settled, restarted, cut, enter}
use Rattle.recovery.proofs.Cases.{byte10}

-- what the ledger is fed, and the commit numbers of the durable, the assigned and the settled ones then
pub record Row : Type 0 where
  pub events : List Event
  pub durable : List ℕ
  pub assigned : List ℕ
  pub settled : List ℕ

abbrev pub feed : List Event → Ledger → Ledger
feed [] l = l
feed (e ∷ es) l = feed es (enter e l)

abbrev csns : List Commit → List ℕ
csns cs = map (λ c. c.csn) cs

-- M1's write, of two bytes: its group has 17
abbrev two_bytes : Write
two_bytes = record { addr = 10; bytes = 0x41 ∷ 0x42 ∷ [] }

unfoldable pub rows : List Row
rows =
    -- M1: flush 1 with 17 stores is done, with 16 it is cut
    record { events = restarted 0 ∷ begun 1 ∷ wrote 1 two_bytes ∷ precommitted 1 1 ∷ flushed 1 17 ∷ []; durable = 1 ∷ []; assigned = 1 ∷ []; settled = [] }
    ∷ record { events = restarted 0 ∷ begun 1 ∷ wrote 1 two_bytes ∷ precommitted 1 1 ∷ cut (flushed 1 16) ∷ []; durable = []; assigned = 1 ∷ []; settled = [] }
    -- the next restart that is done ends what was lost; one that is cut does not
    ∷ record { events = restarted 0 ∷ begun 1 ∷ precommitted 1 1 ∷ cut unchanged ∷ []; durable = []; assigned = 1 ∷ []; settled = [] }
    ∷ record { events = restarted 0 ∷ begun 1 ∷ precommitted 1 1 ∷ cut unchanged ∷ restarted 0 ∷ []; durable = []; assigned = []; settled = [] }
    -- an abort entry of 4 and a commit of 8: 11 stores are not enough for both
    ∷ record {
      events = restarted 0 ∷ begun 1 ∷ begun 2 ∷ rolled_back 1 ∷ precommitted 2 1 ∷ flushed 2 12 ∷ [];
      durable = 1 ∷ [];
      assigned = 1 ∷ [];
      settled = [];
    }
    ∷ record {
      events = restarted 0 ∷ begun 1 ∷ begun 2 ∷ rolled_back 1 ∷ precommitted 2 1 ∷ cut (flushed 2 11) ∷ [];
      durable = [];
      assigned = 1 ∷ [];
      settled = [];
    }
    -- so are the abort entries that restart queues
    ∷ record { events = restarted 2 ∷ begun 1 ∷ precommitted 1 1 ∷ flushed 3 16 ∷ []; durable = 1 ∷ []; assigned = 1 ∷ []; settled = [] }
    ∷ record { events = restarted 2 ∷ begun 1 ∷ precommitted 1 1 ∷ cut (flushed 3 15) ∷ []; durable = []; assigned = 1 ∷ []; settled = [] }
    -- settle takes the latest of the id
    ∷ record {
      events = restarted 0 ∷ begun 1 ∷ precommitted 1 1 ∷ flushed 1 8 ∷ restarted 0 ∷ begun 1 ∷ precommitted 1 2 ∷ flushed 1 8 ∷ settled 1 ∷ [];
      durable = 1 ∷ 2 ∷ [];
      assigned = 1 ∷ 2 ∷ [];
      settled = 2 ∷ [];
    }
    ∷ []

abbrev Right : Row → Type 0
Right r = (csns (feed r.events (no_ledger [])).durable ≡ r.durable) × (csns (feed r.events (no_ledger [])).assigned ≡ r.assigned)
    × (csns (feed r.events (no_ledger [])).settled ≡ r.settled)

pub ledger_cases : All Right rows
unfolding rows
ledger_cases =
    cons (refl, refl, refl) (cons (refl, refl, refl)
    (cons (refl, refl, refl) (cons (refl, refl, refl)
    (cons (refl, refl, refl) (cons (refl, refl, refl) (cons (refl, refl, refl) (cons (refl, refl, refl) (cons (refl, refl, refl) nil))))))))

-- Savepoints: what the ledger is fed, over 16 zeros, and the write set of id 1 then

pub record Return : Type 0 where
  pub events : List Event
  pub writes : List Write

abbrev range : ℕ → List ℕ → Write
range addr bytes = record { addr = addr; bytes = bytes }

-- id 1 begins, and writes 5 at 10
abbrev after5 : List Event → List Event
after5 es = begun 1 ∷ wrote 1 (byte10 5) ∷ es

unfoldable pub returns : List Return
returns =
    -- a write taken back; nothing to take back; a name not set
    record { events = after5 (savepoint_set 1 7 ∷ wrote 1 (byte10 6) ∷ went_back 1 7 ∷ []); writes = byte10 5 ∷ byte10 6 ∷ byte10 5 ∷ [] }
    ∷ record { events = after5 (savepoint_set 1 7 ∷ went_back 1 7 ∷ []); writes = byte10 5 ∷ [] }
    ∷ record { events = after5 (savepoint_set 1 7 ∷ wrote 1 (byte10 6) ∷ went_back 1 8 ∷ []); writes = byte10 5 ∷ byte10 6 ∷ [] }
    -- returns in a row take back 1 write, 2, 4
    ∷ record {
      events = after5 (savepoint_set 1 7 ∷ wrote 1 (byte10 6) ∷ went_back 1 7 ∷ went_back 1 7 ∷ []);
      writes = byte10 5 ∷ byte10 6 ∷ byte10 5 ∷ byte10 6 ∷ byte10 5 ∷ [];
    }
    ∷ record {
      events = after5 (savepoint_set 1 7 ∷ wrote 1 (byte10 6) ∷ went_back 1 7 ∷ went_back 1 7 ∷ went_back 1 7 ∷ []);
      writes = byte10 5 ∷ byte10 6 ∷ byte10 5 ∷ byte10 6 ∷ byte10 5 ∷ byte10 6 ∷ byte10 5 ∷ byte10 6 ∷ byte10 5 ∷ [];
    }
    -- a name moved; another stays where it was
    ∷ record {
      events = after5 (savepoint_set 1 7 ∷ savepoint_set 1 8 ∷ wrote 1 (byte10 6) ∷ savepoint_set 1 7 ∷ wrote 1 (byte10 9) ∷ went_back 1 7 ∷ []);
      writes = byte10 5 ∷ byte10 6 ∷ byte10 9 ∷ byte10 6 ∷ [];
    }
    ∷ record {
      events = after5 (savepoint_set 1 7 ∷ savepoint_set 1 8 ∷ wrote 1 (byte10 6) ∷ savepoint_set 1 7 ∷ wrote 1 (byte10 9) ∷ went_back 1 8 ∷ []);
      writes = byte10 5 ∷ byte10 6 ∷ byte10 9 ∷ byte10 6 ∷ byte10 5 ∷ [];
    }
    -- ranges that overlap: newest first, each with what the writes before it leave
    ∷ record {
      events = begun 1 ∷ savepoint_set 1 7 ∷ wrote 1 (range 10 (1 ∷ 2 ∷ [])) ∷ wrote 1 (range 11 (3 ∷ 4 ∷ [])) ∷ went_back 1 7 ∷ [];
      writes = range 10 (1 ∷ 2 ∷ []) ∷ range 11 (3 ∷ 4 ∷ []) ∷ range 11 (2 ∷ 0 ∷ []) ∷ range 10 (0 ∷ 0 ∷ []) ∷ [];
    }
    -- over a durable commit, and over a queued one; not over what another transaction has open
    ∷ record {
      events = begun 2 ∷ wrote 2 (byte10 5) ∷ precommitted 2 1 ∷ flushed 1 16 ∷ begun 1 ∷ savepoint_set 1 7 ∷ wrote 1 (byte10 6) ∷ went_back 1 7 ∷ [];
      writes = byte10 6 ∷ byte10 5 ∷ [];
    }
    ∷ record {
      events = begun 2 ∷ wrote 2 (byte10 5) ∷ precommitted 2 1 ∷ begun 1 ∷ savepoint_set 1 7 ∷ wrote 1 (byte10 6) ∷ went_back 1 7 ∷ [];
      writes = byte10 6 ∷ byte10 5 ∷ [];
    }
    ∷ record {
      events = begun 2 ∷ wrote 2 (range 9 (5 ∷ [])) ∷ begun 1 ∷ savepoint_set 1 7 ∷ wrote 1 (byte10 6) ∷ went_back 1 7 ∷ [];
      writes = byte10 6 ∷ byte10 0 ∷ [];
    }
    -- savepoints end with the transaction, and are its own
    ∷ record { events = begun 1 ∷ savepoint_set 1 7 ∷ rolled_back 1 ∷ after5 (went_back 1 7 ∷ []); writes = byte10 5 ∷ [] }
    ∷ record { events = begun 1 ∷ savepoint_set 1 7 ∷ cut unchanged ∷ restarted 1 ∷ after5 (went_back 1 7 ∷ []); writes = byte10 5 ∷ [] }
    ∷ record { events = begun 2 ∷ savepoint_set 2 7 ∷ after5 (went_back 1 7 ∷ []); writes = byte10 5 ∷ [] }
    ∷ []

abbrev Returned : Return → Type 0
Returned r = open_writes 1 (feed r.events (no_ledger (replicate 16 0))).active ≡ r.writes

pub return_cases : All Returned returns
unfolding returns
return_cases =
    cons refl (cons refl (cons refl (cons refl (cons refl
    (cons refl (cons refl (cons refl (cons refl (cons refl (cons refl (cons refl (cons refl (cons refl nil)))))))))))))
