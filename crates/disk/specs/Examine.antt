-- Restart's steps 1 to 5, as a function of the disk alone, with numbers 3, 4 and 5.
use Rattle.std.specs.Prelude.{ℕ, ◌+◌, ◌*◌, cond, List, replicate, eqb, ltb, None}
use Rattle.layout.specs.{memory_len, tail_len, log_len, max_txs, abort_len}
use Rattle.redolog.specs.declared.TxId.{TxId}
use Rattle.redolog.specs.declared.Csn.{Csn}
use Rattle.restart.specs.declared.Recovered.{Recovered}
use Rattle.restart.specs.Forward.{Endings}
use Rattle.restart.specs.Restart.{AfterSteps, recover_of}
use Rattle.disk.specs.Open.{OpenedDisk, open_of}

-- The number that refuses, 0 for none. If none: the log's end counted from its first byte, the last commit number and the last id, how many
-- transactions step 4 undid, and of each of the image's how the first group of its id ends it.
pub record Examined : Type 0 where
  pub number : ℕ
  pub end : ℕ
  pub csn : Csn
  pub last : TxId
  pub undone : ℕ
  pub found : Endings

-- what is answered, and what stands in memory and tail then
pub record Meaning : Type 0 where
  pub result : Examined
  pub memory : List ℕ
  pub tail : List ℕ

-- refused, nothing is found
abbrev pub none_found : ℕ → Examined
none_found n = record { number = n; end = 0; csn = record { 0 = 0 }; last = record { 0 = 0 }; undone = 0; found = replicate max_txs None }

-- "its 3, 4 and 5 zero memory and tail"
unfoldable pub refused_by : ℕ → Meaning
refused_by n =
    record {
      result = none_found n;
      memory = replicate memory_len 0;
      tail = replicate tail_len 0;
    }

-- steps 2 to 5 of an opened disk, with a tail of zeros
unfoldable pub steps_of : OpenedDisk → AfterSteps
steps_of o = recover_of o.image o.log o.memory (replicate tail_len 0)

-- what steps 2 to 5 answer, with this as the end
abbrev pub examined : ℕ → Recovered → Examined
examined end r = record { number = 0; end = end; csn = r.csn; last = r.last; undone = r.undone; found = r.found }

-- the end is counted from the log's first byte
abbrev pub meant : ℕ → AfterSteps → Meaning
meant logend o = record { result = examined (logend + o.answer.end) o.answer; memory = o.memory; tail = o.tail }

-- "5. Restart: end found + 4 × transactions undone in step 4 exceeds 16,384."
abbrev pub if_fits : ℕ → AfterSteps → Meaning
if_fits logend o = cond (ltb log_len (logend + o.answer.end + abort_len * o.answer.undone)) (refused_by 5) (meant logend o)

abbrev pub of_opened : OpenedDisk → Meaning
of_opened o = cond (eqb o.number 0) (if_fits o.image.logend (steps_of o)) (refused_by o.number)

unfoldable pub examine_of : List ℕ → Meaning
examine_of disk = of_opened (open_of disk)
