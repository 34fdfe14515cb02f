-- What the code hands on in place of an image and of a tail.
use Rattle.std.specs.Prelude.{ℕ, ◌+◌, ◌-◌, cond, List, [], ◌≡◌, replicate, eqb, Option, Some, None, Result, Ok, Err}
use Rattle.layout.specs.{tail_len, image_len, txs_start}
use Rattle.layout.specs.declared.refusal.Refusal.{Refusal}
use Rattle.layout.specs.Refusal.{number_of}
use Rattle.layout.specs.Parts.{part, pointer_of, image_at, image_part}
use Rattle.image.specs.declared.read.Heads.{Heads}
use Rattle.image.specs.Heads.{blank_heads, heads_of}
use Rattle.restart.specs.declared.Recovered.{Recovered}
use Rattle.restart.specs.declared.Replayed.{Replayed}
use Rattle.restart.specs.Turns.{aborts_laid}
use Rattle.disk.specs.declared.open.Opened.{Opened}
use Rattle.disk.specs.Layout.{log_from}
use Rattle.disk.specs.Open.{open_of}
use Rattle.disk.specs.Examine.{Examined, none_found, examined, Meaning}

-- the heads of the image that a pointer byte names, or of none
unfoldable pub heads_named : ℕ → List ℕ → Option Heads
heads_named pointer disk = cond (eqb pointer 0) (Some blank_heads) (heads_of (image_part pointer disk))

abbrev pub or_blank : Option Heads → Heads
or_blank None = blank_heads
or_blank (Some h) = h

-- the number that refuses, 0 for none; the heads of the image, the bytes of its transactions, and the log from the image's place on
pub record HandedOn : Type 0 where
  pub number : ℕ
  pub heads : Heads
  pub txs : List ℕ
  pub log : List ℕ

-- nothing of a disk that is refused
unfoldable pub shut_by : ℕ → HandedOn
shut_by n = record { number = n; heads = blank_heads; txs = []; log = [] }

abbrev pub parts_in : List ℕ → HandedOn
parts_in disk =
    record {
      number = 0;
      heads = or_blank (heads_named (pointer_of disk) disk);
      txs = part (image_at (pointer_of disk) + txs_start) (image_len - txs_start) disk;
      log = log_from (open_of disk).image.logend disk;
    }

unfoldable pub opened_of : List ℕ → HandedOn
opened_of disk = cond (eqb (open_of disk).number 0) (parts_in disk) (shut_by (open_of disk).number)

-- ---- what the code answers, in these words

abbrev pub handed_on : Result Opened Refusal → HandedOn
handed_on (Ok o) = record { number = 0; heads = o.heads; txs = o.txs.now; log = o.log.now }
handed_on (Err r) = shut_by (number_of r)

abbrev pub examined_by : Result Recovered Refusal → Examined
examined_by (Ok r) = examined r.end r
examined_by (Err r) = none_found (number_of r)

abbrev pub answer_in : Result Replayed Refusal → Result Recovered Refusal
answer_in (Ok r) = Ok r.answer
answer_in (Err r) = Err r

-- the abort records of the ids undone, over zeros
abbrev pub tail_by : Result Replayed Refusal → List ℕ
tail_by (Ok r) = aborts_laid r.ids r.answer.undone (replicate tail_len 0)
tail_by (Err r) = replicate tail_len 0

-- the answer is the meaning's, and the abort records of those ids its tail
pub record JudgedAs (r : Result Replayed Refusal) (m : Meaning) : Type 0 where
  pub found : examined_by (answer_in r) ≡ m.result
  pub tail : tail_by r ≡ m.tail
