-- Steps 2 to 5 in one: the answer, memory and tail.
use Rattle.std.specs.Prelude.{ℕ, List, length}
use Rattle.std.proofs.lemmas.List.Edits.{sets}
use Rattle.recovery.specs.Replay.{undo_each, lay_bytes}
use Rattle.recovery.specs.Restart.{aborts}
use Rattle.redolog.specs.Log.{encode_log}
use Rattle.image.specs.declared.Image.{Image}
use Rattle.restart.specs.declared.forward.Pass.{Pass}
use Rattle.restart.specs.declared.Recovered.{Recovered}
use Rattle.restart.specs.Forward.{Went, forward_of}
use Rattle.restart.specs.Undo.{undone_of}

pub record AfterSteps : Type 0 where
  pub answer : Recovered
  pub memory : List ℕ
  pub tail : List ℕ

-- Step 5: "Last id = the larger of the image's and the highest in the groups read. Both commit numbers = the last found; log end = the
-- end found". The pass has them; the end is counted from the front of the log's part.
abbrev pub answer_of : Image → Pass → Recovered
answer_of image p = record { end = p.end; csn = p.csn; last = p.last; undone = length (undone_of image p); found = p.found }

-- Step 4: they are undone in that order. "Each adds an abort record to the tail"
abbrev pub after_steps : Image → Went → List ℕ → AfterSteps
after_steps image w tail =
    record {
      answer = answer_of image w.pass;
      memory = undo_each lay_bytes (undone_of image w.pass) w.memory;
      tail = sets tail 0 (encode_log (aborts (undone_of image w.pass)));
    }

unfoldable pub recover_of : Image → List ℕ → List ℕ → List ℕ → AfterSteps
recover_of image log m tail = after_steps image (forward_of image log m) tail
