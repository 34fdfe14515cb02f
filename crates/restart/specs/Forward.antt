-- Steps 2 and 3: the groups of the log, one after the other.
use Rattle.std.specs.Prelude.{ℕ, ◌+◌, max, Bool, cond, List, [], ◌∷◌, get_or, set, take, replicate, Option, Some, None, is_none}
use Rattle.layout.specs.{max_txs}
use Rattle.recovery.specs.Group.{Group, committed, aborted, group_size, csn_after}
use Rattle.recovery.specs.Replay.{redo_all, undo_all, lay_bytes}
use Rattle.recovery.specs.Restart.{group_id}
use Rattle.redolog.specs.Log.{read_log}
use Rattle.image.specs.declared.Image.{Image}
use Rattle.restart.specs.declared.forward.Ending.{Ending}
use Rattle.restart.specs.declared.forward.Ending.TheVariants.{Commit, Abort}
use Rattle.restart.specs.declared.forward.Pass.{Pass}
use Rattle.restart.specs.Slots.{Slot, transaction_at, image_slot}

-- memory, and what the pass has found
pub record Went : Type 0 where
  pub memory : List ℕ
  pub pass : Pass

abbrev pub went_by : List ℕ → Pass → Went
went_by m p = record { memory = m; pass = p }

-- how a group ends its transaction
abbrev pub ending_of : Group → Ending
ending_of (committed id n ws) = Commit
ending_of (aborted id) = Abort

-- of each transaction of the image how the first group of its id ends it
abbrev pub Endings : Type 0
Endings = List (Option Ending)

-- no group of its id was found
abbrev pub open_at : Endings → ℕ → Bool
open_at found i = is_none (get_or found i None)

-- "mark that id finished": its transaction, where it is unfinished, ends as the group says
abbrev pub marked : Endings → Ending → Slot → Endings
marked found ending None = found
marked found ending (Some i) = cond (open_at found i) (set found i (Some ending)) found

-- "if the id is in the image and unfinished, undo it .. else nothing"
abbrev pub undo_logged : Image → Endings → Slot → List ℕ → List ℕ
undo_logged image found None m = m
undo_logged image found (Some i) m = cond (open_at found i) (undo_all lay_bytes (transaction_at image i).undo m) m

-- "Commit: do its redo records .. Abort: if the id is in the image and unfinished, undo it"
abbrev pub memory_after : Image → Group → Went → List ℕ
memory_after image (committed id n ws) w = redo_all lay_bytes ws w.memory
memory_after image (aborted id) w = undo_logged image w.pass.found (image_slot image id) w.memory

-- past a group of the id in this slot, which ends it so, to where it ends; csn is the last commit number then
unfoldable pub past : Pass → Slot → ℕ → ℕ → Ending → ℕ → Pass
past p slot id csn ending end =
    record { end = end; csn = record { 0 = csn }; last = record { 0 = max p.last.0 id }; found = marked p.found ending slot }

abbrev pub pass_after : Image → Group → Pass → Pass
pass_after image g p = past p (image_slot image (group_id g)) (group_id g) (csn_after p.csn.0 g) (ending_of g) (p.end + group_size g)

abbrev pub after_group : Image → Group → Went → Went
after_group image g w = went_by (memory_after image g w) (pass_after image g w.pass)

-- "Go forward over the groups"
abbrev pub go_over : Image → List Group → Went → Went
go_over image [] w = w
go_over image (g ∷ gs) w = go_over image gs (after_group image g w)

-- the image's number on disk "is the last found until a commit is read"
abbrev pub start_of : Image → List ℕ → Went
start_of image m = went_by m (record { end = 0; csn = image.ondisk; last = image.lastid; found = replicate max_txs None })

-- "Find where the log ends, handing on the log from the image's place, with the image's number on disk as previous number": the groups read
abbrev pub groups_of : Image → List ℕ → List Group
groups_of image log = read_log image.ondisk.0 log

unfoldable pub forward_of : Image → List ℕ → List ℕ → Went
forward_of image log m = go_over image (groups_of image log) (start_of image m)

-- the same, over the first k groups alone, or all if fewer (document 02, A.3)
unfoldable pub first_of : ℕ → Image → List ℕ → List ℕ → Went
first_of k image log m = go_over image (take k (groups_of image log)) (start_of image m)
