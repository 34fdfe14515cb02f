-- Step 4: what is left unfinished, in the order of undoing.
use Rattle.std.specs.Prelude.{ℕ, Bool, ◌&&◌, List, ◌++◌, get_or, eqb, ltb, Option, None, is_none}
use Rattle.layout.specs.{status_running, status_committing}
use Rattle.recovery.specs.Transaction.{Tx as Transaction}
use Rattle.recovery.specs.Restart.{sort_desc}
use Rattle.transaction.specs.declared.Tx.{Tx}
use Rattle.image.specs.declared.Image.{Image}
use Rattle.image.specs.Slots.{slot_at}
use Rattle.restart.specs.declared.forward.Ending.{Ending}
use Rattle.restart.specs.declared.forward.Pass.{Pass}
use Rattle.restart.specs.Slots.{transaction_at, filter_below}
use Rattle.restart.specs.Forward.{Endings}

-- a transaction of which that was found is unfinished and running
unfoldable pub is_running : Option Ending → Tx → Bool
is_running found t = is_none found && eqb t.status status_running

-- it is unfinished and committing, and its number exceeds n
unfoldable pub is_lost : ℕ → Option Ending → Tx → Bool
is_lost n found t = is_none found && eqb t.status status_committing && ltb n t.csn.0

abbrev pub running_at : Image → Endings → ℕ → Bool
running_at image found i = is_running (get_or found i None) (slot_at image.txs i)

abbrev pub lost_at : Image → Endings → ℕ → ℕ → Bool
lost_at image found n i = is_lost n (get_or found i None) (slot_at image.txs i)

-- "the unfinished running ones in image order"
unfoldable pub running_of : Image → Pass → List Transaction
running_of image p = filter_below (running_at image p.found) (transaction_at image) image.count

-- "the unfinished committing ones whose number exceeds the last commit number found"
abbrev pub lost_by : Image → Endings → ℕ → List Transaction
lost_by image found n = filter_below (lost_at image found n) (transaction_at image) image.count

-- "highest number first"
unfoldable pub lost_of : Image → Pass → List Transaction
lost_of image p = sort_desc (lost_by image p.found p.csn.0)

-- "Undo the unfinished running ones .., then the unfinished committing ones"
abbrev pub undone_of : Image → Pass → List Transaction
undone_of image p = running_of image p ++ lost_of image p
