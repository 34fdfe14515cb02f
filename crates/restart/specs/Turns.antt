-- What the contracts of the inner functions cite beside the steps: what they rest on, and single turns of their loops. `restart_of` has none
-- of it.
use Rattle.std.specs.Prelude.{ℕ, zero, suc, ◌+◌, ◌≤◌, ◌<◌, Bool, cond, not, ◌&&◌, List, [], ◌∷◌, map, ◌≡◌, length, get_or, take, drop, replicate, eqb, ltb, ◌==◌, Option as Maybe, Some, None, is_none, position, zip}
use Rattle.std.proofs.Math.Option.{Option, none, some}
use Rattle.std.proofs.lemmas.List.Edits.{sets}
use Rattle.layout.specs.{redo_len, max_txs, status_running, status_committing}
use Rattle.recovery.specs.Group.{Write, Group, committed, aborted, group_size, csn_after}
use Rattle.recovery.specs.Replay.{redo_all, lay_bytes}
use Rattle.recovery.specs.Restart.{group_id}
use Rattle.recovery.specs.Transaction.{Tx as Transaction}
use Rattle.redolog.specs.declared.TxId.{TxId}
use Rattle.redolog.specs.declared.Csn.{Csn}
use Rattle.redolog.specs.Record.{Record, redo, commit, abort, read_record}
use Rattle.redolog.specs.Reader.{whole}
use Rattle.redolog.specs.Group.{read_group}
use Rattle.redolog.specs.Log.{encode_log}
use Rattle.image.specs.declared.Image.{Image}
use Rattle.image.specs.declared.read.TxHead.{TxHead}
use Rattle.image.specs.Slots.{slot_at}
use Rattle.image.specs.Keys.{no_head}
use Rattle.restart.specs.declared.forward.Ending.{Ending}
use Rattle.restart.specs.declared.forward.Pass.{Pass}
use Rattle.restart.specs.declared.forward.Turn.{Turn}
use Rattle.restart.specs.declared.undo.Undone.{Undone}
use Rattle.restart.specs.Slots.{Slot}
use Rattle.restart.specs.Forward.{Went, Endings, open_at, ending_of, past, forward_of}
use Rattle.restart.specs.Undo.{undone_of}

-- of the image rules, what step 4 rests on: a running transaction has no number, a committing one has
pub record StatusByCsn (image : Image) : Type 0 where
  pub few : image.count ≤ max_txs
  pub running : (i : ℕ) → i < image.count → eqb (slot_at image.txs i).status status_running ≡ eqb (slot_at image.txs i).csn.0 0
  pub committing : (i : ℕ) → i < image.count → eqb (slot_at image.txs i).status status_committing ≡ not (eqb (slot_at image.txs i).csn.0 0)

-- a slot, if it is one, lies below n
abbrev pub Below : ℕ → Slot → Type 0
Below n None = Unit {0}
Below n (Some i) = i < n

-- ---- the redo records at the front of a list of bytes

-- of the record at the front, if it is a redo record: memory with it done, and its size
abbrev pub lay_front : Option Record → List ℕ → List ℕ
lay_front none m = m
lay_front (some (redo id w)) m = lay_bytes w m
lay_front (some (commit id n)) m = m
lay_front (some (abort id)) m = m

abbrev pub front_size : Option Record → ℕ
front_size none = 0
front_size (some (redo id w)) = redo_len + length w.bytes
front_size (some (commit id n)) = 0
front_size (some (abort id)) = 0

abbrev pub on_record : (ℕ → List ℕ → List Write) → ℕ → List ℕ → Option Record → List Write
on_record rest u s none = []
on_record rest u s (some (redo id w)) = w ∷ rest u (drop (redo_len + length w.bytes) s)
on_record rest u s (some (commit id n)) = []
on_record rest u s (some (abort id)) = []

abbrev pub redo_step : (ℕ → List ℕ → List Write) → ℕ → List ℕ → List Write
redo_step rest u s = on_record rest u s (read_record s)

-- the writes of the redo records at the front of s, up to the first place where none stands: of a whole group these are its writes
-- (front_body, proofs/RedoLaws.antt)
unfoldable pub front_writes : List ℕ → List Write
front_writes s = whole redo_step [] 0 s

-- ---- one group

-- where an id stands in a list of heads
abbrev pub slot_in : List TxHead → ℕ → Slot
slot_in txs id = position (λ t. t.key.id.0 == id) txs

-- the slot, if its transaction is unfinished
abbrev pub unfinished_at : Endings → Slot → Slot
unfinished_at found None = None
unfinished_at found (Some i) = cond (open_at found i) (Some i) None

-- what a turn of the pass leaves: memory without what is still to be undone; none where no group stands
pub record TurnEnd : Type 0 where
  pub memory : List ℕ
  pub turn : Maybe Turn

abbrev pub turn_end_by : List ℕ → Pass → Slot → TurnEnd
turn_end_by m p slot = record { memory = m; turn = Some (record { pass = p; undo = slot }) }

-- a commit is done, an abort not yet
abbrev pub redone : Group → List ℕ → List ℕ
redone (committed id csn ws) m = redo_all lay_bytes ws m
redone (aborted id) m = m

abbrev pub to_undo : List TxHead → Group → Endings → Slot
to_undo txs (committed id csn ws) found = None
to_undo txs (aborted id) found = unfinished_at found (slot_in txs id)

abbrev pub pass_by : List TxHead → Group → Pass → Pass
pass_by txs g p = past p (slot_in txs (group_id g)) (group_id g) (csn_after p.csn.0 g) (ending_of g) (p.end + group_size g)

-- past the group at the end reached, if one stands there
abbrev pub on_group : List TxHead → Option Group → Went → TurnEnd
on_group txs none w = record { memory = w.memory; turn = None }
on_group txs (some g) w = turn_end_by (redone g w.memory) (pass_by txs g w.pass) (to_undo txs g w.pass.found)

unfoldable pub turn_step : List TxHead → List ℕ → Went → TurnEnd
turn_step txs log w = on_group txs (read_group w.pass.csn.0 (drop w.pass.end log)) w

-- ---- the next one that step 4 undoes

-- unfinished and running, by its head and what was found of it
abbrev pub running_in : TxHead × Maybe Ending → Bool
running_in t = is_none t.1 && (t.0.key.csn.0 == 0)

-- the first one that is
abbrev pub first_running : List TxHead → Endings → Slot
first_running txs found = position running_in (zip txs found)

-- a slot, and the number that is the highest so far
pub record Best : Type 0 where
  pub at : Slot
  pub top : Csn

-- the better of b and a transaction of that number, which stands in slot i: one that is unfinished, with a higher number
unfoldable pub better_of : Csn → Maybe Ending → Best → ℕ → Best
better_of csn found b i = cond (is_none found && ltb b.top.0 csn.0) (record { at = Some i; top = csn }) b

-- the best of the first n slots: the unfinished one with the highest number above csn
abbrev pub best_of : List TxHead → Endings → Csn → ℕ → Best
best_of txs found csn zero = record { at = None; top = csn }
best_of txs found csn (suc n) = better_of (get_or txs n no_head).key.csn (get_or found n None) (best_of txs found csn n) n

-- the first running one; if none is left, the committing one with the highest number
abbrev pub or_best : Slot → Best → Slot
or_best (Some i) b = Some i
or_best None b = b.at

abbrev pub next_of : List TxHead → Endings → Csn → Slot
next_of txs found csn = or_best (first_running txs found) (best_of txs found csn (length txs))

-- ---- those undone

abbrev pub tx_id_of : Transaction → TxId
tx_id_of t = record { 0 = t.id }

unfoldable pub undone_list : List Transaction → Undone
undone_list ts = record { count = length ts; ids = sets (replicate max_txs (record { 0 = 0 })) 0 (map tx_id_of ts) }

-- the ids of those that step 4 undoes
unfoldable pub undone_ids : Image → List ℕ → List ℕ → List TxId
undone_ids image log m = (undone_list (undone_of image (forward_of image log m).pass)).ids

-- the abort records of the first n of these ids, at the front of a tail
abbrev pub abort_of : TxId → Group
abort_of id = aborted id.0

unfoldable pub aborts_laid : List TxId → ℕ → List ℕ → List ℕ
aborts_laid ids n tail = sets tail 0 (encode_log (map abort_of (take n ids)))
