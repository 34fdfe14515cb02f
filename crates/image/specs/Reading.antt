-- What stands at the front of a list of bytes: undo records, transactions, an image. A count says how many follow, so each reader recurses
-- on it. Counts and lengths are tested before they are stepped over, so that a reading lies within the list.
use Rattle.std.specs.Prelude.{ℕ, zero, suc, ◌+◌, Bool, cond, ◌&&◌, List, [], length, get_or, take, drop, leb}
use Rattle.std.proofs.Math.Option.{Option, none, some}
use Rattle.layout.specs.{memory_len, counters_len, txs_start, tx_head_len, undo_head_len, max_txs, max_records}
use Rattle.recovery.specs.Group.{Write}
use Rattle.redolog.specs.Number.{be16, be32}
use Rattle.redolog.specs.Record.{in_range}
use Rattle.redolog.specs.Group.{and_then}
use Rattle.image.specs.Content.{Saved, saved, Content, content_ok}
use Rattle.image.specs.Format.{tx_size}

-- an undo record stands at the front of s: its range keeps the rule and its bytes are there
unfoldable pub undo_here : List ℕ → Bool
undo_here s = in_range (be16 s 0) (get_or s 2 0) && leb (undo_head_len + get_or s 2 0) (length s)

abbrev pub first_undo : List ℕ → Write
first_undo s = record { addr = be16 s 0; bytes = take (get_or s 2 0) (drop undo_head_len s) }

-- n undo records
abbrev pub read_undos : ℕ → List ℕ → Option (List Write)
read_undos zero s = some []
read_undos (suc n) s = cond (undo_here s) (and_then (first_undo s) (read_undos n (drop (undo_head_len + get_or s 2 0) s))) none

abbrev pub saved_if : ℕ → ℕ → ℕ → Option (List Write) → Option Saved
saved_if id status csn none = none
saved_if id status csn (some us) = some (saved id status csn us)

-- a transaction of at most 16 undo records
unfoldable pub read_tx : List ℕ → Option Saved
read_tx s =
    cond (leb tx_head_len (length s) && leb (get_or s 7 0) max_records)
    (saved_if (be16 s 0) (get_or s 2 0) (be32 s 3) (read_undos (get_or s 7 0) (drop tx_head_len s)))
    none

abbrev pub on_tx : (List ℕ → Option (List Saved)) → List ℕ → Option Saved → Option (List Saved)
on_tx rest s none = none
on_tx rest s (some t) = and_then t (rest (drop (tx_size t) s))

-- n transactions
abbrev pub read_txs : ℕ → List ℕ → Option (List Saved)
read_txs zero s = some []
read_txs (suc n) s = on_tx (read_txs n) s (read_tx s)

abbrev pub content_if : ℕ → ℕ → ℕ → ℕ → Option (List Saved) → Option Content
content_if logend ondisk assigned lastid none = none
content_if logend ondisk assigned lastid (some ts) =
    some (record { logend = logend; ondisk = ondisk; assigned = assigned; lastid = lastid; txs = ts })

-- all that an image of at most 8 transactions holds
unfoldable pub read_content : List ℕ → Option Content
read_content s =
    cond (leb txs_start (length s) && leb (get_or s 12 0) max_txs)
    (content_if (be16 s 0) (be32 s 2) (be32 s 6) (be16 s 10) (read_txs (get_or s 12 0) (drop txs_start s)))
    none

abbrev pub keeping_rules : Option Content → Option Content
keeping_rules none = none
keeping_rules (some c) = cond (content_ok c) (some c) none

-- the image at the front of s, if there is one that keeps the image rules (else number 4)
abbrev pub read_image : List ℕ → Option Content
read_image s = keeping_rules (read_content s)

-- "the 4,096 memory bytes" of an image
unfoldable pub memory_of : List ℕ → List ℕ
memory_of s = take memory_len (drop counters_len s)
