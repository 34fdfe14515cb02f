-- What restart looks at in an image: its counters, the keys of its transactions, and where each begins among their bytes.
use Rattle.std.specs.Prelude.{ℕ, ◌+◌, cond, List, [], ◌∷◌, map, ◌≡◌, length, get_or, replicate, Option as Maybe, Some, None}
use Rattle.std.proofs.Math.Option.{Option, none, some}
use Rattle.std.proofs.lemmas.List.Edits.{sets}
use Rattle.layout.specs.{tx_head_len, undo_head_len, max_txs, max_records}
use Rattle.recovery.specs.Group.{Write}
use Rattle.transaction.specs.declared.Key.{Key}
use Rattle.transaction.specs.Lists.{every}
use Rattle.transaction.specs.Rules.{outline_ok}
use Rattle.image.specs.declared.Image.{Image}
use Rattle.image.specs.declared.read.TxHead.{TxHead}
use Rattle.image.specs.declared.read.Heads.{Heads}
use Rattle.image.specs.Keys.{no_head}
use Rattle.image.specs.Content.{Saved, saved, Content, outline_in}
use Rattle.image.specs.Format.{undos_in, undos_size, tx_size}
use Rattle.image.specs.Reading.{undo_here, read_txs, read_image}
use Rattle.image.specs.Pack.{packed}

-- ---- sizes of what stands at the front, none of what does not

unfoldable pub undo_size : List ℕ → Maybe ℕ
undo_size s = cond (undo_here s) (Some (undo_head_len + get_or s 2 0)) None

-- counted from the transaction's first byte
abbrev pub undos_end : Option (List Write) → Maybe ℕ
undos_end none = None
undos_end (some us) = Some (tx_head_len + undos_size us)

abbrev pub tx_span : Option Saved → Maybe ℕ
tx_span none = None
tx_span (some t) = Some (tx_size t)

-- of a transaction that keeps the rules by itself
abbrev pub ruled_span : ℕ → ℕ → Option Saved → Maybe ℕ
ruled_span last assigned none = None
ruled_span last assigned (some t) = cond (outline_ok last assigned (outline_in t)) (Some (tx_size t)) None

-- ---- transactions listed

-- those read, if each keeps the rules by itself
abbrev pub ruled : ℕ → ℕ → Option (List Saved) → Option (List Saved)
ruled last assigned none = none
ruled last assigned (some ts) = cond (every (outline_ok last assigned) (map outline_in ts)) (some ts) none

abbrev pub saved_key : Saved → Key
saved_key (saved id status csn us) = record { id = record { 0 = id }; csn = record { 0 = csn } }

-- the key of each and where it begins, the first of them at this place
abbrev pub heads_from : ℕ → List Saved → List TxHead
heads_from at [] = []
heads_from at (t ∷ ts) = record { key = saved_key t; at = at } ∷ heads_from (at + tx_size t) ts

-- in the first slots
unfoldable pub tx_heads : List Saved → List TxHead
tx_heads ts = sets (replicate max_txs no_head) 0 (heads_from 0 ts)

abbrev pub listed_of : Option (List Saved) → Maybe (List TxHead)
listed_of none = None
listed_of (some ts) = Some (tx_heads ts)

-- ---- an image

-- of no image
unfoldable pub blank_heads : Heads
blank_heads =
    record {
      counters = record { logend = 0; ondisk = record { 0 = 0 }; assigned = record { 0 = 0 }; lastid = record { 0 = 0 }; count = 0 };
      txs = replicate max_txs no_head;
    }

abbrev pub heads_in : Content → Heads
heads_in c =
    record {
      counters = record {
        logend = c.logend;
        ondisk = record { 0 = c.ondisk };
        assigned = record { 0 = c.assigned };
        lastid = record { 0 = c.lastid };
        count = length c.txs;
      };
      txs = tx_heads c.txs;
    }

abbrev pub heads_if : Option Content → Maybe Heads
heads_if none = None
heads_if (some c) = Some (heads_in c)

-- of the image at the front of s, if there is one that keeps the rules
abbrev pub heads_of : List ℕ → Maybe Heads
heads_of s = heads_if (read_image s)

-- ---- the image that heads show of the bytes of its transactions

abbrev pub or_none : Option (List Saved) → List Saved
or_none none = []
or_none (some ts) = ts

abbrev pub content_by : Heads → List ℕ → Content
content_by h s =
    record {
      logend = h.counters.logend;
      ondisk = h.counters.ondisk.0;
      assigned = h.counters.assigned.0;
      lastid = h.counters.lastid.0;
      txs = or_none (read_txs h.counters.count s);
    }

unfoldable pub image_by : Heads → List ℕ → Image
image_by h s = packed (content_by h s)

-- their keys and places are those of the transactions that are read there
pub record HeadsFit (h : Heads) (s : List ℕ) : Type 0 where
  pub txs : List Saved
  pub read : read_txs h.counters.count s ≡ some txs
  pub heads : h.txs ≡ tx_heads txs

-- ---- undo records in place

abbrev pub undo_starts : ℕ → List Write → List ℕ
undo_starts at [] = []
undo_starts at (u ∷ us) = at ∷ undo_starts (at + (undo_head_len + length u.bytes)) us

abbrev pub undo_places : Option (List Write) → List ℕ
undo_places none = replicate max_records 0
undo_places (some us) = sets (replicate max_records 0) 0 (undo_starts tx_head_len us)

abbrev pub undos_read : Option Saved → List Write
undos_read none = []
undos_read (some t) = undos_in t
