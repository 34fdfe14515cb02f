-- The image rules: of an image on disk (number 4) and of a state (number 2) alike.
use Rattle.std.specs.Prelude.{ℕ, Bool, true, not, ◌&&◌, List, [], ◌∷◌, length, leb}
use Rattle.layout.specs.{log_len, max_txs}
use Rattle.recovery.specs.Lists.{any}
use Rattle.transaction.specs.Lists.{every}
use Rattle.transaction.specs.View.{Outline, outline}
use Rattle.transaction.specs.Rules.{outline_ok, alike}
use Rattle.image.specs.declared.Image.{Image}
use Rattle.image.specs.Slots.{outlined}

-- "ids distinct", commit numbers "no two alike": each differs from those after it
abbrev pub alike_to : Outline → Outline → Bool
alike_to (outline id status csn undo) t = alike id csn t

abbrev pub distinct : List Outline → Bool
distinct [] = true
distinct (t ∷ ts) = not (any (alike_to t) ts) && distinct ts

abbrev pub outlines_ok : ℕ → ℕ → List Outline → Bool
outlines_ok last assigned ts = every (outline_ok last assigned) ts && distinct ts

-- "log end ≤ 16,384; number on disk ≤ number assigned; at most 8 transactions"
abbrev pub bounds_ok : ℕ → ℕ → ℕ → ℕ → Bool
bounds_ok logend ondisk assigned count = leb logend log_len && leb ondisk assigned && leb count max_txs

abbrev pub image_ok : ℕ → ℕ → ℕ → ℕ → List Outline → Bool
image_ok logend ondisk assigned last ts = bounds_ok logend ondisk assigned (length ts) && outlines_ok last assigned ts

abbrev pub keeps_rules : Image → Bool
keeps_rules i = image_ok i.logend i.ondisk.0 i.assigned.0 i.lastid.0 (outlined i.txs i.count)
