-- The image at the front of a list of bytes, in flat arrays.
use Rattle.std.specs.Prelude.{Bool, true, false, List, ℕ}
use Rattle.std.proofs.Math.Option.{Option, none, some}
use Rattle.image.specs.declared.Image.{Image}
use Rattle.image.specs.Content.{Content}
use Rattle.image.specs.Reading.{read_image}
use Rattle.image.specs.Pack.{packed, empty_image}

-- an image; all zero where none that keeps the rules could be read
pub record Decoded : Type 0 where
  pub ok : Bool
  pub image : Image

unfoldable pub not_decoded : Decoded
not_decoded = record { ok = false; image = empty_image }

abbrev pub decoded_of : Option Content → Decoded
decoded_of none = not_decoded
decoded_of (some c) = record { ok = true; image = packed c }

abbrev pub decode_of : List ℕ → Decoded
decode_of s = decoded_of (read_image s)
