-- Restart's step 1, as a function of the disk alone, with numbers 3 and 4. All that is read of a disk is what it opens.
use Rattle.std.specs.Prelude.{ℕ, true, cond, List, [], replicate, eqb, ltb}
use Rattle.layout.specs.{memory_len, names_b}
use Rattle.layout.specs.Parts.{pointer_of, image_part}
use Rattle.image.specs.declared.Image.{Image}
use Rattle.image.specs.Reading.{memory_of}
use Rattle.image.specs.Pack.{empty_image}
use Rattle.image.specs.Decode.{Decoded, decode_of}
use Rattle.disk.specs.Layout.{log_from}

pub record Loaded : Type 0 where
  pub decoded : Decoded
  pub memory : List ℕ

-- "Take the image named (none: zero memory, counters 0, no transactions, log end 0)."
abbrev pub no_image : Loaded
no_image = record { decoded = record { ok = true; image = empty_image }; memory = replicate memory_len 0 }

abbrev pub image_named : ℕ → List ℕ → Loaded
image_named pointer disk = record { decoded = decode_of (image_part pointer disk); memory = memory_of (image_part pointer disk) }

unfoldable pub load_of : ℕ → List ℕ → Loaded
load_of pointer disk = cond (eqb pointer 0) no_image (image_named pointer disk)

-- the number that refuses, 0 for none; the image, its memory, and the log from the image's place on
pub record OpenedDisk : Type 0 where
  pub number : ℕ
  pub image : Image
  pub memory : List ℕ
  pub log : List ℕ

-- its "3, 4 and 5 zero memory"
unfoldable pub not_opened : ℕ → OpenedDisk
not_opened n = record { number = n; image = empty_image; memory = replicate memory_len 0; log = [] }

-- "handing on the log from the image's place"
abbrev pub opened_by : Loaded → List ℕ → OpenedDisk
opened_by l disk = record { number = 0; image = l.decoded.image; memory = l.memory; log = log_from l.decoded.image.logend disk }

-- "4. Restart: the image breaks a rule."
abbrev pub of_loaded : Loaded → List ℕ → OpenedDisk
of_loaded l disk = cond l.decoded.ok (opened_by l disk) (not_opened 4)

-- "3. Restart: the pointer byte exceeds 2."
unfoldable pub open_of : List ℕ → OpenedDisk
open_of disk = cond (ltb names_b (pointer_of disk)) (not_opened 3) (of_loaded (load_of (pointer_of disk) disk) disk)
