-- Texts at their limits. Document 01's text of M1's disk is a row of history's table (history, specs/Cases.antt).
use Prim.Native.Nat.{ℕ}
use mathlib.Core.List.{List, ◌++◌}
use mathlib.Core.Path.{◌≡◌, refl}
use lib.ListN.{length}
use borrow.Author.Tests.{ne_eqb}
use Rattle.redolog.specs.declared.stop.Stop.TheVariants.{Full}
use Rattle.std.specs.Prelude.{Some}
use Rattle.disk.specs.Restart.{restart_of}
use Rattle.text.specs.{ascii, decimal}
use Rattle.listing.specs.Lines.{line, found_text, stop_line, refused_text}
use Rattle.listing.specs.Listing.{listing_of}

-- the longest numbers that a disk can give
longest : found_text 2 16384 4294967295 65535 8 ++ stop_line (Some Full)
    ≡ ascii "pointer=2\nend=16384\ncsn=4294967295\nid=65535\nundone=8\nstop=full\n"
unfolding found_text stop_line line decimal
longest = refl

-- "a wrong input length is 1"
wrong_length : (disk : List ℕ) → (length disk ≡ 33691 → ⊥) → listing_of disk ≡ ascii "refused=1\n"
unfolding listing_of restart_of refused_text line decimal
wrong_length disk h = rw (ne_eqb (length disk) 33691 h)
