-- Adler-32 byte by byte.
use Prim.Native.Nat.{ℕ, ◌+◌, ◌≤◌, ◌<◌}
use native.Mathlib.Numerals.{add-one}
use mathlib.Core.List.{List, [], ◌∷◌}
use mathlib.Core.Path.{◌≡◌, refl, sym, ap, ◌∙◌}
use lib.ListN.{length, get_or, drop, drop_of_length-le}
use lib.Seq.{drop-cons}
use Rattle.report.specs.Adler.{Sums, plus_byte, sums, adler_of}

pub sums_more : (t : Sums) (s : List ℕ) (i : ℕ) → i < length s → sums t (drop i s) ≡ sums (plus_byte t (get_or s i 0)) (drop (i + 1) s)
sums_more t s i h = ap (sums t) (drop-cons s i 0 h) ∙ ap (λ (n : ℕ). sums (plus_byte t (get_or s i 0)) (drop n s)) (sym (add-one i))

pub sums_done : (t : Sums) (s : List ℕ) (i : ℕ) → length s ≤ i → sums t (drop i s) ≡ t
sums_done t s i h = ap (sums t) (drop_of_length-le s {i = i} h)

-- the checksum of "abc", 0x024d0127
abc : adler_of (97 ∷ 98 ∷ 99 ∷ []) ≡ 0x024d0127
unfolding adler_of
abc = refl
