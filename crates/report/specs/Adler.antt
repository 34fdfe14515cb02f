-- Adler-32 (RFC 1950): "s1 is the sum of all bytes, s2 is the sum of all s1 values. Both sums are done modulo 65521. s1 is initialized to 1,
-- s2 to zero. The Adler-32 checksum is stored as s2*65536 + s1".
use Rattle.std.specs.Prelude.{ℕ, ◌+◌, ◌*◌, ◌%◌, List, [], ◌∷◌}

pub record Sums : Type 0 where
  pub s1 : ℕ
  pub s2 : ℕ

abbrev pub plus_byte : Sums → ℕ → Sums
plus_byte s x = record { s1 = (s.s1 + x) % 65521; s2 = (s.s2 + (s.s1 + x) % 65521) % 65521 }

abbrev pub sums : Sums → List ℕ → Sums
sums s [] = s
sums s (x ∷ xs) = sums (plus_byte s x) xs

abbrev pub joined : Sums → ℕ
joined s = s.s2 * 65536 + s.s1

unfoldable pub adler_of : List ℕ → ℕ
adler_of bytes = joined (sums (record { s1 = 1; s2 = 0 }) bytes)
