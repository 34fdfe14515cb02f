-- Text in ASCII: numbers in decimal, and a text put into a buffer.
use Rattle.std.specs.Prelude.{ℕ, zero, suc, ◌+◌, ◌/◌, ◌%◌, true, false, List, [], ◌∷◌, ◌++◌, ◌≡◌, length, ltb}
use Prim.Native.Char.{code}
use Prim.Native.String.{String, [] as no_text, ◌∷◌ as ◌followed-by◌}
use Rattle.std.proofs.lemmas.List.Edits.{sets}

-- the codes of a text's characters
abbrev pub ascii : String → List ℕ
ascii no_text = []
ascii (c followed-by s) = code c ∷ ascii s

-- n in decimal, if it has at most so many digits: below 10 its one digit, else n / 10 in decimal and the digit n % 10
abbrev pub spelled : ℕ → ℕ → List ℕ
spelled zero n = []
spelled (suc k) n = elim (ltb n 10) [ true ↦ (48 + n) ∷ [] | false ↦ spelled k (n / 10) ++ ((48 + n % 10) ∷ []) ]

-- without leading zeros; no number has more digits than itself plus 1
unfoldable pub decimal : ℕ → List ℕ
decimal n = spelled (suc n) n

-- a text put into a buffer from at on, and where it ends
pub record Put (old : List ℕ) (at : ℕ) (text : List ℕ) (end : ℕ) (new : List ℕ) : Type 0 where
  pub bytes : new ≡ sets old at text
  pub ends : end ≡ at + length text
