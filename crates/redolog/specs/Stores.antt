-- Stores of bytes in order. A call that may make n of them makes the first n: `apply (take n stores)`.
use Rattle.std.specs.Prelude.{ℕ, zero, suc, ◌+◌, min, List, [], ◌∷◌, ◌++◌, length, drop, set, replicate}

-- an offset and the byte stored there
pub data Store : Type 0 where
  store : ℕ → ℕ → Store

abbrev pub apply : List Store → List ℕ → List ℕ
apply [] b = b
apply (store i v ∷ ss) b = apply ss (set b i v)

-- bytes one after the other, upward from an offset
abbrev pub copies : ℕ → List ℕ → List Store
copies at [] = []
copies at (v ∷ vs) = store at v ∷ copies (suc at) vs

-- zeros at the n offsets from low on, the highest first
abbrev pub clears : ℕ → ℕ → List Store
clears low zero = []
clears low (suc n) = store (low + n) 0 ∷ clears low n

-- a buffer without its first n bytes, moved to the front, and zeros up to its length
unfoldable pub shifted : ℕ → List ℕ → List ℕ
shifted n b = drop n b ++ replicate (min n (length b)) 0
