-- The interface's version and the bytes of a state in it.
use Rattle.std.specs.Prelude.{ℕ}

-- major × 10,000 + minor × 100 + patch
abbrev pub version : ℕ
version = 800

-- of `State`, laid out by C's rules; that it has so many is no claim of the proof: tests/c/layout.c measures it
abbrev pub state_len : ℕ
state_len = 9552
