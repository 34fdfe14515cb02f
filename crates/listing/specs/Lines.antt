-- The lines of disklist's text.
use Rattle.std.specs.Prelude.{ℕ, List, [], ◌∷◌, ◌++◌, Option, Some, None}
use Rattle.redolog.specs.declared.stop.Stop.{Stop}
use Rattle.redolog.specs.declared.stop.Stop.TheVariants.{Full, Zero, Torn}
use Rattle.text.specs.{ascii, decimal}

-- a name, a number, a line feed
unfoldable pub line : List ℕ → ℕ → List ℕ
line name n = name ++ (decimal n ++ (10 ∷ []))

-- "The lines are the pointer byte, the log's end counted from its first place, the last commit number, the last id, and the transactions
-- undone in step 4."
unfoldable pub found_text : ℕ → ℕ → ℕ → ℕ → ℕ → List ℕ
found_text pointer end csn id undone =
    line (ascii "pointer=") pointer ++ (line (ascii "end=") end ++ (line (ascii "csn=") csn ++ (line (ascii "id=") id ++ line (ascii "undone=") undone)))

-- "A sixth line, stop=full, stop=zero or stop=torn" (document 02, A.1)
abbrev pub stop_text : Stop → List ℕ
stop_text Full = ascii "stop=full\n"
stop_text Zero = ascii "stop=zero\n"
stop_text Torn = ascii "stop=torn\n"

unfoldable pub stop_line : Option Stop → List ℕ
stop_line None = []
stop_line (Some stop) = stop_text stop

-- "A refusal prints only refused= and its number"
unfoldable pub refused_text : ℕ → List ℕ
refused_text n = line (ascii "refused=") n
