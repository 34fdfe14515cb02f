-- Why a log ends where it does: "log full, a zero first byte, or a record or group that is broken or unfinished" (document 02, A.1).
use Rattle.std.specs.Prelude.{ℕ, cond, List, [], ◌∷◌, eqb}
use Rattle.redolog.specs.declared.stop.Stop.{Stop}
use Rattle.redolog.specs.declared.stop.Stop.TheVariants.{Full, Zero, Torn}

-- "The place where the log ends decides": what is left there. "Full before zero before torn".
unfoldable pub stop_of : List ℕ → Stop
stop_of [] = Full
stop_of (b ∷ s) = cond (eqb b 0) Zero Torn
