use Rattle.std.proofs.Common.{◌≡◌, take}
use Rattle.std.proofs.lemmas.List.Edits.{sets}
use Rattle.redolog.proofs.stores.copy.Given as goal

-- so many bytes are laid
abbrev pub invariant-loop-i : goal.invariant-loop-i
invariant-loop-i l = l.b ≡ sets l.fn.b l.at (take l.i l.src)
