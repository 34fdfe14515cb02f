-- Texts put into a buffer one after another.
use Prim.Native.Nat.{ℕ, ◌+◌}
use native.Mathlib.Omega.{arith}
use mathlib.Core.List.{List, [], ◌∷◌, ◌++◌}
use mathlib.Core.Path.{◌≡◌, refl, sym, ap₂, ◌∙◌}
use lib.ListN.{length, set, length-append}
use lib.Seq.{sets}
use Rattle.redolog.proofs.StoreLaws.{sets_append}
use Rattle.text.specs.{Put}

pub put_one : (b : List ℕ) (at v : ℕ) → Put b at (v ∷ []) (at + 1) (set b at v)
put_one b at v = record { bytes = refl; ends = refl }

pub put_then : {b b' b'' x y : List ℕ} {at e e' : ℕ} → Put b at x e b' → Put b' e y e' b'' → Put b at (x ++ y) e' b''
put_then {b} {b'} {b''} {x} {y} {at} {e} p q = record {
  bytes = q.bytes ∙ ap₂ (λ (l : List ℕ) (i : ℕ). sets l i y) p.bytes p.ends ∙ sym (sets_append b at x y);
  ends = omega (arith, p.ends, q.ends, length-append x y);
}

-- a copy is a text put
pub put_copy : (b : List ℕ) (at : ℕ) (text b' : List ℕ) → b' ≡ sets b at text → Put b at text (at + length text) b'
put_copy b at text b' e = record { bytes = e; ends = refl }
