-- Laws of a disk's form and its length.
use Prim.Native.Nat.{ℕ}
use mathlib.Core.Bool.{true}
use mathlib.Core.Path.{◌≡◌, refl, sym, ap, ◌∙◌}
use borrow.Author.Tests.{eqb-true}
use Rattle.layout.specs.{disk_len}
use Rattle.layout.specs.Parts.{form_by, length_by, disk_ok}
use Rattle.layout.specs.declared.Form.{Form}
use Rattle.layout.specs.declared.Form.TheVariants.{One, Two}

-- the length that a form has tells it
pub form_by_lem : (form : Form) → form_by (length_by form) ≡ form
form_by_lem One = refl
form_by_lem Two = refl

-- a length that number 1 lets pass is that of its form
pub disk_ok_lem : (n : ℕ) → disk_ok n ≡ true → n ≡ length_by (form_by n)
unfolding disk_ok
disk_ok_lem n e = let k = eqb-true n disk_len e in k ∙ sym (ap (λ (m : ℕ). length_by (form_by m)) k)
