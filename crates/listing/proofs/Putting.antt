-- What is put of a disk's text: at the front of zeros, and how long.
use Prim.Native.Nat.{ℕ, ◌+◌, ◌-◌, ◌≤◌, ◌<◌}
use native.Mathlib.Omega.{arith}
use mathlib.Core.List.{List, ◌++◌}
use mathlib.Core.Path.{◌≡◌, sym, ap, ap₂, ◌∙◌}
use lib.ListN.{length, take, drop, replicate, length-append, length-replicate}
use lib.Seq.{sets-eq, take-append_seam}
use Rattle.redolog.proofs.StoreLaws.{drop_zeros}
use Rattle.redolog.specs.declared.stop.Stop.{Stop}
use Rattle.redolog.specs.declared.stop.Stop.TheVariants.{Full, Zero, Torn}
use Rattle.text.specs.{ascii, decimal, Put}
use Rattle.text.proofs.Decimal.{power_of_ten, decimal_short}
use Rattle.listing.specs.Lines.{line, found_text, stop_text, refused_text}
use Rattle.listing.specs.Listing.{padded, Printed}

-- a text at the front of zeros
pub put_front : {b text out : List ℕ} {r : ℕ} → b ≡ replicate 80 0 → length text ≤ 80 → Put b 0 text r out → Printed text r out
put_front {b} {text} {out} {r} e h p =
    let l : length b ≡ 80 = ap length e ∙ length-replicate {A = ℕ} 80 0 in
    let z : 0 + length text ≡ length text = omega arith in
    let n : r ≡ length text = omega (arith, p.ends) in
    let o : out ≡ padded text =
    p.bytes ∙ sets-eq text b 0 (omega arith) ∙ ap₂ (λ (k : ℕ) (d : List ℕ). text ++ drop k d) z e
    ∙ ap (λ (d : List ℕ). text ++ d) (drop_zeros (length text) 80) in
    record {
      size = n;
      bytes = o;
      within = omega (arith, ap length o, length-append text (replicate (80 - length text) 0));
      part = n ∙ sym (ap length (ap₂ take n o ∙ take-append_seam text (replicate (80 - length text) 0)));
    }

-- ---- lengths: each line of a disk's numbers, and what they come to

pub length_line : (name : List ℕ) (n : ℕ) → length (line name n) ≡ length name + length (decimal n) + 1
unfolding line
length_line name n = simp length-append (omega arith)

pub line_short : (k : ℕ) (name : List ℕ) (n : ℕ) → n < power_of_ten k → length (line name n) ≤ length name + k + 2
line_short k name n h = omega (arith, length_line name n, decimal_short k n h)

pub record Short (pointer end csn id undone : ℕ) : Type 0 where
  pub pointer_line : length (line (ascii "pointer=") pointer) ≤ 12
  pub end_line : length (line (ascii "end=") end) ≤ 10
  pub csn_line : length (line (ascii "csn=") csn) ≤ 15
  pub id_line : length (line (ascii "id=") id) ≤ 9
  pub undone_line : length (line (ascii "undone=") undone) ≤ 12

pub lines_short : (pointer end csn id undone : ℕ) → pointer < 256 → end < 65536 → csn < 4294967296 → id < 65536 → undone ≤ 4096
    → Short pointer end csn id undone
lines_short pointer end csn id undone p e c i u = record {
  pointer_line = line_short 2 (ascii "pointer=") pointer (omega arith);
  end_line = line_short 4 (ascii "end=") end (omega arith);
  csn_line = line_short 9 (ascii "csn=") csn (omega arith);
  id_line = line_short 4 (ascii "id=") id (omega arith);
  undone_line = line_short 3 (ascii "undone=") undone (omega arith);
}

pub found_short : {pointer end csn id undone : ℕ} → Short pointer end csn id undone → length (found_text pointer end csn id undone) ≤ 58
unfolding found_text
found_short s = simp length-append (omega arith)

pub stop_short : (stop : Stop) → length (stop_text stop) ≤ 10
stop_short Full = omega arith
stop_short Zero = omega arith
stop_short Torn = omega arith

pub text_short : {pointer end csn id undone : ℕ} → Short pointer end csn id undone → (stop : Stop)
    → length (found_text pointer end csn id undone ++ stop_text stop) ≤ 80
text_short {pointer} {end} {csn} {id} {undone} s stop =
    omega (arith, length-append (found_text pointer end csn id undone) (stop_text stop), found_short s, stop_short stop)

pub refused_short : (n : ℕ) → n < 256 → length (refused_text n) ≤ 80
unfolding refused_text
refused_short n h = omega (arith, line_short 2 (ascii "refused=") n (omega arith))
