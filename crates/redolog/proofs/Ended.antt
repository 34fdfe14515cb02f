-- Where a log ends no whole group stands, whatever its number: so it is still where the bytes from any place on are zeroed, and where the first bytes
-- of groups were written over zeros.
use Prim.Native.Nat.{ℕ, ◌+◌, ◌-◌, ◌≤◌}
use native.Mathlib.Decide.{dec_le}
use native.Mathlib.Omega.{arith}
use mathlib.Core.Bool.{true}
use mathlib.Core.List.{List, [], ◌∷◌, ◌++◌, append-nil}
use mathlib.Core.Option.{none}
use mathlib.Core.Path.{◌≡◌, sym, ap, ◌∙◌, subst}
use lib.ListN.{length, take, drop, replicate, drop_of_length-le}
use lib.Seq.{drop-drop}
use borrow.Author.Tests.{le-leb, lt-leb}
use Rattle.recovery.specs.Group.{Group, group_size, groups_size, fitting}
use Rattle.redolog.specs.Group.{group_with}
use Rattle.redolog.specs.Log.{next_after, read_log_with, read_log, encode_log, well_formed_log}
use Rattle.redolog.proofs.GroupLaws.{group_with_within}
use Rattle.redolog.proofs.LogLaws.{log_with_inv, log_next}
use Rattle.redolog.proofs.RoundTrip.{length_log}
use Rattle.redolog.proofs.Torn.{zeros_none, group_torn_none, torn_none, torn_rest, log_padded}

-- no whole group of any number stands at the front of s
abbrev pub Groupless : List ℕ → Type 0
Groupless s = (n : ℕ) → group_with n s ≡ none

pub zeros_groupless : (m : ℕ) → Groupless (replicate m 0)
zeros_groupless m n = zeros_none n m

-- the first j bytes of s, and zeros: behind the groups that fit
log_with_ended : (next : ℕ) (gs : List Group) (s : List ℕ) (j m : ℕ) → read_log_with next s ≡ gs → Groupless (drop (groups_size gs) s)
    → Groupless (drop (groups_size (fitting j gs)) (take j s ++ replicate m 0))
log_with_ended next [] s j m e h = λ n. group_torn_none n s j m (h n)
log_with_ended next (g ∷ gs) s j m e h =
    let i = log_with_inv next s g gs e in
    let w = group_with_within next s g i.0 in
    elim (dec_le (group_size g) j) [
      | yes p ↦
          let rest = drop (group_size g) s in
          let end : Groupless (drop (groups_size gs) rest) = λ n. ap (group_with n) (drop-drop (groups_size gs) (group_size g) s) ∙ h n in
          let k : ℕ = groups_size (fitting (j - group_size g) gs) in
          let same : drop (group_size g + k) (take j s ++ replicate m 0) ≡ drop k (take (j - group_size g) rest ++ replicate m 0) =
          sym (drop-drop k (group_size g) (take j s ++ replicate m 0)) ∙ ap (drop k) (torn_rest next s j m (group_size g) p (omega arith)) in
          rw (le-leb (group_size g) j p)
          (λ n. ap (group_with n) same ∙ log_with_ended (next_after next g) gs rest (j - group_size g) m i.1 end n)
      | no q ↦ rw (lt-leb (group_size g) j (omega (arith, q))) (λ n. torn_none n s j m next g i.0 (omega (arith, q)))
    ]

pub log_ended : (prev : ℕ) (gs : List Group) (s : List ℕ) (j m : ℕ) → read_log prev s ≡ gs → Groupless (drop (groups_size gs) s)
    → Groupless (drop (groups_size (fitting j gs)) (take j s ++ replicate m 0))
log_ended prev gs s j m e h = log_with_ended (prev + 1) gs s j m (sym (log_next prev s) ∙ e) h

-- of groups that were written: the first j bytes of them, and zeros
pub cut_ended : (prev : ℕ) (gs : List Group) (j m : ℕ) → well_formed_log prev gs ≡ true
    → Groupless (drop (groups_size (fitting j gs)) (take j (encode_log gs) ++ replicate m 0))
cut_ended prev gs j m h =
    let whole : read_log prev (encode_log gs) ≡ gs = ap (read_log prev) (sym (append-nil (encode_log gs))) ∙ log_padded prev gs 0 h in
    let l : length (encode_log gs) ≤ groups_size gs = omega (arith, length_log gs) in
    log_ended prev gs (encode_log gs) j m whole (subst Groupless (sym (drop_of_length-le (encode_log gs) {i = groups_size gs} l)) (zeros_groupless 0))
