-- A group appended to a log that zeros follow is read after the groups that stood there, and zeros follow it.
use Prim.Native.Nat.{ℕ, zero, suc, ◌+◌, ◌≤◌}
use native.Mathlib.Omega.{arith}
use mathlib.Core.Bool.{true}
use mathlib.Core.List.{List, [], ◌∷◌, ◌++◌, append_assoc}
use mathlib.Core.Path.{◌≡◌, refl, sym, ap, ◌∙◌}
use lib.ListN.{length, get_or, take, drop}
use lib.Seq.{sets, sets-eq, take_at, drop_at, drop-drop, length-take-le}
use borrow.Author.Tests.{eqb-true}
use Rattle.recovery.specs.Group.{Group, group_size, groups_size, csn_after, last_csn}
use Rattle.redolog.specs.Group.{encode_group, well_formed_group}
use Rattle.redolog.specs.Log.{read_log}
use Rattle.redolog.proofs.RecordLaws.{record_none}
use Rattle.redolog.proofs.GroupLaws.{group_none}
use Rattle.redolog.proofs.LogLaws.{log_none}
use Rattle.redolog.proofs.RoundTrip.{length_group, log_after, log_same}
use Rattle.redolog.proofs.Basics.{and_left, and_right}
use Rattle.store.specs.Rules.{is_zero, all_zero}

-- ---- zeros

zero_at : (bs : List ℕ) (i : ℕ) → all_zero bs ≡ true → get_or bs i 0 ≡ 0
zero_at [] i e = refl
zero_at (b ∷ bs) zero e = eqb-true b 0 (and_left (is_zero b) (all_zero bs) e)
zero_at (b ∷ bs) (suc i) e = zero_at bs i (and_right (is_zero b) (all_zero bs) e)

zeros_drop : (n : ℕ) (bs : List ℕ) → all_zero bs ≡ true → all_zero (drop n bs) ≡ true
zeros_drop zero bs e = e
zeros_drop (suc n) [] e = refl
zeros_drop (suc n) (b ∷ bs) e = zeros_drop n bs (and_right (is_zero b) (all_zero bs) e)

zeros_log : (prev : ℕ) (bs : List ℕ) → all_zero bs ≡ true → read_log prev bs ≡ []
zeros_log prev bs e = log_none prev bs (group_none prev bs (record_none bs (omega (arith, zero_at bs 1 e, zero_at bs 2 e))))

-- ---- the group appended

module _ (prev : ℕ) (t : List ℕ) (g : Group) (z : all_zero (drop (groups_size (read_log prev t)) t) ≡ true)
    (fits : groups_size (read_log prev t) + group_size g ≤ length t) (w : well_formed_group (last_csn prev (read_log prev t)) g ≡ true) where
  abbrev end : ℕ
  end = groups_size (read_log prev t)

  abbrev after : List ℕ
  after = sets t end (encode_group g)

  laid : after ≡ take end t ++ (encode_group g ++ drop (end + length (encode_group g)) t)
  laid = sets-eq (encode_group g) t end (omega (arith, length_group g)) ∙ append_assoc (take end t) (encode_group g) (drop (end + length (encode_group g)) t)

  front : length (take end t) ≡ end
  front = length-take-le end t (omega arith)

  follows : drop end after ≡ encode_group g ++ drop (end + length (encode_group g)) t
  follows = ap (drop end) laid ∙ drop_at (take end t) (encode_group g ++ drop (end + length (encode_group g)) t) end front

  rest_zero : all_zero (drop (end + length (encode_group g)) t) ≡ true
  rest_zero = ap all_zero (sym (drop-drop (length (encode_group g)) end t)) ∙ zeros_drop (length (encode_group g)) (drop end t) z

  pub appended_log : read_log prev after ≡ read_log prev t ++ (g ∷ [])
  appended_log =
      let last = last_csn prev (read_log prev t) in
      log_same prev (read_log prev t) t after refl (ap (take end) laid ∙ take_at (take end t) (encode_group g ++ drop (end + length (encode_group g)) t) end front)
      ∙ ap (λ (u : List ℕ). read_log prev t ++ read_log last u) follows
      ∙ ap (λ (hs : List Group). read_log prev t ++ hs)
      (log_after last g (drop (end + length (encode_group g)) t) w
      ∙ ap (λ (hs : List Group). g ∷ hs) (zeros_log (csn_after last g) (drop (end + length (encode_group g)) t) rest_zero))

  size_snoc : (gs : List Group) → groups_size (gs ++ (g ∷ [])) ≡ groups_size gs + group_size g
  size_snoc [] = omega arith
  size_snoc (h ∷ gs) = let e = size_snoc gs in omega arith

  pub appended_size : groups_size (read_log prev after) ≡ end + group_size g
  appended_size = ap groups_size appended_log ∙ size_snoc (read_log prev t)

  last_snoc : (p : ℕ) (gs : List Group) → last_csn p (gs ++ (g ∷ [])) ≡ csn_after (last_csn p gs) g
  last_snoc p [] = refl
  last_snoc p (h ∷ gs) = last_snoc (csn_after p h) gs

  pub appended_csn : last_csn prev (read_log prev after) ≡ csn_after (last_csn prev (read_log prev t)) g
  appended_csn = ap (last_csn prev) appended_log ∙ last_snoc prev (read_log prev t)

  pub appended_zeros : all_zero (drop (groups_size (read_log prev after)) after) ≡ true
  appended_zeros =
      ap (λ (n : ℕ). all_zero (drop n after)) appended_size
      ∙ ap all_zero (sym (drop-drop (group_size g) end after))
      ∙ ap (λ (u : List ℕ). all_zero (drop (group_size g) u)) follows
      ∙ ap all_zero (drop_at (encode_group g) (drop (end + length (encode_group g)) t) (group_size g) (length_group g))
      ∙ rest_zero
