-- Parts of a log: encoded one after the other, read one after the other, and zeros behind them.
use Prim.Native.Nat.{ℕ, zero, suc}
use mathlib.Core.Bool.{true}
use mathlib.Core.List.{List, [], ◌∷◌, ◌++◌, append_assoc}
use mathlib.Core.Path.{◌≡◌, refl, sym, ap, ◌∙◌}
use lib.ListN.{length, take, drop, replicate}
use lib.Seq.{take-length, drop-drop}
use Rattle.recovery.specs.Group.{Group, group_size, groups_size, csn_after, last_csn}
use Rattle.recovery.proofs.Groups.{fitting_all}
use Rattle.redolog.specs.Group.{encode_group, well_formed_group}
use Rattle.redolog.specs.Log.{read_log, encode_log, well_formed_log}
use Rattle.redolog.proofs.Basics.{and_left, and_right}
use Rattle.redolog.proofs.LogLaws.{log_inv, log_within}
use Rattle.redolog.proofs.Torn.{log_torn}

pub encode_append : (gs hs : List Group) → encode_log (gs ++ hs) ≡ encode_log gs ++ encode_log hs
encode_append [] hs = refl
encode_append (g ∷ gs) hs =
    ap (λ (l : List ℕ). encode_group g ++ l) (encode_append gs hs) ∙ sym (append_assoc (encode_group g) (encode_log gs) (encode_log hs))

pub formed_first : (k prev : ℕ) (gs : List Group) → well_formed_log prev gs ≡ true → well_formed_log prev (take k gs) ≡ true
formed_first zero prev gs h = refl
formed_first (suc k) prev [] h = refl
formed_first (suc k) prev (g ∷ gs) h =
    rw (and_left (well_formed_group prev g) (well_formed_log (csn_after prev g) gs) h)
    (formed_first k (csn_after prev g) gs (and_right (well_formed_group prev g) (well_formed_log (csn_after prev g) gs) h))

-- after the first groups stand the others
pub log_split : (prev : ℕ) (gs hs : List Group) (s : List ℕ) → read_log prev s ≡ gs ++ hs → read_log (last_csn prev gs) (drop (groups_size gs) s) ≡ hs
log_split prev [] hs s e = e
log_split prev (g ∷ gs) hs s e =
    ap (read_log (last_csn (csn_after prev g) gs)) (sym (drop-drop (groups_size gs) (group_size g) s))
    ∙ log_split (csn_after prev g) gs hs (drop (group_size g) s) (log_inv prev s g (gs ++ hs) e).1

-- zeros behind a log change nothing
pub log_padding : (prev : ℕ) (s : List ℕ) (n : ℕ) → read_log prev (s ++ replicate n 0) ≡ read_log prev s
log_padding prev s n =
    ap (λ (l : List ℕ). read_log prev (l ++ replicate n 0)) (sym (take-length s))
    ∙ log_torn prev (read_log prev s) s (length s) n refl
    ∙ fitting_all (length s) (read_log prev s) (log_within prev (read_log prev s) s refl)
