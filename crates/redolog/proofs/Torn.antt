-- Lists of which only the first bytes were written, or whose bytes were zeroed from a place on. A group's last byte is never 0: so just the
-- groups that lie whole before that place are read, and no other appears.
use Prim.Native.Nat.{ℕ, zero, suc, ◌+◌, ◌-◌, ◌≤◌, ◌<◌}
use native.Mathlib.Decide.{dec_le}
use native.Mathlib.Omega.{arith}
use mathlib.Core.Bool.{true}
use mathlib.Core.List.{List, [], ◌∷◌, ◌++◌, append-nil}
use mathlib.Core.Option.{Option, none, some}
use mathlib.Core.Path.{◌≡◌, refl, sym, ap, ◌∙◌}
use lib.ListN.{length, get_or, take, drop, replicate, length-take}
use lib.Seq.{get_or-drop, take-append-le, drop-append-le, take-take}
use borrow.Author.Tests.{le-leb, lt-leb}
use Rattle.recovery.specs.Group.{Write, Group, committed, aborted, redo_size, group_size, last_csn, fitting}
use Rattle.redolog.specs.Record.{Record, commit, abort, size, read_record}
use Rattle.redolog.specs.Group.{read_body, group_with}
use Rattle.redolog.specs.Log.{next_after, read_log_with, read_log, encode_log, well_formed_log}
use Rattle.redolog.proofs.Basics.{clash}
use Rattle.redolog.proofs.RecordLaws.{record_none, record_ends}
use Rattle.redolog.proofs.GroupLaws.{body_inv, group_with_inv, group_with_none, group_with_within, any_same}
use Rattle.redolog.proofs.LogLaws.{log_with_none, log_with_more, log_with_inv, log_with_inv_none, log_next}
use Rattle.redolog.proofs.RoundTrip.{drop_take, group_with_same, log_written}

-- ---- a whole group ends in a byte that is not 0

-- the last of the first m bytes of s is not 0
pub record LastNonzero (m : ℕ) (s : List ℕ) : Type 0 where
  pub last : ℕ
  pub value : ℕ
  pub sized : m ≡ suc last
  pub closes : get_or s last 0 ≡ suc value

record_nonzero : (s : List ℕ) (r : Record) → read_record s ≡ some r → LastNonzero (size r) s
record_nonzero s r e = let w = record_ends s r e in record { last = w.0; value = w.1.kind; sized = w.1.sized; closes = w.1.closes }

body_nonzero : (next id : ℕ) (ws : List Write) (s : List ℕ) → read_body next id s ≡ some ws → LastNonzero (redo_size ws + 8) s
body_nonzero next id [] s e = record_nonzero s (commit id next) (body_inv next id s [] e)
body_nonzero next id (w ∷ ws) s e =
    let m = 7 + length w.bytes in
    let z = body_nonzero next id ws (drop m s) (body_inv next id s (w ∷ ws) e).1 in
    let h = z.sized in
    record { last = m + z.last; value = z.value; sized = omega arith; closes = sym (get_or-drop m s z.last 0) ∙ z.closes }

pub group_nonzero : (next : ℕ) (s : List ℕ) (g : Group) → group_with next s ≡ some g → LastNonzero (group_size g) s
group_nonzero next s (aborted id) e = record_nonzero s (abort id) (group_with_inv next s (aborted id) e)
group_nonzero next s (committed id n ws) e = body_nonzero next id ws s (group_with_inv next s (committed id n ws) e).1

-- ---- zeros

zeros_at : (m n : ℕ) → ◌≡◌ {A = ℕ} (get_or (replicate m 0) n 0) 0
zeros_at zero n = refl
zeros_at (suc m) zero = refl
zeros_at (suc m) (suc n) = zeros_at m n

before_zeros : (p : List ℕ) (m n k : ℕ) → get_or (p ++ replicate m 0) n 0 ≡ suc k → n < length p
before_zeros [] m n k e = absurd (omega (arith, e, zeros_at m n))
before_zeros (x ∷ p) m zero k e = omega arith
before_zeros (x ∷ p) m (suc n) k e = omega (arith, before_zeros p m n k e)

pub zeros_none : (next m : ℕ) → group_with next (replicate m 0) ≡ none
zeros_none next m = group_with_none next (replicate m 0) (record_none (replicate m 0) (omega (arith, zeros_at m 1, zeros_at m 2)))

pub log_zeros : (prev m : ℕ) → read_log prev (replicate m 0) ≡ []
log_zeros prev m = log_next prev (replicate m 0) ∙ log_with_none (prev + 1) (replicate m 0) (zeros_none (prev + 1) m)

-- ---- the first j bytes of s, and zeros

module _ (next : ℕ) (s : List ℕ) (j m : ℕ) where
  -- a group that is read lies within the first j bytes, and stood in s
  pub group_torn : (g : Group) → group_with next (take j s ++ replicate m 0) ≡ some g → (group_size g ≤ j) × (group_with next s ≡ some g)
  group_torn g e =
      let u = take j s ++ replicate m 0 in
      let z = group_nonzero next u g e in
      let h = z.sized in
      let l = before_zeros (take j s) m z.last z.value z.closes in
      let d = length-take j s in (
        omega arith,
        group_with_same next u s g e
            (sym (take-take (group_size g) j s (omega arith)) ∙ sym (take-append-le (group_size g) (take j s) (replicate m 0) (omega arith))),
      )

  -- no group stands where none stood
  pub group_torn_none : group_with next s ≡ none → group_with next (take j s ++ replicate m 0) ≡ none
  group_torn_none e = go (group_with next (take j s ++ replicate m 0)) refl
    where
      go : (x : Option Group) → group_with next (take j s ++ replicate m 0) ≡ x → x ≡ none
      go none p = refl
      go (some g) p = clash (cc (group_torn g p).1)

  -- where a group of any number stands in s and does not fit, none is read
  pub torn_none : (k : ℕ) (g : Group) → group_with k s ≡ some g → j < group_size g → group_with next (take j s ++ replicate m 0) ≡ none
  torn_none k g e h = go (group_with next (take j s ++ replicate m 0)) refl
    where
      go : (x : Option Group) → group_with next (take j s ++ replicate m 0) ≡ x → x ≡ none
      go none p = refl
      go (some f) p =
          let t = group_torn f p in
          absurd (omega (arith, t.0, h, ap group_size (any_same next k s f g t.1 e)))

  -- a group of s that fits is read, and what follows is torn at the same place
  group_torn_whole : (g : Group) → group_with next s ≡ some g → group_size g ≤ j → group_with next (take j s ++ replicate m 0) ≡ some g
  group_torn_whole g e h =
      let w = group_with_within next s g e in
      let d = length-take j s in
      group_with_same next s (take j s ++ replicate m 0) g e
      (take-append-le (group_size g) (take j s) (replicate m 0) (omega arith) ∙ take-take (group_size g) j s h)

  pub torn_rest : (n : ℕ) → n ≤ j → n ≤ length s → drop n (take j s ++ replicate m 0) ≡ take (j - n) (drop n s) ++ replicate m 0
  torn_rest n h l =
      let d = length-take j s in
      let e : j ≡ n + (j - n) = omega arith in
      drop-append-le n (take j s) (replicate m 0) (omega arith)
      ∙ ap (λ (t : List ℕ). t ++ replicate m 0) (ap (λ (k : ℕ). drop n (take k s)) e ∙ drop_take n (j - n) s)

-- of a log the groups that fit into j bytes are read, and no other
pub log_with_torn : (next : ℕ) (gs : List Group) (s : List ℕ) (j m : ℕ) → read_log_with next s ≡ gs → read_log_with next (take j s ++ replicate m 0) ≡ fitting j gs
log_with_torn next [] s j m e = log_with_none next _ (group_torn_none next s j m (log_with_inv_none next s e))
log_with_torn next (g ∷ gs) s j m e =
    let i = log_with_inv next s g gs e in
    let w = group_with_within next s g i.0 in
    elim (dec_le (group_size g) j) [
      | yes p ↦
          rw (le-leb (group_size g) j p)
          (log_with_more next _ g (group_torn_whole next s j m g i.0 p)
          ∙ ap (λ (t : List ℕ). g ∷ read_log_with (next_after next g) t) (torn_rest next s j m (group_size g) p (omega arith))
          ∙ ap (λ (hs : List Group). g ∷ hs) (log_with_torn (next_after next g) gs (drop (group_size g) s) (j - group_size g) m i.1))
      | no q ↦ rw (lt-leb (group_size g) j (omega (arith, q))) (log_with_none next _ (torn_none next s j m next g i.0 (omega (arith, q))))
    ]

pub log_torn : (prev : ℕ) (gs : List Group) (s : List ℕ) (j m : ℕ) → read_log prev s ≡ gs → read_log prev (take j s ++ replicate m 0) ≡ fitting j gs
log_torn prev gs s j m e = log_next prev _ ∙ log_with_torn (prev + 1) gs s j m (sym (log_next prev s) ∙ e)

-- ---- of groups that were written

-- all of them, and zeros
pub log_padded : (prev : ℕ) (gs : List Group) (m : ℕ) → well_formed_log prev gs ≡ true → read_log prev (encode_log gs ++ replicate m 0) ≡ gs
log_padded prev gs m h = log_written prev gs (replicate m 0) h ∙ ap (λ (l : List Group). gs ++ l) (log_zeros (last_csn prev gs) m) ∙ append-nil gs

-- the first j bytes of them, and zeros
pub log_cut : (prev : ℕ) (gs : List Group) (j m : ℕ) → well_formed_log prev gs ≡ true → read_log prev (take j (encode_log gs) ++ replicate m 0) ≡ fitting j gs
log_cut prev gs j m h = log_torn prev gs (encode_log gs) j m (ap (read_log prev) (sym (append-nil (encode_log gs))) ∙ log_padded prev gs 0 h)
