-- Laws of `read_record`: which of the three readings it was, and that what it reads lies within the list.
use Prim.Native.Nat.{ℕ, suc, ◌+◌, ◌≤◌, ◌<◌}
use native.Mathlib.Omega.{arith}
use mathlib.Core.Bool.{Bool, true, false, cond, ◌&&◌}
use mathlib.Core.List.{List}
use mathlib.Core.Option.{Option, none, some}
use mathlib.Core.Path.{◌≡◌, refl, sym, ap, ◌∙◌, subst}
use lib.ListN.{length, get_or, take, drop, get_or-eq_default, length-drop}
use lib.Seq.{length-take-le}
use lib.Dec.{eqb}
use borrow.Author.Tests.{eqb-true, ne_eqb}
use Rattle.redolog.specs.Number.{be16, be32}
use Rattle.redolog.specs.Record.{Record, redo, commit, abort, size, in_range, keep, read_redo, read_commit, read_abort, read_kind, read_record}
use Rattle.redolog.proofs.Basics.{clash, and_left, nonzero_within}

pub keep_inv : (t : Bool) (x r : Record) → keep t x ≡ some r → (t ≡ true) × (x ≡ r)
keep_inv true x r e = (refl, cc)
keep_inv false x r e = clash (cc)

pub record_cases : (P : Record → Type 0) (s : List ℕ)
    → ((r : Record) → get_or s 0 0 ≡ 1 → read_redo (be16 s 1) s ≡ some r → P r)
    → ((r : Record) → get_or s 0 0 ≡ 2 → read_commit (be16 s 1) s ≡ some r → P r)
    → ((r : Record) → get_or s 0 0 ≡ 3 → read_abort (be16 s 1) s ≡ some r → P r)
    → (r : Record) → read_record s ≡ some r → P r
unfolding read_record
record_cases P s f g h r = go (eqb (be16 s 1) 0) (eqb (get_or s 0 0) 1) (eqb (get_or s 0 0) 2) (eqb (get_or s 0 0) 3) refl refl refl
  where
    go : (t₀ t₁ t₂ t₃ : Bool) → eqb (get_or s 0 0) 1 ≡ t₁ → eqb (get_or s 0 0) 2 ≡ t₂ → eqb (get_or s 0 0) 3 ≡ t₃
        → cond t₀ none (cond t₁ (read_redo (be16 s 1) s) (cond t₂ (read_commit (be16 s 1) s) (cond t₃ (read_abort (be16 s 1) s) none))) ≡ some r → P r
    go true t₁ t₂ t₃ e₁ e₂ e₃ e = clash (cc)
    go false true t₂ t₃ e₁ e₂ e₃ e = f r (eqb-true _ _ e₁) e
    go false false true t₃ e₁ e₂ e₃ e = g r (eqb-true _ _ e₂) e
    go false false false true e₁ e₂ e₃ e = h r (eqb-true _ _ e₃) e
    go false false false false e₁ e₂ e₃ e = clash (cc)

-- a record that is read has an id
pub record_named : (s : List ℕ) (r : Record) → read_record s ≡ some r → eqb (be16 s 1) 0 ≡ false
unfolding read_record
record_named s r = go (eqb (be16 s 1) 0)
  where
    go : (t : Bool) → cond t none (read_kind (get_or s 0 0) (be16 s 1) s) ≡ some r → t ≡ false
    go true e = clash (cc)
    go false e = refl

-- a record's first byte and its id
abbrev kind_of : Record → ℕ
kind_of (redo id w) = 1
kind_of (commit id csn) = 2
kind_of (abort id) = 3

abbrev id_of : Record → ℕ
id_of (redo id w) = id
id_of (commit id csn) = id
id_of (abort id) = id

module _ (id : ℕ) (s : List ℕ) (r : Record) where
  kept : (t : Bool) (x : Record) → keep t x ≡ some r → (kind_of r ≡ kind_of x) × (id_of r ≡ id_of x)
  kept t x e = let p = (keep_inv t x r e).1 in (ap kind_of (sym p), ap id_of (sym p))

  redo_front : read_redo id s ≡ some r → (kind_of r ≡ 1) × (id_of r ≡ id)
  unfolding read_redo
  redo_front e =
      kept (eqb (get_or s (6 + get_or s 5 0) 0) 1 && in_range (be16 s 3) (get_or s 5 0))
      (redo id (record { addr = be16 s 3; bytes = take (get_or s 5 0) (drop 6 s) })) e

  commit_front : read_commit id s ≡ some r → (kind_of r ≡ 2) × (id_of r ≡ id)
  unfolding read_commit
  commit_front e = kept (eqb (get_or s 7 0) 2) (commit id (be32 s 3)) e

  abort_front : read_abort id s ≡ some r → (kind_of r ≡ 3) × (id_of r ≡ id)
  unfolding read_abort
  abort_front e = kept (eqb (get_or s 3 0) 3) (abort id) e

pub record_front : (s : List ℕ) (r : Record) → read_record s ≡ some r → (kind_of r ≡ get_or s 0 0) × (id_of r ≡ be16 s 1)
record_front s =
    record_cases (λ r. (kind_of r ≡ get_or s 0 0) × (id_of r ≡ be16 s 1)) s
    (λ r k e. let x = redo_front _ s r e in (x.0 ∙ sym k, x.1))
    (λ r k e. let x = commit_front _ s r e in (x.0 ∙ sym k, x.1))
    (λ r k e. let x = abort_front _ s r e in (x.0 ∙ sym k, x.1))

-- without an id there is none
pub record_none : (s : List ℕ) → be16 s 1 ≡ 0 → read_record s ≡ none
unfolding read_record
record_none s e = rw e

-- where it begins with a kind and an id, the rest decides
pub record_by : (s : List ℕ) (kind id : ℕ) → get_or s 0 0 ≡ kind → be16 s 1 ≡ id → eqb id 0 ≡ false → read_record s ≡ read_kind kind id s
unfolding read_record
record_by s kind id k i n = rw (k, i, n)

-- what begins as an abort is one if its last byte agrees
pub record_abort : (s : List ℕ) (id : ℕ) → get_or s 0 0 ≡ 3 → be16 s 1 ≡ id → (id ≡ 0 → ⊥) → get_or s 3 0 ≡ 3 → read_record s ≡ some (abort id)
unfolding read_abort
record_abort s id k i n e = record_by s 3 id k i (ne_eqb id 0 n) ∙ rw e

pub record_unclosed : (s : List ℕ) → get_or s 0 0 ≡ 3 → (be16 s 1 ≡ 0 → ⊥) → (get_or s 3 0 ≡ 3 → ⊥) → read_record s ≡ none
unfolding read_abort
record_unclosed s k n e = record_by s 3 (be16 s 1) k refl (ne_eqb (be16 s 1) 0 n) ∙ rw (ne_eqb (get_or s 3 0) 3 e)

-- the same of a commit
pub record_commit : (s : List ℕ) (id n : ℕ) → get_or s 0 0 ≡ 2 → be16 s 1 ≡ id → (id ≡ 0 → ⊥) → get_or s 7 0 ≡ 2 → be32 s 3 ≡ n
    → read_record s ≡ some (commit id n)
unfolding read_commit
record_commit s id n k i z c m = record_by s 2 id k i (ne_eqb id 0 z) ∙ rw (c, m)

pub record_commit_unclosed : (s : List ℕ) → get_or s 0 0 ≡ 2 → (be16 s 1 ≡ 0 → ⊥) → (get_or s 7 0 ≡ 2 → ⊥) → read_record s ≡ none
unfolding read_commit
record_commit_unclosed s k z c = record_by s 2 (be16 s 1) k refl (ne_eqb (be16 s 1) 0 z) ∙ rw (ne_eqb (get_or s 7 0) 2 c)

pub record_commit_short : (s : List ℕ) → get_or s 0 0 ≡ 2 → (be16 s 1 ≡ 0 → ⊥) → length s < 8 → read_record s ≡ none
record_commit_short s k z h = record_commit_unclosed s k z (λ c. absurd (omega (arith, c, get_or-eq_default s 0 {n = 7} (omega arith))))

-- nothing stands in fewer than 4 bytes
pub record_short : (s : List ℕ) → length s < 4 → read_record s ≡ none
unfolding read_record read_redo read_commit read_abort
record_short s h =
    rw (
      get_or-eq_default s 0 {n = 3} (omega arith),
      get_or-eq_default s 0 {n = 7} (omega arith),
      get_or-eq_default s 0 {n = 6 + get_or s 5 0}
          (omega arith),
    )
    (go (eqb (be16 s 1) 0) (eqb (get_or s 0 0) 1) (eqb (get_or s 0 0) 2) (eqb (get_or s 0 0) 3))
  where
    go : (t₀ t₁ t₂ t₃ : Bool) → cond {A = Option Record} t₀ none (cond t₁ none (cond t₂ none (cond t₃ none none))) ≡ none
    go true t₁ t₂ t₃ = refl
    go false true t₂ t₃ = refl
    go false false true t₃ = refl
    go false false false true = refl
    go false false false false = refl

-- the byte at n is the record's last one, and it is not 0
pub record Ends (s : List ℕ) (r : Record) (n : ℕ) : Type 0 where
  pub sized : size r ≡ suc n
  pub kind : ℕ
  pub closes : get_or s n 0 ≡ suc kind

module _ (id : ℕ) (s : List ℕ) (r : Record) where
  pub redo_ends : read_redo id s ≡ some r → Ends s r (6 + get_or s 5 0)
  unfolding read_redo
  redo_ends e =
      let i = keep_inv _ _ r e in
      let n = get_or s 5 0 in
      let b : get_or s (6 + n) 0 ≡ 1 = eqb-true _ _ (and_left _ _ i.0) in
      let l = nonzero_within s (6 + n) 0 b in
      let d : length (take n (drop 6 s)) ≡ n = length-take-le n (drop 6 s) (simp length-drop (omega arith)) in
      subst (λ (r : Record). Ends s r (6 + get_or s 5 0)) i.1 (record { sized = omega arith; kind = 0; closes = b })

  pub commit_ends : read_commit id s ≡ some r → Ends s r 7
  unfolding read_commit
  commit_ends e =
      let i = keep_inv _ _ r e in
      subst (λ (r : Record). Ends s r 7) i.1 (record { sized = refl; kind = 1; closes = eqb-true _ _ i.0 })

  pub abort_ends : read_abort id s ≡ some r → Ends s r 3
  unfolding read_abort
  abort_ends e =
      let i = keep_inv _ _ r e in
      subst (λ (r : Record). Ends s r 3) i.1 (record { sized = refl; kind = 2; closes = eqb-true _ _ i.0 })

-- a record that is read ends in a byte that is not 0, and so lies within the list
pub record_ends : (s : List ℕ) (r : Record) → read_record s ≡ some r → (n : ℕ) × Ends s r n
record_ends s =
    record_cases (λ r. (n : ℕ) × Ends s r n) s (λ r k e. (_, redo_ends _ s r e)) (λ r k e. (_, commit_ends _ s r e)) (λ r k e. (_, abort_ends _ s r e))

pub record_within : (s : List ℕ) (r : Record) → read_record s ≡ some r → size r ≤ length s
record_within s r e =
    let w = record_ends s r e in
    omega (arith, w.1.sized, nonzero_within s w.0 w.1.kind w.1.closes)
