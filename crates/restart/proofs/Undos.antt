-- Laws of undoing one transaction after the other, and of their abort records.
use Prim.Native.Nat.{ℕ, suc, ◌+◌, ◌*◌, ◌≤◌, ◌<◌}
use native.Mathlib.Omega.{arith}
use native.Mathlib.Numerals.{add-one}
use mathlib.Core.List.{List, [], ◌∷◌, ◌++◌, map}
use mathlib.Core.Path.{◌≡◌, refl, sym, ap, ap₂, ◌∙◌}
use lib.ListN.{length, get_or, set, take, replicate, length-append, length-map}
use lib.Seq.{sets, sets-eq, take-suc, take-append-le, take_all, length-take-le}
use Rattle.std.proofs.lemmas.List.{map-append}
use Rattle.recovery.specs.Group.{Group}
use Rattle.recovery.specs.Transaction.{Tx}
use Rattle.recovery.specs.Replay.{undo_all, undo_each, lay_bytes}
use Rattle.recovery.specs.Restart.{aborts}
use Rattle.recovery.proofs.Groups.{undo_each_append}
use Rattle.redolog.specs.declared.TxId.{TxId}
use Rattle.redolog.specs.Record.{encode, abort}
use Rattle.redolog.specs.Log.{encode_log}
use Rattle.redolog.proofs.Parts.{encode_append}
use Rattle.redolog.proofs.StoreLaws.{sets_append}
use Rattle.image.specs.declared.Image.{Image}
use Rattle.restart.specs.declared.forward.Pass.{Pass}
use Rattle.restart.specs.declared.undo.Undone.{Undone}
use Rattle.restart.specs.Forward.{Went, went_by, forward_of}
use Rattle.restart.specs.Undo.{undone_of}
use Rattle.restart.specs.Restart.{AfterSteps, after_steps, recover_of}
use Rattle.restart.specs.Turns.{tx_id_of, undone_list, undone_ids, abort_of, aborts_laid}

pub aborts_length : (ts : List Tx) → length (encode_log (aborts ts)) ≡ length ts * 4
aborts_length [] = refl
aborts_length (t ∷ ts) = let h = aborts_length ts in omega arith

-- ---- one after the other

-- these undone: from memory m to m₁, with their ids in the first k places
sets_snoc : {A : Type 0} (l xs : List A) (x : A) (o k : ℕ) → o + length xs ≡ k → sets l o (xs ++ (x ∷ [])) ≡ set (sets l o xs) k x
sets_snoc l [] x o k e = ap (λ (j : ℕ). set l j x) (let z : o ≡ k = omega (arith, e) in z)
sets_snoc l (y ∷ xs) x o k e = sets_snoc (set l o y) xs x (suc o) k (omega (arith, e))

abbrev pub no_ids : List TxId
no_ids = replicate 8 (record { 0 = 0 })

pub record Undid (ts : List Tx) (m m₁ : List ℕ) (listed : List TxId) (k : ℕ) : Type 0 where
  pub count : k ≡ length ts
  pub memory : m₁ ≡ undo_each lay_bytes ts m
  pub ids : listed ≡ sets no_ids 0 (map tx_id_of ts)

pub undid_more : (ts : List Tx) (t : Tx) (m m₁ m₂ : List ℕ) (ids : List TxId) (id : TxId) (k : ℕ) → Undid ts m m₁ ids k
    → m₂ ≡ undo_all lay_bytes t.undo m₁ → id ≡ tx_id_of t → Undid (ts ++ (t ∷ [])) m m₂ (set ids k id) (k + 1)
undid_more ts t m m₁ m₂ ids id k a p q =
    let n : 0 + length (map tx_id_of ts) ≡ k = omega (arith, length-map ts tx_id_of, a.count) in
    record {
      count = omega (arith, length-append ts (t ∷ []), a.count);
      memory = p ∙ ap (undo_all lay_bytes t.undo) a.memory ∙ sym (undo_each_append lay_bytes ts (t ∷ []) m);
      ids = ap₂ (λ (l : List TxId) (x : TxId). set l k x) a.ids q
          ∙ sym (ap (sets no_ids 0) (map-append tx_id_of ts (t ∷ [])) ∙ sets_snoc no_ids (map tx_id_of ts) (tx_id_of t) 0 k n);
    }

pub undid_all : (ts : List Tx) (m m₁ : List ℕ) (ids : List TxId) (k : ℕ) → Undid ts m m₁ ids k → record { count = k; ids = ids } ≡ undone_list ts
unfolding undone_list
undid_all ts m m₁ ids k a = ap₂ (λ (n : ℕ) (l : List TxId). record { count = n; ids = l }) a.count a.ids

-- ---- their abort records

ids_length : (ids : List TxId) → length (encode_log (map abort_of ids)) ≡ length ids * 4
ids_length [] = refl
ids_length (i ∷ ids) = let h = ids_length ids in omega arith

pub laid_none : (ids : List TxId) (tail : List ℕ) → tail ≡ aborts_laid ids 0 tail
unfolding aborts_laid
laid_none [] tail = refl
laid_none (i ∷ ids) tail = refl

-- of a part of the ids
pub laid_part : (ids : List TxId) (n : ℕ) (tail : List ℕ) → n ≤ length ids → aborts_laid (take n ids) (length (take n ids)) tail ≡ aborts_laid ids n tail
unfolding aborts_laid
laid_part ids n tail h = ap (λ (l : List TxId). sets tail 0 (encode_log (map abort_of l))) (take_all (length (take n ids)) (take n ids) (omega arith))

-- one more
pub laid_more : (ids : List TxId) (n : ℕ) (id : TxId) (t t₁ t₂ : List ℕ) → n < length ids → id ≡ get_or ids n (record { 0 = 0 })
    → t₁ ≡ aborts_laid ids n t → t₂ ≡ sets t₁ (n * 4) (encode (abort id.0)) → t₂ ≡ aborts_laid ids (n + 1) t
unfolding aborts_laid
laid_more ids n id t t₁ t₂ h e a b =
    let xs = take n ids in
    let k : length xs ≡ n = length-take-le n ids (omega (arith, h)) in
    let m : n * 4 ≡ 0 + length (encode_log (map abort_of xs)) = omega (arith, k, ids_length xs) in
    let more : take (n + 1) ids ≡ xs ++ (id ∷ []) =
    ap (λ (j : ℕ). take j ids) (add-one n) ∙ take-suc ids n (record { 0 = 0 }) h ∙ ap (λ (x : TxId). xs ++ (x ∷ [])) (sym e) in
    b
    ∙ ap₂ (λ (l : List ℕ) (j : ℕ). sets l j (encode (abort id.0))) a m
    ∙ sym
    (ap (λ (l : List TxId). sets t 0 (encode_log (map abort_of l))) more
    ∙ ap (λ (gs : List Group). sets t 0 (encode_log gs)) (map-append abort_of xs (id ∷ []))
    ∙ ap (sets t 0) (encode_append (map abort_of xs) (abort_of id ∷ []))
    ∙ sets_append t 0 (encode_log (map abort_of xs)) (encode (abort id.0) ++ []))

-- of those undone
aborts_of : (ts : List Tx) → map abort_of (map tx_id_of ts) ≡ aborts ts
aborts_of [] = refl
aborts_of (t ∷ ts) = ap (λ (gs : List Group). abort_of (tx_id_of t) ∷ gs) (aborts_of ts)

pub laid_all : (ts : List Tx) (tail : List ℕ) → length ts ≤ 8 → aborts_laid (undone_list ts).ids (undone_list ts).count tail ≡ sets tail 0 (encode_log (aborts ts))
unfolding undone_list aborts_laid
laid_all ts tail h =
    let l = length-map ts tx_id_of in
    let e : take (length ts) (sets no_ids 0 (map tx_id_of ts)) ≡ map tx_id_of ts =
    ap (take (length ts)) (sets-eq (map tx_id_of ts) no_ids 0 (omega (arith, l, h)))
    ∙ take-append-le (length ts) (map tx_id_of ts) _ (omega (arith, l))
    ∙ take_all (length ts) (map tx_id_of ts) (omega (arith, l)) in
    ap (λ (ids : List TxId). sets tail 0 (encode_log (map abort_of ids))) e ∙ ap (λ (gs : List Group). sets tail 0 (encode_log gs)) (aborts_of ts)

-- ---- step 4 after the pass

module _ (image : Image) (log m tail : List ℕ) (p : Pass) (m₁ : List ℕ) (passed : p ≡ (forward_of image log m).pass)
    (forwarded : m₁ ≡ (forward_of image log m).memory) where
  pub restart_case : (u : Undone) (m₂ : List ℕ) → u ≡ undone_list (undone_of image p) → m₂ ≡ undo_each lay_bytes (undone_of image p) m₁
      → (record { end = p.end; csn = p.csn; last = p.last; undone = u.count; found = p.found } ≡ (recover_of image log m tail).answer)
      × ((m₂ ≡ (recover_of image log m tail).memory) × (u.ids ≡ undone_ids image log m))
  unfolding recover_of undone_list undone_ids
  restart_case u m₂ undone memory =
      let e : after_steps image (went_by m₁ p) tail ≡ after_steps image (forward_of image log m) tail =
      ap (λ (w : Went). after_steps image w tail) (ap₂ went_by forwarded passed) in (
        ap (λ (x : Undone). record { end = p.end; csn = p.csn; last = p.last; undone = x.count; found = p.found }) undone
            ∙ ap (λ (o : AfterSteps). o.answer) e,
        (
          memory ∙ ap (λ (o : AfterSteps). o.memory) e,
          ap (λ (x : Undone). x.ids) undone ∙ ap (λ (q : Pass). (undone_list (undone_of image q)).ids) passed,
        ),
      )
