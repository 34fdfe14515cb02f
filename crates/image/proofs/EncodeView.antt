-- The encoding of an image looks at its counters and its view alone: not at slots past the count, bytes past a record's length, or redo records.
use Prim.Native.Nat.{ℕ, ◌<◌}
use native.Mathlib.Omega.{arith}
use mathlib.Core.List.{List}
use mathlib.Core.Path.{◌≡◌, ap, ap₂, ◌∙◌}
use Rattle.transaction.proofs.Lists.{up_same}
use Rattle.image.specs.declared.Image.{Image}
use Rattle.image.specs.Content.{Saved, Content, saved_at, saved_in, content_of}
use Rattle.image.specs.Format.{encode_content, encode_image}

pub record SameView (i j : Image) : Type 0 where
  pub logend : i.logend ≡ j.logend
  pub ondisk : i.ondisk.0 ≡ j.ondisk.0
  pub assigned : i.assigned.0 ≡ j.assigned.0
  pub lastid : i.lastid.0 ≡ j.lastid.0
  pub count : i.count ≡ j.count
  pub listed : (k : ℕ) → k < i.count → saved_at i.txs k ≡ saved_at j.txs k

abbrev content : ℕ → ℕ → ℕ → ℕ → List Saved → Content
content logend ondisk assigned lastid txs = record { logend = logend; ondisk = ondisk; assigned = assigned; lastid = lastid; txs = txs }

module _ (i j : Image) (h : SameView i j) where
  saved_same : saved_in i.txs i.count ≡ saved_in j.txs j.count
  saved_same =
      up_same (saved_at i.txs) (saved_at j.txs) i.count 0 (λ k a b. h.listed k (omega (arith, b)))
      ∙ ap (saved_in j.txs) h.count

  content_same : content_of i ≡ content_of j
  content_same =
      ap₂ (λ (e d : ℕ). content e d i.assigned.0 i.lastid.0 (saved_in i.txs i.count)) h.logend h.ondisk
      ∙ ap₂ (λ (a l : ℕ). content j.logend j.ondisk.0 a l (saved_in i.txs i.count)) h.assigned h.lastid
      ∙ ap (content j.logend j.ondisk.0 j.assigned.0 j.lastid.0) saved_same

  pub encode_same : (m : List ℕ) → encode_image i m ≡ encode_image j m
  encode_same m = ap (λ (c : Content). encode_content c m) content_same
