-- What the heads of an image show of its transactions.
use Prim.Native.Nat.{ℕ, ◌≤◌, ◌<◌}
use native.Mathlib.Omega.{arith}
use mathlib.Core.List.{List}
use mathlib.Core.Option.{some}
use mathlib.Core.Path.{◌≡◌, sym, ap, ◌∙◌}
use lib.ListN.{length, get_or, take, drop, replicate}
use lib.Seq.{length-take-le, get_or-take, length-sets}
use Rattle.image.specs.declared.Image.{Image}
use Rattle.image.specs.declared.read.TxHead.{TxHead}
use Rattle.image.specs.declared.read.Heads.{Heads}
use Rattle.image.specs.Content.{Saved}
use Rattle.image.specs.Reading.{read_tx}
use Rattle.image.specs.Slots.{slot_at}
use Rattle.image.specs.Keys.{key_of, no_head}
use Rattle.image.specs.Heads.{heads_from, tx_heads, image_by, HeadsFit, undos_read}
use Rattle.image.proofs.KeyLaws.{key_at}
use Rattle.image.proofs.HeadLaws.{shown_count, shown_keys, shown_read, shown_within, shown_undo}
use Rattle.restart.specs.Slots.{transaction_at}

-- each transaction of the image, in order, by its key and by its bytes at its place in s
pub record Shown (image : Image) (s : List ℕ) (txs : List TxHead) : Type 0 where
  pub count : length txs ≡ image.count
  pub keys : (j : ℕ) → j < image.count → (get_or txs j no_head).key ≡ key_of (slot_at image.txs j)
  pub within : (j : ℕ) → j < image.count → (get_or txs j no_head).at ≤ length s
  pub read : (j : ℕ) → j < image.count → (t : Saved) × (read_tx (drop (get_or txs j no_head).at s) ≡ some t)
  pub undo : (j : ℕ) → j < image.count → undos_read (read_tx (drop (get_or txs j no_head).at s)) ≡ (transaction_at image j).undo

-- the keys alone
pub record HasKeys (image : Image) (txs : List TxHead) : Type 0 where
  pub count : length txs ≡ image.count
  pub keys : (j : ℕ) → j < image.count → (get_or txs j no_head).key ≡ key_of (slot_at image.txs j)

pub has_keys : (image : Image) (s : List ℕ) (txs : List TxHead) → Shown image s txs → HasKeys image txs
has_keys image s txs v = record { count = v.count; keys = v.keys }

module _ (h : Heads) (s : List ℕ) (f : HeadsFit h s) (few : h.counters.count ≤ 8) where
  same : (j : ℕ) → j < (image_by h s).count → get_or (take h.counters.count h.txs) j no_head ≡ get_or h.txs j no_head
  same j l = get_or-take h.counters.count h.txs j no_head (omega (arith, l, shown_count h s f))

  eight : length h.txs ≡ 8
  unfolding tx_heads
  eight = ap (λ (xs : List TxHead). length xs) f.heads ∙ length-sets (replicate 8 no_head) 0 (heads_from 0 f.txs)

  pub shown : Shown (image_by h s) s (take h.counters.count h.txs)
  shown =
      let c = shown_count h s f in
      record {
        count = length-take-le h.counters.count h.txs (omega (arith, eight, few)) ∙ sym c;
        keys = λ j l. ap (λ (t : TxHead). t.key) (same j l) ∙ key_at _ _ (shown_keys h s f) j;
        within = λ j l. rw (same j l) (shown_within h s f few j (omega (arith, c, l)));
        read = λ j l. (_, ap (λ (t : TxHead). read_tx (drop t.at s)) (same j l) ∙ shown_read h s f few j (omega (arith, c, l)));
        undo = λ j l. ap (λ (t : TxHead). undos_read (read_tx (drop t.at s))) (same j l) ∙ shown_undo h s f few j (omega (arith, c, l));
      }
