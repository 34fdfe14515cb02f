use Rattle.std.proofs.Common.{◌≡◌, ℕ, Bool, true, List, Some, length, slice_index_or, take, drop, map, sym, ap, ap₂, ◌∙◌}
use Rattle.std.proofs.Math.Option.{Option, some}
use Rattle.redolog.specs.Number.{be16, be32}
use Rattle.redolog.proofs.Basics.{from}
use Rattle.image.specs.declared.read.TxHead.{TxHead}
use Rattle.image.specs.declared.read.Heads.{Heads}
use Rattle.image.specs.Rules.{bounds_ok, distinct}
use Rattle.image.specs.Keys.{outline_by}
use Rattle.image.specs.Content.{Saved, Content, outline_in}
use Rattle.image.specs.Reading.{read_txs, read_image, keeping_rules}
use Rattle.image.specs.Heads.{ruled, tx_heads, listed_of, heads_if}
use Rattle.image.proofs.TxReadings.{txs_inv, content_short, apart, apart_not, apart_yes, heads_bounds, heads_few, heads_by, list_none, list_some, ruled_some}
use Rattle.image.proofs.HeadLaws.{heads_distinct}
use Rattle.image.proofs.read.read_heads.Goals.{After-list_txs}
use Rattle.image.proofs.read.read_heads.Goals as goal

-- the rules of the counters, of the bytes in place
bounded : (s : List ℕ) (b : Bool) (logend ondisk assigned : ℕ) → b ≡ bounds_ok logend ondisk assigned (slice_index_or s 12 0)
    → logend ≡ be16 s 0 → ondisk ≡ be32 s 2 → assigned ≡ be32 s 6 → b ≡ bounds_ok (be16 s 0) (be32 s 2) (be32 s 6) (slice_index_or s 12 0)
bounded s b logend ondisk assigned e l d a =
    e
    ∙ ap₂ (λ (x y : ℕ). bounds_ok x y assigned (slice_index_or s 12 0)) l d
    ∙ ap (λ (x : ℕ). bounds_ok (be16 s 0) (be32 s 2) x (slice_index_or s 12 0)) a

-- the transactions that keep the rules by themselves, and what was listed of them
abbrev here : List ℕ → Option (List Saved)
here s = ruled (be16 s 10) (be32 s 6) (read_txs (slice_index_or s 12 0) (drop 4109 s))

listed : (c : After-list_txs) → c.list_txs.result ≡ listed_of (here c.args.s.now)
listed c =
    let s = c.args.s.now in
    let n = slice_index_or s 12 0 in
    c.list_txs.ensures
    ∙ ap (λ (t : List ℕ). listed_of (ruled c.be16-2.result c.be32-2.result (read_txs n t))) (from s 4109)
    ∙ ap₂ (λ (l a : ℕ). listed_of (ruled l a (read_txs n (drop 4109 s)))) c.be16-2.ensures c.be32-2.ensures

kept : (c : After-list_txs) → let s = c.args.s.now in bounds_ok (be16 s 0) (be32 s 2) (be32 s 6) (slice_index_or s 12 0) ≡ true
kept c = sym (bounded c.args.s.now _ _ _ _ c.ok.ensures c.be16.ensures c.be32.ensures c.be32-2.ensures) ∙ c.if-not-ok.false

image-is : (c : After-list_txs) → read_image c.args.s.now ≡ apart c.args.s.now (here c.args.s.now)
image-is c = heads_by c.args.s.now c.if-s-lt-TXS_START.false (kept c)

pub returns-then-s-lt-TXS_START : goal.returns-then-s-lt-TXS_START
returns-then-s-lt-TXS_START c = sym (ap (λ (y : Option Content). heads_if (keeping_rules y)) (content_short c.args.s.now c.if-s-lt-TXS_START.true))

pub returns-then-not-ok : goal.returns-then-not-ok
returns-then-not-ok c =
    let s = c.args.s.now in
    let b = bounded s _ _ _ _ c.ok.ensures c.be16.ensures c.be32.ensures c.be32-2.ensures in
    sym (ap heads_if (heads_bounds s c.if-s-lt-TXS_START.false (sym b ∙ c.if-not-ok.true)))

pub returns-in_err-txs : goal.returns-in_err-txs
returns-in_err-txs c =
    let l = (goal.at.returns-in_err-txs c).After-list_txs in
    let s = c.args.s.now in
    c.from_residual.ensures ∙ sym (ap heads_if (image-is l ∙ ap (apart s) (list_none (here s) (sym (listed l) ∙ c.in_err-txs.was))))

-- what was listed
module _ (c : After-list_txs) (txs : List TxHead) (e : c.list_txs.result ≡ Some txs) where
  found : (ts : List Saved) × (here c.args.s.now ≡ some ts) × (txs ≡ tx_heads ts)
  found = list_some (here c.args.s.now) txs (sym (listed c) ∙ e)

  counted : length found.0 ≡ slice_index_or c.args.s.now 12 0
  counted =
      let s = c.args.s.now in
      (txs_inv (slice_index_or s 12 0) (drop 4109 s) found.0 (ruled_some (be16 s 10) (be32 s 6) _ found.0 found.1)).0

  -- whether no two are alike
  distinguished : distinct (map outline_by (take (slice_index_or c.args.s.now 12 0) txs)) ≡ distinct (map outline_in found.0)
  distinguished =
      let n = slice_index_or c.args.s.now 12 0 in
      ap (λ (hs : List TxHead). distinct (map outline_by (take n hs))) found.2
      ∙ heads_distinct found.0 n counted (heads_few c.args.s.now c.if-s-lt-TXS_START.false (kept c))

pub returns-then-not-distinct : goal.returns-then-not-distinct
returns-then-not-distinct c =
    let l = (goal.at.returns-then-not-distinct c).After-list_txs in
    let s = c.args.s.now in
    let w = found l _ c.in_ok-txs.was in
    let e = sym (c.distinct.ensures ∙ distinguished l _ c.in_ok-txs.was) ∙ c.if-not-distinct.true in
    sym (ap heads_if (image-is l ∙ ap (apart s) w.1 ∙ apart_not s w.0 e))

abbrev heads_with : ℕ → ℕ → ℕ → ℕ → ℕ → List TxHead → Heads
heads_with logend ondisk assigned lastid count txs =
    record {
      counters = record { logend = logend; ondisk = record { 0 = ondisk }; assigned = record { 0 = assigned }; lastid = record { 0 = lastid }; count = count };
      txs = txs;
    }

pub returns : goal.returns
returns c =
    let l = (goal.at.returns c).After-list_txs in
    let s = c.args.s.now in
    let n = slice_index_or s 12 0 in
    let w = found l _ c.in_ok-txs.was in
    let e = sym (c.distinct.ensures ∙ distinguished l _ c.in_ok-txs.was) ∙ c.if-not-distinct.false in
    ap₂ (λ (x y : ℕ). Some (heads_with x y c.be32-2.result c.be16-2.result n c.in_ok-txs.txs)) c.be16.ensures c.be32.ensures
    ∙ ap₂ (λ (x y : ℕ). Some (heads_with (be16 s 0) (be32 s 2) x y n c.in_ok-txs.txs)) c.be32-2.ensures c.be16-2.ensures
    ∙ ap₂ (λ (k : ℕ) (txs : List TxHead). Some (heads_with (be16 s 0) (be32 s 2) (be32 s 6) (be16 s 10) k txs)) (sym (counted l _ c.in_ok-txs.was)) w.2
    ∙ sym (ap heads_if (image-is l ∙ ap (apart s) w.1 ∙ apart_yes s w.0 e))
