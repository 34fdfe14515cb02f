use Rattle.std.proofs.Common.{◌≡◌, ℕ, ◌≤◌, Bool, cond, List, Some, None, length, slice_index_or, sym, ap, ap₂, ◌∙◌, arith}
use Rattle.std.proofs.Math.Option.{some}
use Rattle.redolog.specs.Number.{be16, be32}
use Rattle.transaction.specs.Rules.{head_ok}
use Rattle.image.specs.Content.{Saved}
use Rattle.image.specs.Format.{tx_size}
use Rattle.image.specs.Reading.{read_tx}
use Rattle.image.specs.Heads.{tx_span, ruled_span}
use Rattle.image.proofs.TxReadings.{tx_inv, tx_kept, span_some, head_read}
use Rattle.image.proofs.read.ruled_size.Goals.{In_ok-size}
use Rattle.image.proofs.read.ruled_size.Goals as goal

-- the transaction that was read
found : (s : List ℕ) (z : ℕ) → tx_span (read_tx s) ≡ Some z → (t : Saved) × (read_tx s ≡ some t) × (8 ≤ length s) × (tx_size t ≡ z)
found s z e =
    let w = span_some (read_tx s) z e in
    let k = (tx_kept s w.0 (tx_inv s w.0 w.1)).0 in
    (w.0, w.1, omega (arith, k), w.2)

-- the answer, by whether it keeps the rules
answer : (s : List ℕ) (last assigned z id csn : ℕ) → tx_span (read_tx s) ≡ Some z → id ≡ be16 s 0 → csn ≡ be32 s 3
    → (b : Bool) → head_ok last assigned id (slice_index_or s 2 0) csn ≡ b → cond b (Some z) None ≡ ruled_span last assigned (read_tx s)
answer s last assigned z id csn e i n b k =
    let w = found s z e in
    let kept = ap₂ (λ (x y : ℕ). head_ok last assigned x (slice_index_or s 2 0) y) i n ∙ head_read last assigned s w.0 w.1 in
    ap₂ (λ (t : Bool) (n : ℕ). cond t (Some n) None) (sym k ∙ kept) (sym w.3) ∙ sym (ap (ruled_span last assigned) w.1)

size : (c : In_ok-size) → tx_span (read_tx c.args.s.now) ≡ Some c.in_ok-size.size
size c = sym c.tx_size.ensures ∙ c.in_ok-size.was

pub read_key-key-requires : goal.read_key-key-requires
read_key-key-requires c = (found c.args.s.now _ (size c)).2

pub bounds-s-2 : goal.bounds-s-2
bounds-s-2 c = omega (arith, (found c.args.s.now _ (size (goal.at.bounds-s-2 c).In_ok-size)).2)

pub returns-then-not-head_ok : goal.returns-then-not-head_ok
returns-then-not-head_ok c =
    let a = c.args in
    let k = c.read_key-key.ensures in
    answer a.s.now a.last.id.0 a.last.csn.0 _ _ _ (size (goal.at.returns-then-not-head_ok c).In_ok-size) k.id_value k.csn_value _
    (sym c.head_ok.ensures ∙ c.if-not-head_ok.true)

pub returns : goal.returns
returns c =
    let a = c.args in
    let k = c.read_key-key.ensures in
    answer a.s.now a.last.id.0 a.last.csn.0 _ _ _ (size (goal.at.returns c).In_ok-size) k.id_value k.csn_value _
    (sym c.head_ok.ensures ∙ c.if-not-head_ok.false)
