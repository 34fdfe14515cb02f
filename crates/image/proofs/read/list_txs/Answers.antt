use Rattle.std.proofs.Common.{◌≡◌, ℕ, ◌+◌, ◌-◌, ◌≤◌, ◌<◌, List, ◌++◌, Some, None, length, take, drop, replicate, sym, ap, ap₂, ◌∙◌, arith}
use Rattle.std.proofs.Math.ListN.{length-drop}
use Rattle.std.proofs.lemmas.List.{take-append-drop, length-take-le, set-append_left}
use Rattle.redolog.proofs.Basics.{from}
use Rattle.redolog.specs.Number.{be16, be32}
use Rattle.image.specs.declared.read.TxHead.{TxHead}
use Rattle.image.specs.Keys.{no_head}
use Rattle.image.specs.Reading.{read_tx, read_txs}
use Rattle.image.specs.Heads.{ruled_span, ruled}
use Rattle.image.proofs.TxReadings.{listed_from, list_start, list_stop, list_within, list_go}
use Rattle.image.proofs.read.list_txs.Goals.{In_ok-size}
use Rattle.image.proofs.read.list_txs.Goals as goal

-- so many slots are used
used : (h : TxHead) (n : ℕ) → n ≤ 8 → length (take n (replicate 8 h)) ≡ n
used h n few = length-take-le n (replicate 8 h) few

-- all slots as they stand, those not used behind those listed
abbrev whole : List TxHead → ℕ → List TxHead
whole items n = items ++ drop n (replicate 8 no_head)

-- what was read at `at`
size : (c : In_ok-size) → ruled_span c.args.last.id.0 c.args.last.csn.0 (read_tx (drop c.loop-tx.at c.args.s.now)) ≡ Some c.in_ok-size.size
size c =
    let a = c.args in
    sym (c.ruled_size.ensures ∙ ap (λ (l : List ℕ). ruled_span a.last.id.0 a.last.csn.0 (read_tx l)) (from a.s.now c.loop-tx.at)) ∙ c.in_ok-size.was

below : (c : In_ok-size) → c.loop-tx.tx-index < c.args.n
below c = omega (arith, used c.empty-txs.result c.args.n c.requires, c.loop-tx-test.true)

within : (c : In_ok-size) → (c.loop-tx.at + c.in_ok-size.size ≤ length c.args.s.now) × (c.loop-tx.at + 8 ≤ length c.args.s.now)
within c =
    let a = c.args in
    list_within a.last.id.0 a.last.csn.0 a.s.now c.loop-tx.at a.n c.loop-tx.tx-index (below c) _ (size c) c.loop-tx.invariant.within

pub loop-tx-init : goal.loop-tx-init
loop-tx-init c =
    let a = c.args in
    let z : a.n ≡ a.n - 0 = omega arith in
    let e : replicate 8 no_head ≡ whole (take a.n (replicate 8 c.empty-txs.result)) a.n =
    sym (take-append-drop a.n (replicate 8 no_head)) ∙ ap (λ (h : TxHead). whole (take a.n (replicate 8 h)) a.n) (sym c.empty-txs.ensures) in
    record {
      within = omega arith;
      same = list_start (ruled a.last.id.0 a.last.csn.0 (read_txs a.n a.s.now))
          ∙ ap₂ (λ (hs : List TxHead) (m : ℕ). listed_from hs 0 0 (ruled a.last.id.0 a.last.csn.0 (read_txs m a.s.now))) e z;
    }

pub returns-in_err-size : goal.returns-in_err-size
returns-in_err-size c =
    let a = c.args in
    let l = c.loop-tx in
    let b : l.tx-index < a.n = omega (arith, used c.empty-txs.result a.n c.requires, c.loop-tx-test.true) in
    let e : ruled_span a.last.id.0 a.last.csn.0 (read_tx (drop l.at a.s.now)) ≡ None =
    sym (c.ruled_size.ensures ∙ ap (λ (l : List ℕ). ruled_span a.last.id.0 a.last.csn.0 (read_tx l)) (from a.s.now l.at)) ∙ c.in_err-size.was in
    c.from_residual.ensures
    ∙ sym (l.invariant.same ∙ ap (listed_from (whole l.tx-items a.n) l.at l.tx-index) (list_stop a.last.id.0 a.last.csn.0 a.s.now l.at a.n l.tx-index b e))

pub read_key-key-requires : goal.read_key-key-requires
read_key-key-requires c =
    let w = within (goal.at.read_key-key-requires c).In_ok-size in
    rw (from c.args.s.now c.loop-tx.at) (rw length-drop (omega (arith, w.1)))

pub overflow_add-at : goal.overflow_add-at
overflow_add-at c = let w = within (goal.at.overflow_add-at c).In_ok-size in omega (arith, w.0, c.well_formed)

pub loop-tx-preserved : goal.loop-tx-preserved
loop-tx-preserved c =
    let a = c.args in
    let l = c.loop-tx in
    let t = (goal.at.loop-tx-preserved c).In_ok-size in
    let k = c.read_key-key.ensures in
    let n = l.tx-index in
    let long : n < length l.tx-items = omega (arith, l.auto.tx-items, c.loop-tx-test.true) in
    let rest = ruled a.last.id.0 a.last.csn.0 (read_txs (a.n - (n + 1)) (drop (l.at + c.in_ok-size.size) a.s.now)) in
    record {
      within = (within t).0;
      same = l.invariant.same
          ∙ list_go a.last.id.0 a.last.csn.0 a.s.now l.at a.n n (below t) _ (size t) (whole l.tx-items a.n) c.read_key-key.result
          (k.id_value ∙ ap (λ (s : List ℕ). be16 s 0) (from a.s.now l.at)) (k.csn_value ∙ ap (λ (s : List ℕ). be32 s 3) (from a.s.now l.at))
          ∙ ap (λ (hs : List TxHead). listed_from hs (l.at + c.in_ok-size.size) (n + 1) rest)
          (set-append_left l.tx-items (drop a.n (replicate 8 no_head)) n (record { key = c.read_key-key.result; at = l.at }) long);
    }

pub returns : goal.returns
returns c =
    let a = c.args in
    let l = c.loop-tx in
    let z : a.n - l.tx-index ≡ 0 = omega (arith, used c.empty-txs.result a.n c.requires, c.loop-tx-test.false) in
    ap (λ (h : TxHead). Some (l.tx-items ++ drop a.n (replicate 8 h))) c.empty-txs.ensures
    ∙ sym
    (l.invariant.same
    ∙ ap (λ (m : ℕ). listed_from (whole l.tx-items a.n) l.at l.tx-index (ruled a.last.id.0 a.last.csn.0 (read_txs m (drop l.at a.s.now)))) z)
