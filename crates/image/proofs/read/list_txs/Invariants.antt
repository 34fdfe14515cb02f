use Rattle.std.proofs.Common.{◌≡◌, ◌-◌, ◌≤◌, ◌++◌, length, drop, replicate}
use Rattle.image.specs.Keys.{no_head}
use Rattle.image.specs.Reading.{read_txs}
use Rattle.image.specs.Heads.{ruled, listed_of}
use Rattle.image.proofs.TxReadings.{listed_from}
use Rattle.image.proofs.read.list_txs.Given as goal

abbrev pub invariant-loop-tx : goal.invariant-loop-tx
invariant-loop-tx l =
    let last = l.last.id.0 in
    let assigned = l.last.csn.0 in
    let txs = l.tx-items ++ drop l.n (replicate 8 no_head) in
    record {
      within : l.at ≤ length l.s;
      same : listed_of (ruled last assigned (read_txs l.n l.s))
          ≡ listed_from txs l.at l.tx-index (ruled last assigned (read_txs (l.n - l.tx-index) (drop l.at l.s)));
    }
