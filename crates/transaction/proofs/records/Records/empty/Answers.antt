use Rattle.transaction.specs.Flat.{empty_records}
use Rattle.transaction.proofs.records.Records.empty.Goals as goal

pub returns : goal.returns
unfolding empty_records
returns c = rw c.empty.ensures
