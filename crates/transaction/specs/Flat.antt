-- The values of the flat arrays: all zero, and what the logic reads past the end of an array of transactions.
use Rattle.std.specs.Prelude.{◌*◌, [], replicate}
use Rattle.layout.specs.{max_records, max_write, max_savepoints}
use Rattle.transaction.specs.declared.ranges.Ranges.{Ranges}
use Rattle.transaction.specs.declared.records.Records.{Records}
use Rattle.transaction.specs.declared.savepoints.Savepoints.{Savepoints}
use Rattle.transaction.specs.declared.Extras.{Extras}
use Rattle.transaction.specs.declared.Tx.{Tx}

abbrev pub empty_ranges : Ranges
empty_ranges = record { count = 0; addr = replicate max_records 0; len = replicate max_records 0 }

unfoldable pub empty_records : Records
empty_records = record { ranges = empty_ranges; bytes = replicate (max_records * max_write) 0 }

abbrev pub empty_savepoints : Savepoints
empty_savepoints = record { count = 0; names = replicate max_savepoints 0; counts = replicate max_savepoints 0 }

-- nothing kept beyond the records
abbrev pub empty_extras : Extras
empty_extras = record { reads = empty_ranges; savepoints = empty_savepoints }

-- what an unused slot holds
unfoldable pub empty_tx : Tx
empty_tx = record { id = record { 0 = 0 }; status = 0; csn = record { 0 = 0 }; undo = empty_records; redo = empty_records; extras = empty_extras }

abbrev pub no_ranges : Ranges
no_ranges = record { count = 0; addr = []; len = [] }

abbrev pub no_records : Records
no_records = record { ranges = no_ranges; bytes = [] }

abbrev pub no_extras : Extras
no_extras = record { reads = no_ranges; savepoints = record { count = 0; names = []; counts = [] } }

abbrev pub no_tx : Tx
no_tx = record { id = record { 0 = 0 }; status = 0; csn = record { 0 = 0 }; undo = no_records; redo = no_records; extras = no_extras }
