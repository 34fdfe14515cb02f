-- That the outcomes told and the ledger agree.
pub mod Agreeing
