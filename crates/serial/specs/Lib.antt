-- The ledger with reads (Ledger), what is claimed of it (Claim), and the claim for every list of happenings (Demand).
pub mod Ledger
pub mod Claim
pub mod Demand
