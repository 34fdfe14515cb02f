-- The 1993 recovery method on lists: what a reader of the later layers' claims has to believe.
pub mod Group
pub mod Lists
pub mod Savepoint
pub mod Transaction
pub mod Replay
pub mod Restart
pub mod Ledger
pub mod Machine
pub mod Claim
