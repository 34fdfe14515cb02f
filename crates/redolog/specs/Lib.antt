-- The log's format (document 01, "Log records"), and stores in order. `Reader` is the recursion that the readers of lists share.
pub mod Number
pub mod Reader
pub mod Stop
pub mod Record
pub mod Group
pub mod Log
pub mod Found
pub mod Flat
pub mod Stores
