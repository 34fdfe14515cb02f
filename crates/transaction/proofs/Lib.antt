-- Laws that belong to no one function.
pub mod Lists
pub mod First
pub mod Pairs
pub mod RangeLaws
pub mod Writes
pub mod Pushed
pub mod Held
pub mod Cover
pub mod Heads
pub mod SavepointLaws
pub mod StateRule
pub mod Returning
