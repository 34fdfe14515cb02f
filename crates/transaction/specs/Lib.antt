-- One transaction: its flat arrays, what is seen in them, the rules, and what the calls do to it.
pub mod Lists
pub mod Flat
pub mod View
pub mod Rules
pub mod Steps
