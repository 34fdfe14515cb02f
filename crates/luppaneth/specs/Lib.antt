-- What the exported calls answer with, in the calls' own words.
pub mod Reply
pub mod Looks
pub mod Version
