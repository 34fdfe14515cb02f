-- The store: the state, number 2, the refusals of each call in the list's order, and what each call leaves in memory, tail and disk.
pub mod State
pub mod Answer
pub mod Extents
pub mod Rules
pub mod Admission
pub mod Numbers
pub mod Steps
pub mod Calls
pub mod View
pub mod Stored
pub mod Flush
pub mod Checkpoint
pub mod Same
pub mod Apart
