-- Laws of what is looked up on a disk: the first groups of its log, by cases (Applying), and up to restart (Advancing); one page of its pattern, and sixteen (Paging); the outcomes of a list of ids (Walking).
pub mod Applying
pub mod Advancing
pub mod Cases
pub mod Paging
pub mod Walking
pub mod OutcomeCases
