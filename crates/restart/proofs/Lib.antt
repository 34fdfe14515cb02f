-- The laws of restart. Recovery: what `restart_of` leaves, in recovery's terms. Under it: an image by its heads (Shown), slots (SlotLaws), the
-- image rules (Rules), the pass over the log (RedoLaws, Steps, Passed) and over its first groups (First), step 4 (Undos, Select).
pub mod Shown
pub mod SlotLaws
pub mod Rules
pub mod RedoLaws
pub mod Steps
pub mod Undos
pub mod Select
pub mod Passed
pub mod First
pub mod Recovery
