-- The laws of the ledger with reads. Worked cases of the ledger and of the calls (Cases, Worked); without its reads it is the ledger (Plain); reads against the
-- order (Laying, Ordered); what a read sees of live memory (LiveRead); `recovery`'s machine with reads (Run), its invariant and every step (Assigned, Invariant,
-- Seeing), the theorem; stamps tell apart (Stamps). The calls: what was read or written is held (Held), and so is what an open transaction has read, after
-- each call (Holding, Calls); what happens to a store is a run of the machine with reads (Happenings).
pub mod Cases
pub mod Worked
pub mod Plain
pub mod Laying
pub mod Ordered
pub mod LiveRead
pub mod Run
pub mod Assigned
pub mod Invariant
pub mod Seeing
pub mod Theorem
pub mod Stamps
pub mod Held
pub mod Holding
pub mod Calls
pub mod Happenings
