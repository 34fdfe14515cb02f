-- Tails whose zeros are left out (Padded). The table M1 to M10: calls fast enough to be computed (Quick), that they are right (QuickRight,
-- QuickMemory, QuickStores, QuickRestart), and lists of them (QuickRun); the one proof (Cases). Demand 3: what a disk and a world show of
-- `recovery`'s machine (OnDisk, Shows), each call as a step of it (MemorySteps, FlushSteps, CheckpointSteps, RestartSteps), the claim (Theorem). On its lists readers hold
-- (Apart); undo records have what stood, and a return leaves it (OpenRuns, Savepoints).
pub mod Padded
pub mod Quick
pub mod QuickRight
pub mod QuickMemory
pub mod QuickStores
pub mod QuickRestart
pub mod QuickRun
pub mod Cases
pub mod OnDisk
pub mod Shows
pub mod MemorySteps
pub mod FlushSteps
pub mod CheckpointSteps
pub mod RestartSteps
pub mod Theorem
pub mod Apart
pub mod OpenRuns
pub mod Savepoints
