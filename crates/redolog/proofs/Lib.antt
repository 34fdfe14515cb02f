-- The laws of the log's format, by what they say: reading (Reader, RecordLaws, GroupLaws, LogLaws), a first commit number as found (FoundLaws), why it
-- stops (StopLaws, LogStops), what the code's answers say (Inversions), round trip and prefix (RoundTrip), soundness (Soundness), cut and zeroed
-- lists (Torn) and where they end (Ended), parts of a log (Parts), stores (StoreLaws, FlatLaws), stores into a part of a disk and beside it (PartLaws);
-- worked cases (Cases).
pub mod Basics
pub mod Reader
pub mod RecordLaws
pub mod StopLaws
pub mod GroupLaws
pub mod LogLaws
pub mod Inversions
pub mod RoundTrip
pub mod Soundness
pub mod Torn
pub mod Ended
pub mod FoundLaws
pub mod LogStops
pub mod Parts
pub mod StoreLaws
pub mod FlatLaws
pub mod PartLaws
pub mod Cases
