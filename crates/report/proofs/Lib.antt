-- Laws of Adler-32 (Adler), of the ids of a record (Ids), and of sums over the transactions listed (Counts).
pub mod Adler
pub mod Ids
pub mod Counts
