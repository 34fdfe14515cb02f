-- A call's number (Call), a record of the stream (Record), Adler-32 (Adler), and what a call's line tells (Report).
pub mod Adler
pub mod Call
pub mod Record
pub mod Report
