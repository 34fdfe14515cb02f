-- The checkpoint image (document 01: image): what it holds, its rules, its bytes, and what the calls answer.
pub mod Slots
pub mod Keys
pub mod Rules
pub mod Content
pub mod Format
pub mod Reading
pub mod Pack
pub mod Decode
pub mod Heads
