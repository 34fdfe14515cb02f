-- What is put of a text (Putting), how a restart with stores enough ends (Endings), M1's text (Worked).
pub mod Putting
pub mod Endings
mod Worked
