-- Restart's steps 2 to 5, of an image, the log's bytes from its log end on, memory and tail.
pub mod Slots
pub mod Forward
pub mod Undo
pub mod Restart
pub mod Turns
