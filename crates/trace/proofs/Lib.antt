-- Laws of stores past a list's end (PastEnd).
pub mod PastEnd
