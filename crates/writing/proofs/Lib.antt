pub mod Tail
pub mod Line
