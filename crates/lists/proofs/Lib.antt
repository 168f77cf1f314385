mod Marking
mod Picking
pub mod Shortened
