pub mod Spelled
pub mod Lines
