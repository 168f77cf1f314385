pub mod Troubles
pub mod Types
