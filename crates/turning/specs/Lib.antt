pub mod Turning
pub mod Quarters
