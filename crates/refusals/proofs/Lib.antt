pub mod Refuses
mod Unused
