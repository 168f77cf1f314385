pub mod Decimals
pub mod Same
