pub mod Fits
pub mod Numbered
pub mod Reading
pub mod States
