pub mod Numbers
pub mod Streams
pub mod HandedBack
