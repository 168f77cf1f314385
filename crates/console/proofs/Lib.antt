pub mod Saying
pub mod Spelling
