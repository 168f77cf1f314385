pub mod Exactly
pub mod Sized
pub mod Punctured
pub mod Accepted
pub mod Attempts
pub mod Demand
