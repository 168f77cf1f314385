pub mod Accepted
