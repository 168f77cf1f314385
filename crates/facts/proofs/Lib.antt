pub mod Keeping
pub mod Places
pub mod Breaking
pub mod Members
pub mod Apart
pub mod Fibre
pub mod Coax
