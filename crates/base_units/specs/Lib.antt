pub mod Limits
pub mod Address
