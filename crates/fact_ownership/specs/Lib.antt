pub mod Owned
pub mod Always
pub mod Reached
