pub mod Bits
pub mod Wipe
