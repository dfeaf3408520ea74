pub mod Ons
pub mod Parts
