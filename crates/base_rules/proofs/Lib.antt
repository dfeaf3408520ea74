pub mod Steps
pub mod Uptos
pub mod Ons
pub mod Chains
pub mod Facts
