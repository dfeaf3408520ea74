pub mod Sweeps
pub mod Carried
