pub mod Numbers
pub mod Harmed
pub mod Ranges
pub mod Lines
