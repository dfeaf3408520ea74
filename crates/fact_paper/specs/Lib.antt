pub mod Numbers
pub mod Asked
pub mod Harmed
pub mod Ranges
pub mod Lines
