pub mod Marks
pub mod Fits
pub mod Rows
