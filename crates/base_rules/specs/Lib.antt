pub mod Rule
pub mod Upto
pub mod Basics
