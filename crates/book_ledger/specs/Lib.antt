pub mod Codes
pub mod Words
pub mod Tables
pub mod Lent
pub mod Count
pub mod Sizes
