pub mod Fill
pub mod Marks
pub mod Update
