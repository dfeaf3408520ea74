pub mod Open
pub mod Right
pub mod Run
pub mod Witness
