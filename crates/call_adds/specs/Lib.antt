pub mod Adds
