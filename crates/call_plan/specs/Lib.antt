pub mod Edits
pub mod Lookup
pub mod Changes
pub mod Entries
