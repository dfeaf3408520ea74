pub mod Places
pub mod Shifts
pub mod Ranges
pub mod Ends
pub mod Differs
