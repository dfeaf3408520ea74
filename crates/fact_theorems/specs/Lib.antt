pub mod Order
pub mod Checks
pub mod Effects
pub mod Doors
pub mod Tracking
