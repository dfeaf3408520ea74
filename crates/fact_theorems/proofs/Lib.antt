pub mod Firsts
pub mod Answers
pub mod Effects
pub mod Outcomes
pub mod Doors
pub mod Fills
pub mod Tracking
pub mod DoorRuns
