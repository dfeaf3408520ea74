pub mod Bit
pub mod Uses
pub mod Lowest
pub mod Wipes
pub mod Runs
