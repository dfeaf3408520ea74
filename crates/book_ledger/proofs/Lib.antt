pub mod Packing
pub mod Outside
pub mod Lens
