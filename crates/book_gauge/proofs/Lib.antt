pub mod Value
pub mod Order
pub mod Bits
pub mod Power
pub mod Marks
pub mod Laws
