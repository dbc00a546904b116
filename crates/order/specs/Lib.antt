-- What is ordered of the builder: the order as a value, its limits.
pub mod Order
pub mod Limits
