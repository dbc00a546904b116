-- How long a fault is.
pub mod Lengths
