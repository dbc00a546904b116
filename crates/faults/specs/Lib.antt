-- What is said of a bad line, for the contracts of this crate and the definitions of the crates above it.
pub mod Faults
