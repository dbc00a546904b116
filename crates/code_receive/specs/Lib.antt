-- What a service comes to in numbers, for the contracts of this crate and the crates above it.
pub mod Receives
