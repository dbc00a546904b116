-- What an arrival comes to in numbers, for the contracts of this crate and the crates above it.
pub mod Arrives
