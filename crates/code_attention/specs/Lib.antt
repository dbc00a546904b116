-- An attention over numbers, for the contracts of this crate and the crates above it.
pub mod Attends
