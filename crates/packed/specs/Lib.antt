-- The units' state as numbers, for the contracts of this crate and the crates above it.
pub mod Packed
pub mod SetUp
pub mod Record
