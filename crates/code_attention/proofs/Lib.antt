-- The laws of this crate, for the crates above it.
pub mod Cleared
pub mod Codes
pub mod States
pub mod Parts
