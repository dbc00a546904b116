-- The laws of this crate, for the crates above it.
pub mod Flags
pub mod CuCodes
pub mod RuCodes
