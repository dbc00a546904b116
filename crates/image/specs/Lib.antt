-- The record's layout and ranges, for the contracts of this crate and the definitions of the crates above it.
pub mod Ranges
pub mod Found
pub mod Image
pub mod Numbers
