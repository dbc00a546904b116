-- The function HASH, for the contracts of this crate and the definitions of the crates above it.
pub mod Hash
pub mod Numbers
pub mod Values
