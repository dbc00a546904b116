-- Places of a list of bytes, for the contracts of this crate and the definitions of the crates above it.
pub mod Places
