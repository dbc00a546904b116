-- What the proofs of this crate and of the crates above it cite.
pub mod Laws
pub mod Fields
pub mod Bytes
pub mod Power
pub mod Places
pub mod Runs
