-- What the proofs of this crate and of the crates above it cite.
pub mod Steps
pub mod Units
pub mod Exact
pub mod Tests
pub mod Lent
pub mod Examples
mod Order
