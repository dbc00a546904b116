-- What the proofs of this crate and of the crates above it cite, and what the definitions say in numbers.
pub mod Laws
pub mod Header
pub mod Shown
