-- What the proofs of this crate and of the program above it cite.
pub mod Laws
