-- What the proofs of this crate and of lentoquist cite.
pub mod Asks
mod Laws
