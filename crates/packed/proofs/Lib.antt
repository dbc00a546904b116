-- The laws of this crate, for the crates above it.
pub mod Laws
pub mod Words
pub mod Pausing
pub mod States
pub mod SetUps
mod Forms
