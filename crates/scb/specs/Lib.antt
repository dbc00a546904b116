-- The words of the SCB, for the contracts of this crate and the definitions of the crates above it.
pub mod Words
pub mod Control
pub mod Numbers
