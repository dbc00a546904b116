-- The device's state and what a call answers, for the contracts of this crate and the definitions of the crates above it.
pub mod Limits
pub mod Header
pub mod Numbers
pub mod State
pub mod Change
pub mod Answers
