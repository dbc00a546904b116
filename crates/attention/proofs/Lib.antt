-- What this crate's definitions say where another reading would swap the columns, and step by step.
pub mod Swaps
pub mod Shown
