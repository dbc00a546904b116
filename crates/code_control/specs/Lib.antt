-- A control code obeyed over numbers, for the contracts of this crate and the crates above it.
pub mod Obeys
