-- The chip in numbers: what a turn, a run of turns and an arrival come to, for the contracts of this crate and the crates above it.
pub mod Does
