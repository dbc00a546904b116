-- The function HASH: its values, and that the faster form of it is the paper's program.
mod Xor
mod Runs
mod Flags
pub mod Faster
pub mod Shown
