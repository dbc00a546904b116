-- Shared memory and addresses, for the contracts of this crate and the definitions of the crates above it.
pub mod Memory
pub mod Address
pub mod Size
