-- A channel attention: the status that it writes, and all its steps.
pub mod Status
pub mod Attention
