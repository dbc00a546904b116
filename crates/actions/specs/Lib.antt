-- The actions of the commands: where a block has its fields, what commands set up, the actions themselves.
pub mod Block
pub mod Setup
pub mod Actions
pub mod Filtered
