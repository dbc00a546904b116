-- A unit's words, for the definitions of the crates above.
pub mod Fields
pub mod Forms
pub mod Phases
