-- What the replay program prints, for the contracts of this crate and the definitions of the crates above it.
pub mod Codes
pub mod Texts
pub mod Page
pub mod Items
