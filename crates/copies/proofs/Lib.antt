-- What the copies rest on.
pub mod Laws
pub mod Turns
pub mod Overlaid
