-- What the stretches are, and which stream has what.
pub mod Stretches
pub mod Streams
