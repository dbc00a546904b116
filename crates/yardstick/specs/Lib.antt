-- What the bench's own calls say.
pub mod Yardstick
