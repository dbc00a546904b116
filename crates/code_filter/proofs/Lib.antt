-- What is read of the lent bytes, what is compared at once, and what the destination says of its frame.
mod Laws
mod AtOnce
pub mod Destination
