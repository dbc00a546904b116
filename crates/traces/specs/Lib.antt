-- What happens over time: on the chip's state, and on the areas that are lent; what may happen, and what is asked of the host.
pub mod Event
pub mod Bytes
pub mod Areas
pub mod Driven
pub mod Told
