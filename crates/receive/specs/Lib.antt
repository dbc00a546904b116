-- The receive unit, in document 01's order: arrival, what it works with, begin, buffer, end.
pub mod Arrival
pub mod Part
pub mod Begin
pub mod Buffer
pub mod End
pub mod Service
