-- The command unit's service, in document 01's order: what it works with, begin, buffer, end.
pub mod Part
pub mod Begin
pub mod Buffer
pub mod End
pub mod Service
