-- The calls on bytes: an answer as one number, the table of refusals, the calls.
pub mod Answer
pub mod Refusals
pub mod Calls
