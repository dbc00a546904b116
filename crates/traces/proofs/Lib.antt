-- What an answer says, what an event is, and what calls come to that are refused.
pub mod Shown
