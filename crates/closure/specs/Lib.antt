-- What every call keeps; the table of refusals; from states to bytes, for a call and for a run of turns.
pub mod Sound
pub mod Refusals
pub mod Carried
pub mod Turns
