-- Which frames are addressed to us, for the definitions of the crates above.
pub mod Match
