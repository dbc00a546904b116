-- What the proofs of the crates above cite, what an MC-Setup and a Configure leave, and what the actions say, sentence by sentence.
pub mod Laws
pub mod Filtered
pub mod Configured
pub mod Shown
