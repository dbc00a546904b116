-- What the proofs of the crates above cite; where another reading would swap the columns; and what the definitions say, sentence by sentence.
pub mod Laws
pub mod Header
pub mod Swaps
pub mod Shown
