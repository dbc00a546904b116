-- Every state that a call leaves is in range (Units to Closed, Lengths, Answers); demand 1 (Refusals, Witness); both on bytes (Carried);
-- what a host's calls and runs of turns come to (Turns, Driven), and what their caller is told (Told).
pub mod Walks
pub mod Units
pub mod Command
pub mod Receive
pub mod Control
pub mod Closed
pub mod Lengths
pub mod Answers
pub mod Refusals
pub mod Witness
pub mod Carried
pub mod Accepted
pub mod Outside
pub mod Turns
pub mod Driven
pub mod Told
