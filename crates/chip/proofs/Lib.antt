-- Document 01's cases, shown of the definitions by computation; what a turn and a run of turns come to, and what they answer.
pub mod Board
pub mod Shown
pub mod Papers
pub mod Swaps
pub mod Status
pub mod Moves
pub mod Run
pub mod Answers
