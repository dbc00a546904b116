-- What the rooms above cite, and what answers, lengths and refusals are.
pub mod Answer
pub mod Rows
pub mod Laws
pub mod Shown
