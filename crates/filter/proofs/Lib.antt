-- What a filter's bits are, and what Match says, clause by clause.
pub mod Laws
pub mod Shown
