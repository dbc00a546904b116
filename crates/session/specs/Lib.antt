-- A run of lines, and the session that the code holds for it.
pub mod Run
pub mod Held
