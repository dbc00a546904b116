-- The words of a list of calls, and what a line's words must be: docs/replay.md, "Lines" and "Bad input".
pub mod Chars
pub mod Names
pub mod Spelling
pub mod Lines
pub mod Take
