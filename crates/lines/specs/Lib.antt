-- How a list of calls is read, character by character: docs/replay.md, "Lines" and "Bad input".
pub mod Reader
