-- An arbitrary chip, the demands on it, and the wrong kinds of it.
pub mod Chips
pub mod Demands
pub mod Closed
pub mod Lists
pub mod Third
pub mod Frames
pub mod Kinds
pub mod Spoiled
