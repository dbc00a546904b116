-- What a line prints, what a run prints and on which stream, and what every line keeps.
pub mod Line
pub mod Run
pub mod Streams
pub mod Sane
