-- A line prints its text (Line), of an answer its parts (Answers); it fits (Fits, Reading); a run prints the same however its input is cut
-- (Run); what the program prints in all (Whole), which stream has what of it (Streams), and where it cuts (Cuts).
pub mod Line
pub mod Answers
pub mod Fits
pub mod Reading
pub mod Run
pub mod Whole
pub mod Streams
pub mod Cuts
