-- A list that meets the premises (Witness), on lent bytes (BytesWitness) and by runs (RunsWitness), one at an unruly start (Suspended), one that is
-- resumed (Resumed), one with an MC-Setup over the end of memory (Grouped), and one that changes address length and location for its own later commands
-- (Buffered); that 132 turns a command are exact (Exact).
pub mod Witness
pub mod Suspended
pub mod Resumed
pub mod Grouped
pub mod Buffered
pub mod Exact
pub mod BytesWitness
pub mod RunsWitness
