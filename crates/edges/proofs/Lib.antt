-- Document 01's rules at their edges, shown of the definitions by computation.
pub mod Edges
