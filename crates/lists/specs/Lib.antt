-- Demand 3, first half: the bytes of a command list, the command unit as one of two that take turns, and what it means that the list is done;
-- the same over the areas that the host lends.
pub mod Uses
pub mod Unit
pub mod Seen
pub mod Done
pub mod OnBytes
