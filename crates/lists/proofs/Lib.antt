-- A command list is done: the laws of taking turns, the starting attention, and list order service by service; the same on bytes; the premises as
-- tests that compute (Tests).
pub mod Laws
pub mod Seen
pub mod Start
pub mod Blocks
pub mod Setups
pub mod Stands
pub mod Begins
pub mod Chain
pub mod Ends
pub mod Acts
pub mod Complete
pub mod Order
pub mod Whole
pub mod Bytes
pub mod Lift
pub mod Accepted
pub mod Tests
