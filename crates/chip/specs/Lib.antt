-- The four calls, and runs of turns, over a device and the three lists that are lent with it.
pub mod World
pub mod Attention
pub mod Arrival
pub mod Turn
pub mod Run
pub mod Call
pub mod Cases
