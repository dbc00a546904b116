-- What becomes of each frame: what is set up, and what the filter is; at an arrival, and why it is dropped; at every call while it is held; at exit, in memory; what
-- the buffers get of it; over whole traces; where a call is not refused; over the calls on the areas that a host lends.
pub mod Arrival
pub mod Reasons
pub mod Held
pub mod Setups
pub mod Sent
pub mod Filtered
pub mod Stands
pub mod Data
pub mod Fates
pub mod Accepted
pub mod OnBytes
