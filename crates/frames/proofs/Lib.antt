-- Demand 2 of frames. What every call makes of the setup: `Setups`; what a Transmit's turns make of the outgoing area: `Sent`. Which are addressed to us: `Filtered`. At an arrival: `Arrival.arrival_fate`, and a theorem for each class of frames; why it is
-- dropped: `Reasons`. At every call while a frame is held: `Held.good_held`, `Held.bad_held`; as facts about memory at exit `Stands.good_exit`,
-- `Stands.bad_exit`, and when their premise is met, `Clear`; the header in the descriptor, part by part, `Parts`.
-- What the buffers get, put together: `Data.delivered`, `Data.arrived`, on bytes `Data.delivered_on_bytes`, `Data.arrived_on_bytes`.
-- Over whole traces: `Fates.conserved`, `Fates.exactly_one`, `Fates.all_fates`, `Fates.all_proper`.
-- Over calls on the areas that are lent: an arrival, `Arrived`; all, `OnBytes`.
-- That calls that are not refused meet the premises: `Accepted`. Runs that meet them: the room traced.
pub mod Arrival
pub mod End
pub mod Held
pub mod Setups
pub mod Sent
pub mod Filtered
pub mod Sound
pub mod Stands
pub mod Clear
pub mod Parts
pub mod Data
pub mod Fates
pub mod Arrived
pub mod Reasons
pub mod OnBytes
pub mod Accepted
