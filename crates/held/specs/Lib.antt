-- Demand 3, second half: the held frame, over states and over records.
pub mod Held
pub mod OnRecords
