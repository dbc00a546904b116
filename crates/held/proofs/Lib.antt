-- A held frame is stored or counted within 132 turns, and no fewer would do.
pub mod Service
pub mod Turn
pub mod Ending
pub mod Held
pub mod Whole
pub mod Exact
pub mod OnRecords
pub mod Lending
pub mod Calls
