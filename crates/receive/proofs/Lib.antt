-- What the receive unit's definitions say where another reading would swap the columns, and sentence by sentence.
pub mod Swaps
pub mod Shown
