-- The board: the device record that is held for a whole run, and the calls on it; the shape of what the front promises.
pub mod Board
pub mod Front
