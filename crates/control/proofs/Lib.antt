-- What the control codes do, row by row; and the tables over states that follow.
pub mod Shown
pub mod Table
