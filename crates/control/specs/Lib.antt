-- The control codes: what each does to a unit, row by row, and how a code is obeyed.
pub mod Control
pub mod Obey
