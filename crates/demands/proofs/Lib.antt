-- The demands, sentence by sentence; that 132 is exact for every chip, and that demand 3's premises of a chip can be met.
pub mod Sharp
pub mod Witness
pub mod Demands
