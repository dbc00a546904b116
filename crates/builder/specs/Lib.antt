-- The builder: the pieces of an order, where they lie and what memory then is; what it refuses; the order that a memory was built from.
pub mod Pieces
pub mod Built
pub mod Reading
pub mod Laid
