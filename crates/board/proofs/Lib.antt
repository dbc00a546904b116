-- What is lent of memory; what a board shows before the first reset, and of a device; a record and what a call leaves, as the walks of the front
-- meet them.
pub mod Laws
pub mod Parts
