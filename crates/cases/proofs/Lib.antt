-- Points that could be read two ways, and larger memories, shown of the definitions by computation.
pub mod Readings
pub mod Prepared
pub mod Wide
pub mod Runs
