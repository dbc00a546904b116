-- Traces in general; two units that take turns over one memory: bytes at listed addresses, the one unit's list, the other unit's held frame.
pub mod Trace
pub mod Same
pub mod Machine
pub mod Holder
