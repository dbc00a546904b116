-- What follows of any machine that has the laws.
pub mod Trace
pub mod Same
pub mod Machine
pub mod Holder
