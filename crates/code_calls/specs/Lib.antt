-- What the inner functions of the calls ensure.
pub mod Inner
