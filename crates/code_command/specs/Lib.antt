-- The shapes of the contracts of the command unit's service over numbers.
pub mod Serves
pub mod Inner
