-- The shapes of the contracts of the actions over lent bytes.
pub mod Acts
