-- What the code of an arrival rests on, and the code of the receive unit.
pub mod Laws
pub mod Units
