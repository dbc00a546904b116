-- Laws of the bytes that a line brings.
pub mod Laws
