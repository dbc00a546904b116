-- What a line does.
pub mod Scene
