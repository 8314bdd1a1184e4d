pub mod Floats
pub mod FloatLaws
pub mod Exactness
