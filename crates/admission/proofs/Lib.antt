pub mod Told
pub mod Yes
pub mod Members
pub mod Shape
pub mod Keeps
