pub mod Levels
pub mod Sets
pub mod Exactly
pub mod Nodes
