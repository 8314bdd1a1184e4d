pub mod Letters
pub mod Types
pub mod Sites
pub mod Nodes
pub mod Entries
pub mod Verdict
pub mod Meaning
