pub mod Symbols
pub mod Grammar
pub mod Fields
pub mod Questions
pub mod Lines
pub mod Rows
pub mod Writing
