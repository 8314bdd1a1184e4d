pub mod Examples
pub mod Line
