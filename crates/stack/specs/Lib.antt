pub mod Live
pub mod Ends
