pub mod Ends
pub mod Lengths
