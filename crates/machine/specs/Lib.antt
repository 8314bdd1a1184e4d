pub mod Wanted
pub mod Flat
pub mod Seen
pub mod Steps
pub mod Does
pub mod Areas
