pub mod Calls
pub mod Histories
pub mod Answered
pub mod Stations
pub mod Promise
