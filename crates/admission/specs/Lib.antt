pub mod Questions
pub mod Verdict
pub mod Meaning
pub mod Worked
