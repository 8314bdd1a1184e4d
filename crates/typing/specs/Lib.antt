pub mod Fitting
pub mod Tests
pub mod Rules
pub mod Meaning
