pub mod Endings
pub mod Values
pub mod Evaluation
pub mod Runs
pub mod Fuel
pub mod BigStep
pub mod Correspondence
