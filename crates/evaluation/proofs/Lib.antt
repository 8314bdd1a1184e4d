pub mod Steps
pub mod Settled
pub mod Runs
pub mod Determinism
pub mod Soundness
pub mod Completeness
pub mod Exactly
