pub mod Cells
pub mod Carry
pub mod Flatten
pub mod Opened
pub mod Loading
pub mod Shaped
pub mod Verdicts
