pub mod Asking
pub mod Counted
pub mod Sections
pub mod Verdicts
pub mod Flags
