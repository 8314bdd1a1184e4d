pub mod NumberKind
pub mod Millimetre
pub mod Metre
pub mod MillimetreLaws
pub mod MetreLaws
pub mod Words
