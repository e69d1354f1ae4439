pub mod DigitFields
pub mod Finding
pub mod Joined
pub mod Readings
pub mod WordFields
