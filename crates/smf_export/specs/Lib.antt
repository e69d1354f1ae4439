pub mod Choices
pub mod Configured
pub mod Turns
pub mod Scripts
