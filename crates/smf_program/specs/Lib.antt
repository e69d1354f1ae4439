pub mod Words
pub mod Tasks
pub mod Refusals
pub mod Messages
pub mod Examples
