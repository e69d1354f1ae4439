pub mod Colons
pub mod Sessions
