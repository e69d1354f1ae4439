pub mod Faults
pub mod Timeouts
pub mod Commands
pub mod Tokens
pub mod Properties
pub mod Methods
pub mod Outcomes
