pub mod Claims
pub mod Enabled
pub mod Groups
pub mod Ordered
pub mod Started
pub mod Stopped
pub mod Values
