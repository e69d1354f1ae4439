pub mod Stops
pub mod Steps
pub mod Laws
pub mod Seconds
pub mod Plan
pub mod Text
