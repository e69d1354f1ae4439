pub mod Children
pub mod Leftovers
pub mod Replies
pub mod Sights
pub mod Starts
pub mod Sweeps
pub mod Words
