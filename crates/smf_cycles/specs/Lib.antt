pub mod Paths
pub mod Ranks
pub mod Searches
pub mod Components
pub mod Turns
