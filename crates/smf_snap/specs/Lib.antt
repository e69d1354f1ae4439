pub mod Composed
pub mod Snapshots
pub mod Names
pub mod Body
