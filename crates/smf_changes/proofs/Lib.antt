pub mod Sameness
pub mod Merges
pub mod Patches
pub mod Touches
pub mod Numbers
pub mod SnapshotBounds
pub mod Owned
pub mod Records
