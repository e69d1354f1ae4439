pub mod Tasks
pub mod Apps
pub mod Told
