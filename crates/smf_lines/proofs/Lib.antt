pub mod Ended
pub mod Counts
pub mod Parts
pub mod Partly
pub mod Heard
pub mod Texts
pub mod Kept
pub mod Loops
