pub mod Same
pub mod Changes
pub mod Candidates
pub mod Recorded
pub mod Owned
pub mod ChangeRecord
