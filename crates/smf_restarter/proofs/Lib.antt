mod Judgments
mod RunPlaces
pub mod OtherInstances
pub mod IdleTicks
mod RestlessList
mod Rooms
pub mod PastRuns
