pub mod Placed
pub mod Shape
pub mod Coverage
