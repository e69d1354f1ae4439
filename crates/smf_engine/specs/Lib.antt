pub mod Orders
pub mod Coverage
