mod Beginning
mod Careful
mod Clearing
mod Contracts
pub mod Hearing
mod Lifetimes
pub mod Living
mod Looking
mod Rooms
mod Starting
mod Sweeping
mod Tokens
