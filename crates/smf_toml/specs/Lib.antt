pub mod Pieces
pub mod Commands
pub mod Lines
